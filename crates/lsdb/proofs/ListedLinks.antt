-- What an edge of the link state is, by the links that are listed.
use Rattle.std.proofs.Common.{ℤ, not, ◌+◌, ◌≡◌, ℕ, ◌≤◌, Bool, true, false, cond, ◌&&◌, ◌==◌, ◌⊎◌, ◌↔◌, List, [], ◌∷◌, ◌++◌, map, filter, Contains, Option, Some, None, IfSome, IsSomeAnd, is_some, int_lt, nat_lt, refl, sym, ap, subst, ◌∙◌, inl, inr, arith, eqb-true}
use Rattle.std.proofs.lemmas.Bool.{false≢true}
use Rattle.std.proofs.lemmas.Bool.Decides.{nat_tests}
use Rattle.std.proofs.lemmas.List.Elements.{Contains-append_left, Contains-append_right, Contains-append_cases}
use Rattle.rcp_base.specs.declared.names.Edge.{Edge}
use Rattle.rcp_base.specs.Maps.{get_at, put_at, without}
use Rattle.rcp_model.specs.LinkState.{LsaHeader, RouterLink, RouterLsa, Kept, LinkState, same_number, kept_of, is_more_recent, Installation, Newer, Same, Older, Flushed, Dropped, kept_after, installation, installed, aged}
use Rattle.rcp_model.specs.Edges.{metric_to, learned, edges_of}
use Rattle.rcp_model.proofs.MemberLemmas.{Contains-head, Contains-tail, Contains-cases, Contains-none}
use Rattle.rcp_base.proofs.MapLemmas.{get_at-put_at_same, get_at-put_at_other, get_at-without_passed, get_at-without_left}
use Rattle.std.proofs.lemmas.Map.Entries.{option_filter}
use Rattle.lsdb.proofs.MapOrder.{number_test, once-put, once-filter, get-filter}
use Rattle.lsdb.proofs.Installing.{state_after, is_young}
use Rattle.lsdb.specs.Links.{links_from, least_between, IsRising}
use Rattle.lsdb.specs.TwoWay.{IsMap, IsTwoWay}
use Rattle.lsdb.proofs.LeastLinks.{edge_of, metric_of, least-links, least-member, least-le, least-is}
use Rattle.lsdb.proofs.Learned.{IsTold, told-learned, learned-told}
use Rattle.lsdb.proofs.Sorting.{rising-rising, rising-member, member_of_rising}

-- ---- a link that is listed, as an edge

abbrev link_of : ℕ → ℕ → RouterLink
link_of to metric = record { id = to; kind = 1; metric = metric }

listed-link : (from to metric : ℕ) (links : List RouterLink) → Contains links (link_of to metric) → Contains (links_from from links) (edge_of from to metric)
listed-link from to metric [] member = absurd (Contains-none (link_of to metric) member)
listed-link from to metric (link ∷ links) member = by_cases (Contains-cases link links (link_of to metric) member) (listed-link from to metric links) where
  others : List Edge → Bool → List Edge
  others rest t = map (λ (l : RouterLink). edge_of from l.id l.metric) (cond t (link ∷ filter (λ (l : RouterLink). l.kind == 1) links) (filter (λ (l : RouterLink). l.kind == 1) links))

  at_test : (t : Bool) → Contains (links_from from links) (edge_of from to metric) → Contains (others [] t) (edge_of from to metric)
  at_test true rest = Contains-tail (edge_of from link.id link.metric) (links_from from links) (edge_of from to metric) rest
  at_test false rest = rest

  by_cases : (link ≡ link_of to metric) ⊎ Contains links (link_of to metric) → (Contains links (link_of to metric) → Contains (links_from from links) (edge_of from to metric)) → Contains (links_from from (link ∷ links)) (edge_of from to metric)
  by_cases (inl same) rest = subst (λ (l : RouterLink). Contains (links_from from (l ∷ links)) (edge_of from to metric)) (sym same) (Contains-head (edge_of from to metric) (links_from from links))
  by_cases (inr later) rest = at_test (link.kind == 1) (rest later)

link-listed : (from to metric : ℕ) (links : List RouterLink) → Contains (links_from from links) (edge_of from to metric) → Contains links (link_of to metric)
link-listed from to metric [] member = absurd (Contains-none (edge_of from to metric) member)
link-listed from to metric (link ∷ links) member = at_test (link.kind == 1) (eqb-true link.kind 1) (link-listed from to metric links) member where
  at_test : (t : Bool) → (t ≡ true → link.kind ≡ 1) → (Contains (links_from from links) (edge_of from to metric) → Contains links (link_of to metric))
      → Contains (map (λ (l : RouterLink). edge_of from l.id l.metric) (cond t (link ∷ filter (λ (l : RouterLink). l.kind == 1) links) (filter (λ (l : RouterLink). l.kind == 1) links))) (edge_of from to metric)
      → Contains (link ∷ links) (link_of to metric)
  at_test true is rest member = elim (Contains-cases (edge_of from link.id link.metric) (links_from from links) (edge_of from to metric) member) [
    | inl same ↦ subst (λ (l : RouterLink). Contains (link ∷ links) l) (shown (is refl) (ap (λ (e : Edge). e.to) same) (ap (λ (e : Edge). e.cost) same)) (Contains-head link links)
    | inr later ↦ Contains-tail link links (link_of to metric) (rest later)
  ] where
    with_kind : ℕ → ℕ → ℕ → RouterLink
    with_kind kind id metric = record { id = id; kind = kind; metric = metric }

    shown : link.kind ≡ 1 → link.id ≡ to → link.metric ≡ metric → link ≡ link_of to metric
    shown kind id cost = ap (λ k. with_kind k link.id link.metric) kind ∙ ap (λ k. with_kind 1 k link.metric) id ∙ ap (λ k. with_kind 1 to k) cost
  at_test false is rest member = Contains-tail link links (link_of to metric) (rest member)

-- ---- an edge of two ends

module _ (state : LinkState) (edge : Edge) where
  told-two_way : IsTold state.routers edge → IsTwoWay state edge
  told-two_way told = by_found (kept_of edge.from state) refl (kept_of edge.to state) refl told.there told.back where
    some-same : (a b : Kept) → Some a ≡ Some b → a ≡ b
    some-same a b same = cc

    some_back : (links : List RouterLink) (found : Option ℕ) → metric_to edge.from links ≡ found → is_some found ≡ true → (metric : ℕ) × Contains links (link_of edge.from metric)
    some_back links None is back = absurd (false≢true back)
    some_back links (Some metric) is back = (metric, link-listed edge.to edge.from metric links (least-member edge.to edge.from (links_from edge.to links) metric (least-links edge.to edge.from links ∙ is)))

    by_found : (u : Option Kept) → kept_of edge.from state ≡ u → (v : Option Kept) → kept_of edge.to state ≡ v → metric_of edge.from edge.to u ≡ Some edge.cost → is_some (metric_of edge.to edge.from v) ≡ true → IsTwoWay state edge
    by_found None u-is v v-is there back = absurd cc
    by_found (Some u) u-is None v-is there back = absurd (false≢true back)
    by_found (Some u) u-is (Some v) v-is there back =
        let found : least_between edge.from edge.to (links_from edge.from u.lsa.content) ≡ Some edge.cost = least-links edge.from edge.to u.lsa.content ∙ there in
        record {
          listed = (u, u-is, link-listed edge.from edge.to edge.cost u.lsa.content (least-member edge.from edge.to (links_from edge.from u.lsa.content) edge.cost found));
          least = λ metric lists.
              let same : lists.0 ≡ u = some-same lists.0 u (sym lists.1 ∙ u-is) in
              let member : Contains (links_from edge.from u.lsa.content) (edge_of edge.from edge.to metric) =
              listed-link edge.from edge.to metric u.lsa.content (subst (λ (k : Kept). Contains k.lsa.content (link_of edge.to metric)) same lists.2) in
              subst (λ f. IsSomeAnd f (λ c. c ≤ metric)) found (least-le edge.from edge.to (links_from edge.from u.lsa.content) metric member);
          back = let other = some_back v.lsa.content (metric_to edge.from v.lsa.content) refl back in (other.0, (v, v-is, other.1));
        }

  two_way-told : IsTwoWay state edge → IsTold state.routers edge
  two_way-told two_way =
      let u = two_way.listed.0 in
      let v = two_way.back.1.0 in
      let found : metric_to edge.to u.lsa.content ≡ Some edge.cost =
      sym (least-links edge.from edge.to u.lsa.content)
      ∙ sym (least-is edge.from edge.to (links_from edge.from u.lsa.content) edge.cost (listed-link edge.from edge.to edge.cost u.lsa.content two_way.listed.2)
      (λ metric member. two_way.least metric (u, two_way.listed.1, link-listed edge.from edge.to metric u.lsa.content member))) in
      record {
        there = ap (metric_of edge.from edge.to) two_way.listed.1 ∙ found;
        back = ap (λ (f : Option Kept). is_some (metric_of edge.to edge.from f)) two_way.back.1.1 ∙ back (metric_to edge.from v.lsa.content)
            (subst (λ f. IsSomeAnd f (λ c. c ≤ two_way.back.0)) (least-links edge.to edge.from v.lsa.content)
            (least-le edge.to edge.from (links_from edge.to v.lsa.content) two_way.back.0 (listed-link edge.to edge.from two_way.back.0 v.lsa.content two_way.back.1.2)));
      } where
        back : (found : Option ℕ) → IsSomeAnd found (λ c. c ≤ two_way.back.0) → is_some found ≡ true
        back None le = absurd le
        back (Some n) le = refl

pub edges-rising : (state : LinkState) (fixed : List Edge) → IsRising (edges_of state fixed)
unfolding edges_of
edges-rising state fixed = rising-rising (learned state ++ fixed)

pub edges-members : (state : LinkState) (fixed : List Edge) (edge : Edge) → IsMap state → Contains (edges_of state fixed) edge ↔ (IsTwoWay state edge ⊎ Contains fixed edge)
unfolding edges_of
edges-members state fixed edge is = (
  λ member. elim (Contains-append_cases (learned state) fixed edge (member_of_rising (learned state ++ fixed) edge member)) [
    | inl told ↦ inl (told-two_way state edge (told-learned state is.once is.own edge told))
    | inr more ↦ inr more
  ],
  λ cases. rising-member (learned state ++ fixed) edge (elim cases [
    | inl two_way ↦ Contains-append_left (learned state) fixed edge (learned-told state is.once is.own edge (two_way-told state edge two_way))
    | inr more ↦ Contains-append_right (learned state) fixed edge more
  ]),
)

-- ---- one instance of each router

own-put : (lsa : RouterLsa) (now : ℕ) (state : LinkState) → IsMap state → (k : ℕ) → IfSome (get_at same_number k (put_at same_number lsa.key (record { lsa = lsa; since = now }) state.routers)) (λ kept. kept.lsa.key ≡ k)
own-put lsa now state is k = at_test (k == lsa.key) refl where
  value : Kept
  value = record { lsa = lsa; since = now }

  at_test : (t : Bool) → (k == lsa.key) ≡ t → IfSome (get_at same_number k (put_at same_number lsa.key value state.routers)) (λ kept. kept.lsa.key ≡ k)
  at_test true same = subst (λ (f : Option Kept). IfSome f (λ kept. kept.lsa.key ≡ k))
      (sym (subst (λ j. get_at same_number j (put_at same_number lsa.key value state.routers) ≡ Some value) (sym (eqb-true k lsa.key same)) (get_at-put_at_same same_number number_test lsa.key value state.routers)))
      (sym (eqb-true k lsa.key same))
  at_test false other = subst (λ (f : Option Kept). IfSome f (λ kept. kept.lsa.key ≡ k)) (sym (get_at-put_at_other same_number number_test lsa.key k value state.routers other)) (is.own k)

own-without : (key : ℕ) (state : LinkState) → IsMap state → (k : ℕ) → IfSome (get_at same_number k (without (same_number key) state.routers)) (λ kept. kept.lsa.key ≡ k)
own-without key state is k = at_test (key == k) refl where
  at_test : (t : Bool) → (key == k) ≡ t → IfSome (get_at same_number k (without (same_number key) state.routers)) (λ kept. kept.lsa.key ≡ k)
  at_test true same = subst (λ (f : Option Kept). IfSome f (λ kept. kept.lsa.key ≡ k)) (sym (get_at-without_passed same_number number_test (same_number key) k state.routers same)) tt
  at_test false other = subst (λ (f : Option Kept). IfSome f (λ kept. kept.lsa.key ≡ k)) (sym (get_at-without_left same_number number_test (same_number key) k state.routers other)) (is.own k)

pub map-installed : (now : ℕ) (lsa : RouterLsa) (state : LinkState) → IsMap state → IsMap (installed now lsa state)
unfolding installation installed kept_after
map-installed now lsa state is = by_answer (installation now lsa state) where
  by_answer : (answer : Installation) → IsMap (state_after now lsa state answer)
  by_answer Newer = record { once = once-put lsa.key (record { lsa = lsa; since = now }) state.routers is.once; own = own-put lsa now state is }
  by_answer Flushed = record { once = once-filter (λ entry. not (same_number lsa.key entry.0)) state.routers is.once; own = own-without lsa.key state is }
  by_answer Same = is
  by_answer Older = is
  by_answer Dropped = is

pub map-aged : (now : ℕ) (state : LinkState) → IsMap state → IsMap (aged now state)
unfolding aged
map-aged now state is = record {
  once = once-filter (λ entry. is_young now entry.1) state.routers is.once;
  own = λ k. subst (λ (f : Option Kept). IfSome f (λ kept. kept.lsa.key ≡ k)) (sym (get-filter k (is_young now) state.routers is.once)) (filtered k (get_at same_number k state.routers) (is.own k));
} where
  filtered : (k : ℕ) (found : Option Kept) → IfSome found (λ kept. kept.lsa.key ≡ k) → IfSome (option_filter (is_young now) found) (λ kept. kept.lsa.key ≡ k)
  filtered k None own = own
  filtered k (Some instance) own = at_test (is_young now instance) where
    at_test : (t : Bool) → IfSome (cond t (Some instance) None) (λ kept. kept.lsa.key ≡ k)
    at_test true = own
    at_test false = tt

-- ---- recency

younger : (m n : ℕ) → nat_lt (m + 900) n ≡ true → nat_lt (n + 900) m ≡ false
younger m n h = grind (arith, nat_tests)

not_both : (p q r s t u : Bool) (m n : ℕ) → (p ≡ true → q ≡ true → ⊥) → (r ≡ true → s ≡ true → ⊥)
    → cond p true (cond q false (cond r true (cond s false (cond (t && not u) true (cond (u && not t) false (nat_lt (m + 900) n)))))) ≡ true
    → cond q true (cond p false (cond s true (cond r false (cond (u && not t) true (cond (t && not u) false (nat_lt (n + 900) m)))))) ≡ false
not_both true true r s t u m n sequence checksum h = absurd (sequence refl refl)
not_both true false r s t u m n sequence checksum h = refl
not_both false true r s t u m n sequence checksum h = absurd (false≢true h)
not_both false false true true t u m n sequence checksum h = absurd (checksum refl refl)
not_both false false true false t u m n sequence checksum h = refl
not_both false false false true t u m n sequence checksum h = absurd (false≢true h)
not_both false false false false true true m n sequence checksum h = younger m n h
not_both false false false false true false m n sequence checksum h = refl
not_both false false false false false true m n sequence checksum h = absurd (false≢true h)
not_both false false false false false false m n sequence checksum h = younger m n h

pub not-both : (a b : LsaHeader) → is_more_recent a b ≡ true → is_more_recent b a ≡ false
not-both a b h = not_both (int_lt b.sequence a.sequence) (int_lt a.sequence b.sequence) (nat_lt b.checksum a.checksum) (nat_lt a.checksum b.checksum) (a.age == 3600) (b.age == 3600) a.age b.age
    (signed a.sequence b.sequence) (numbers a.checksum b.checksum) h where
      signed : (m n : ℤ) → int_lt n m ≡ true → int_lt m n ≡ true → ⊥
      signed m n p q = grind (arith, nat_tests)

      numbers : (m n : ℕ) → nat_lt n m ≡ true → nat_lt m n ≡ true → ⊥
      numbers m n p q = grind (arith, nat_tests)
