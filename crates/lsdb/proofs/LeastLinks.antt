-- The least cost between two routers, among edges and among the links that are kept.
use Rattle.std.proofs.Common.{◌≡◌, ℕ, ◌≤◌, Bool, true, false, cond, ◌&&◌, ◌==◌, ◌⊎◌, ◌↔◌, List, [], ◌∷◌, ◌++◌, map, filter, min, Contains, Option, Some, None, IsSomeAnd, refl, sym, ap, ap₂, subst, ◌∙◌, inl, inr, arith, eqb-true, eq-eqb}
use Rattle.std.proofs.lemmas.Bool.{false≢true, and_parts}
use Rattle.rcp_base.specs.declared.names.Edge.{Edge}
use Rattle.rcp_base.specs.Maps.{get_at}
use Rattle.rcp_model.specs.LinkState.{RouterLink, Kept, same_number}
use Rattle.rcp_model.specs.Edges.{least, metric_to}
use Rattle.rcp_model.proofs.MemberLemmas.{Contains-head, Contains-tail, Contains-cases, Contains-none}
use Rattle.lsdb.specs.Databases.{IsOnce}
use Rattle.lsdb.specs.Links.{links_from, links_in, least_between}

abbrev pub edge_of : ℕ → ℕ → ℕ → Edge
edge_of from to cost = record { from = from; to = to; cost = cost }

module _ (from to : ℕ) where
  -- ---- by members

  here : (edge : Edge) (c : ℕ) → (edge.from == from && edge.to == to) ≡ true → edge.cost ≡ c → edge ≡ edge_of from to c
  here edge c is cost =
      let parts = and_parts (edge.from == from) (edge.to == to) is in
      ap (λ n. edge_of n edge.to edge.cost) (eqb-true edge.from from parts.0) ∙ ap (λ n. edge_of from n edge.cost) (eqb-true edge.to to parts.1) ∙ ap (λ n. edge_of from to n) cost

  pub least-member : (edges : List Edge) (c : ℕ) → least_between from to edges ≡ Some c → Contains edges (edge_of from to c)
  least-member [] c found = absurd cc
  least-member (edge ∷ edges) c found = at_test (edge.from == from && edge.to == to) refl (least_between from to edges) (least-member edges) found where
    at_test : (t : Bool) → (edge.from == from && edge.to == to) ≡ t → (rest : Option ℕ) → ((n : ℕ) → rest ≡ Some n → Contains edges (edge_of from to n)) → cond t (Some (least edge.cost rest)) rest ≡ Some c
        → Contains (edge ∷ edges) (edge_of from to c)
    at_test true is None later found = subst (λ e. Contains (edge ∷ edges) e) (here edge c is cc) (Contains-head edge edges)
    at_test true is (Some m) later found = by_cases (which edge.cost m c cc) where
      which : (a m c : ℕ) → min a m ≡ c → (a ≡ c) ⊎ (m ≡ c)
      which a m c is = grind arith

      by_cases : (edge.cost ≡ c) ⊎ (m ≡ c) → Contains (edge ∷ edges) (edge_of from to c)
      by_cases (inl same) = subst (λ e. Contains (edge ∷ edges) e) (here edge c is same) (Contains-head edge edges)
      by_cases (inr same) = Contains-tail edge edges (edge_of from to c) (later c (ap Some same))
    at_test false is rest later found = Contains-tail edge edges (edge_of from to c) (later c found)

  pub least-le : (edges : List Edge) (d : ℕ) → Contains edges (edge_of from to d) → IsSomeAnd (least_between from to edges) (λ c. c ≤ d)
  least-le [] d member = absurd (Contains-none (edge_of from to d) member)
  least-le (edge ∷ edges) d member = by_cases (Contains-cases edge edges (edge_of from to d) member) (least-le edges d) where
    at_rest : (rest : Option ℕ) → IsSomeAnd rest (λ c. c ≤ d) → (t : Bool) → IsSomeAnd (cond t (Some (least edge.cost rest)) rest) (λ c. c ≤ d)
    at_rest None le t = absurd le
    at_rest (Some m) le true = omega (arith, le)
    at_rest (Some m) le false = le

    at_edge : (rest : Option ℕ) → edge.cost ≡ d → least edge.cost rest ≤ d
    at_edge None is = omega arith
    at_edge (Some m) is = omega arith

    by_cases : (edge ≡ edge_of from to d) ⊎ Contains edges (edge_of from to d) → (Contains edges (edge_of from to d) → IsSomeAnd (least_between from to edges) (λ c. c ≤ d)) → IsSomeAnd (least_between from to (edge ∷ edges)) (λ c. c ≤ d)
    by_cases (inl same) rest = rw (eq-eqb edge.from from (ap (λ (e : Edge). e.from) same), eq-eqb edge.to to (ap (λ (e : Edge). e.to) same)) (at_edge (least_between from to edges) (ap (λ (e : Edge). e.cost) same))
    by_cases (inr later) rest = at_rest (least_between from to edges) (rest later) (edge.from == from && edge.to == to)

  pub least-is : (edges : List Edge) (c : ℕ) → Contains edges (edge_of from to c) → ((d : ℕ) → Contains edges (edge_of from to d) → c ≤ d) → Some c ≡ least_between from to edges
  least-is edges c member least = by_found (least_between from to edges) (least-le edges c member) (least-member edges) where
    by_found : (found : Option ℕ) → IsSomeAnd found (λ n. n ≤ c) → ((n : ℕ) → found ≡ Some n → Contains edges (edge_of from to n)) → Some c ≡ found
    by_found None le there = absurd le
    by_found (Some n) le there = let ge = least n (there n refl) in ap Some (omega (arith, le, ge))

  pub least-none : (edges : List Edge) → ((d : ℕ) → Contains edges (edge_of from to d) → ⊥) → None ≡ least_between from to edges
  least-none edges none = by_found (least_between from to edges) (least-member edges) where
    by_found : (found : Option ℕ) → ((n : ℕ) → found ≡ Some n → Contains edges (edge_of from to n)) → None ≡ found
    by_found None there = refl
    by_found (Some n) there = absurd (none n (there n refl))

  pub least-same : (edges others : List Edge) → ((e : Edge) → Contains edges e ↔ Contains others e) → least_between from to edges ≡ least_between from to others
  least-same edges others same = by_found (least_between from to others) (least-member others) (least-le others) where
    by_found : (found : Option ℕ) → ((n : ℕ) → found ≡ Some n → Contains others (edge_of from to n)) → ((d : ℕ) → Contains others (edge_of from to d) → IsSomeAnd found (λ c. c ≤ d)) → least_between from to edges ≡ found
    by_found None there le = sym (least-none edges (λ d member. le d ((same (edge_of from to d)).0 member)))
    by_found (Some n) there le = sym (least-is edges n ((same (edge_of from to n)).1 (there n refl)) (λ d member. le d ((same (edge_of from to d)).0 member)))

  -- ---- among the links that are kept

  abbrev joined : Option ℕ → Option ℕ → Option ℕ
  joined None b = b
  joined (Some a) b = Some (least a b)

  joined-more : (c : ℕ) (a b : Option ℕ) → Some (least c (joined a b)) ≡ Some (least (least c a) b)
  joined-more c None b = refl
  joined-more c (Some x) None = refl
  joined-more c (Some x) (Some y) = ap Some (omega arith)

  joined-none : (a : Option ℕ) → joined a None ≡ a
  joined-none None = refl
  joined-none (Some x) = refl

  least-append : (xs ys : List Edge) → least_between from to (xs ++ ys) ≡ joined (least_between from to xs) (least_between from to ys)
  least-append [] ys = refl
  least-append (x ∷ xs) ys = at_test (x.from == from && x.to == to) (least-append xs ys) where
    at_test : (t : Bool) → least_between from to (xs ++ ys) ≡ joined (least_between from to xs) (least_between from to ys)
        → cond t (Some (least x.cost (least_between from to (xs ++ ys)))) (least_between from to (xs ++ ys)) ≡ joined (cond t (Some (least x.cost (least_between from to xs))) (least_between from to xs)) (least_between from to ys)
    at_test true rest = ap (λ r. Some (least x.cost r)) rest ∙ joined-more x.cost (least_between from to xs) (least_between from to ys)
    at_test false rest = rest

  pub least-links : (links : List RouterLink) → least_between from to (links_from from links) ≡ metric_to to links
  least-links [] = refl
  least-links (link ∷ links) = at_test (link.kind == 1) (least-links links) where
    at_test : (t : Bool) → least_between from to (links_from from links) ≡ metric_to to links
        → least_between from to (map (λ (link : RouterLink). edge_of from link.id link.metric) (cond t (link ∷ filter (λ (link : RouterLink). link.kind == 1) links) (filter (λ (link : RouterLink). link.kind == 1) links)))
        ≡ cond (t && link.id == to) (Some (least link.metric (metric_to to links))) (metric_to to links)
    at_test true rest = rw (eq-eqb from from refl) (ap (λ r. cond (link.id == to) (Some (least link.metric r)) r) rest)
    at_test false rest = rest

  least-others : (router : ℕ) (links : List RouterLink) → (router == from) ≡ false → least_between from to (links_from router links) ≡ None
  least-others router [] other = refl
  least-others router (link ∷ links) other = at_test (link.kind == 1) (least-others router links other) where
    at_test : (t : Bool) → least_between from to (links_from router links) ≡ None
        → least_between from to (map (λ (link : RouterLink). edge_of router link.id link.metric) (cond t (link ∷ filter (λ (link : RouterLink). link.kind == 1) links) (filter (λ (link : RouterLink). link.kind == 1) links))) ≡ None
    at_test true rest = rw other rest
    at_test false rest = rest

  -- the least metric that the instance of a router has for the other
  abbrev pub metric_of : Option Kept → Option ℕ
  metric_of None = None
  metric_of (Some kept) = metric_to to kept.lsa.content

  pub least-kept : (routers : List (ℕ × Kept)) → IsOnce routers → least_between from to (links_in routers) ≡ metric_of (get_at same_number from routers)
  least-kept [] once = refl
  least-kept (entry ∷ routers) once =
      least-append (links_from entry.0 entry.1.lsa.content) (links_in routers) ∙ at_test (from == entry.0) refl (least-kept routers once.1) where
        turned : (from == entry.0) ≡ false → (t : Bool) → (entry.0 == from) ≡ t → (entry.0 == from) ≡ false
        turned other true same = absurd (false≢true (sym other ∙ eq-eqb from entry.0 (sym (eqb-true entry.0 from same))))
        turned other false differs = differs

        at_test : (t : Bool) → (from == entry.0) ≡ t → least_between from to (links_in routers) ≡ metric_of (get_at same_number from routers)
            → joined (least_between from to (links_from entry.0 entry.1.lsa.content)) (least_between from to (links_in routers)) ≡ metric_of (cond t (Some entry.1) (get_at same_number from routers))
        at_test true same rest =
            let none : get_at same_number from routers ≡ None = subst (λ k. get_at same_number k routers ≡ None) (sym (eqb-true from entry.0 same)) once.0 in
            ap₂ joined (subst (λ k. least_between from to (links_from k entry.1.lsa.content) ≡ metric_to to entry.1.lsa.content) (eqb-true from entry.0 same) (least-links entry.1.lsa.content)) (rest ∙ ap metric_of none)
            ∙ joined-none (metric_to to entry.1.lsa.content)
        at_test false other rest = ap (λ a. joined a (least_between from to (links_in routers))) (least-others entry.0 entry.1.lsa.content (turned other (entry.0 == from) refl)) ∙ rest
