-- Loops that look for the first place at which two functions differ.
use Rattle.std.proofs.Common.{◌≡◌, ◌≢◌, ℕ, ◌+◌, ◌<◌, ◌≤◌, Bool, true, false, not, ◌⊎◌, List, [], ◌∷◌, ◌++◌, length, get_or, take, Contains, AllPairs, Option, Some, None, IsSome, slice_get, option_and_then, refl, sym, ap, subst, ◌∙◌, inl, inr, arith}
use Rattle.std.specs.List.Sorted.{IsStrictlyIncreasing}
use Rattle.std.proofs.lemmas.Bool.{false≢true}
use Rattle.std.proofs.lemmas.Bool.Decides.{nat_tests}
use Rattle.std.proofs.lemmas.Slice.Eq.{bytes_eq-Decides}
use Rattle.std.proofs.lemmas.Option.{same_Some, none-some, get_or_from_slice_get, slice_get_read}
use Rattle.std.proofs.lemmas.List.{take_more, take_all, length-take, get_or-take}
use Rattle.std.proofs.lemmas.List.Kept.{AllPairs-from_increasing}
use Rattle.rcp_base.specs.IpPrefix.{IpPrefix}
use Rattle.rcp_base.specs.Maps.{is_before}
use Rattle.rcp_base.specs.declared.names.Edge.{Edge}
use Rattle.rcp_model.specs.Costs.{edge_cost}
use Rattle.rcp_model.specs.Assigned.{IsAnnounced}
use Rattle.rcp_model.specs.RouteServer.{Announced, same_octets}
use Rattle.replica_law.specs.Steps.{IsFirstApart, IsFirstPrefix, IsFirstRoute, IsFirstLink, IsAnnouncedIn, ArePrefixes}
use Rattle.replica_law.proofs.PrefixLemmas.{before-itself, before-then}
use Rattle.replica_law.proofs.RankLemmas.{more_cases}

-- ---- octets

pub octets_differ : (a b : Option (List ℕ)) → not (same_octets a b) ≡ true → a ≢ b
octets_differ None None test same = false≢true test
octets_differ None (Some b) test same = none-some _ same
octets_differ (Some a) None test same = none-some _ (sym same)
octets_differ (Some a) (Some b) test same = false≢true (sym (ap not ((bytes_eq-Decides a b).1 (same_Some _ _ same))) ∙ test)

pub octets_same : (a b : Option (List ℕ)) → not (same_octets a b) ≡ false → a ≡ b
octets_same None None test = refl
octets_same None (Some b) test = absurd (false≢true (sym test))
octets_same (Some a) None test = absurd (false≢true (sym test))
octets_same (Some a) (Some b) test = ap Some ((bytes_eq-Decides a b).0 (passed _ test)) where
  passed : (t : Bool) → not t ≡ false → t ≡ true
  passed true test = refl
  passed false test = absurd (false≢true (sym test))

-- ---- items taken so far

order : (m n : ℕ) → (m < n) ⊎ (n ≤ m)
order m n = grind arith

pub taken : {X : Type 0} (xs : List X) (n j : ℕ) (x : X) → j < n → j < length xs → get_or xs j x ≡ x → Contains (take n xs) x
taken xs n j x less within is = (j, rw (length-take n xs) (omega arith), get_or-take n xs j x less ∙ is)

pub taken_more : {X : Type 0} (P : X → Type 0) (xs : List X) (n : ℕ) (x : X) → n < length xs → x ≡ get_or xs n x → ((y : X) → Contains (take n xs) y → P y) → P x → (y : X) → Contains (take (n + 1) xs) y → P y
taken_more {X} P xs n x within is before here y member =
    elim (more_cases (take n xs) x y (subst (λ (l : List X). Contains l y) (take_more xs n x within ∙ ap (λ (z : X). take n xs ++ z ∷ []) (sym is)) member)) [
      | inl earlier ↦ before y earlier
      | inr same ↦ subst P same here
    ]

pub taken_all : {X : Type 0} (P : X → Type 0) (xs : List X) (n : ℕ) → length xs ≤ n → ((y : X) → Contains (take n xs) y → P y) → (y : X) → Contains xs y → P y
taken_all {X} P xs n all before y member = before y (subst (λ (l : List X). Contains l y) (sym (take_all n xs all)) member)

pub lower_taken : (xs : List ℕ) (n x u : ℕ) → IsStrictlyIncreasing xs → n < length xs → x ≡ get_or xs n x → Contains xs u → u < x → Contains (take n xs) u
lower_taken xs n x u rising within is member less = elim (order member.0 n) [
  | inl earlier ↦ taken xs n member.0 u earlier member.1 member.2
  | inr later ↦ elim (order n member.0) [
    | inl after ↦
        let below = AllPairs-from_increasing xs rising n member.0 0 after member.1 in
        let first = read xs n x within is in
        let second = read xs member.0 u member.1 (sym member.2) in
        absurd (omega (arith, below, first, second, less))
    | inr same ↦
        let place : member.0 ≡ n = omega (arith, later, same) in
        let first = read xs n x within is in
        let second = read xs member.0 u member.1 (sym member.2) in
        let equal : get_or xs member.0 0 ≡ get_or xs n 0 = ap (λ k. get_or xs k 0) place in
        absurd (omega (arith, first, second, equal, less))
  ]
] where
  read : (xs : List ℕ) (k y : ℕ) → k < length xs → y ≡ get_or xs k y → get_or xs k 0 ≡ y
  read xs k y within is = get_or_from_slice_get xs k y 0 (slice_get_read xs _ k y refl within is)

-- ---- prefixes

-- where there are octets, something is announced
is_announced : (A : IpPrefix → Announced) (slot : Option ℕ) (q : IpPrefix) (octets : List ℕ) → option_and_then (A q) slot ≡ Some octets → IsAnnounced A q
is_announced A None q octets is = absurd (none-some _ is)
is_announced A (Some slot) q octets is = (slot, rw is refl)

module _ (A B : IpPrefix → Announced) (s t : Option ℕ) (prefixes : List IpPrefix) (are : ArePrefixes A B prefixes) where
  abbrev f : IpPrefix → Option (List ℕ)
  f q = option_and_then (A q) s

  abbrev g : IpPrefix → Option (List ℕ)
  g q = option_and_then (B q) t

  -- what is the same at each prefix of the list that is looked at is the same where none is announced too
  same_unless : (q : IpPrefix) → (Contains prefixes q → f q ≡ g q) → f q ≡ g q
  same_unless q listed = at_both (f q) (g q) refl refl where
    at_both : (a b : Option (List ℕ)) → f q ≡ a → g q ≡ b → f q ≡ g q
    at_both None None first second = first ∙ sym second
    at_both (Some octets) b first second = listed (are.each q (inl (is_announced A s q octets first)))
    at_both None (Some octets) first second = listed (are.each q (inr (is_announced B t q octets second)))

  pub prefix_found : (n : ℕ) (p : IpPrefix) → n < length prefixes → p ≡ get_or prefixes n p → ((q : IpPrefix) → Contains (take n prefixes) q → f q ≡ g q) → f p ≢ g p → IsFirstPrefix f g p
  prefix_found n p within is before apart = record {
    apart = apart;
    lower_same = λ q less. same_unless q (λ member. before q (earlier q member less));
  } where
    earlier : (q : IpPrefix) → Contains prefixes q → is_before q p ≡ true → Contains (take n prefixes) q
    earlier q member less = elim (order member.0 n) [
      | inl first ↦ taken prefixes n member.0 q first member.1 member.2
      | inr later ↦ elim (order n member.0) [
        | inl after ↦
            let rise : is_before p q ≡ true = subst (λ (x : IpPrefix). is_before x q ≡ true) (read n p within is q) (subst (λ (y : IpPrefix). is_before (get_or prefixes n q) y ≡ true) member.2 (are.rising n member.0 q after member.1)) in
            absurd (before-itself q (before-then q p q less rise))
        | inr same ↦
            let place : member.0 ≡ n = omega (arith, later, same) in
            let equal : q ≡ p = sym member.2 ∙ ap (λ k. get_or prefixes k q) place ∙ read n p within is q in
            absurd (before-itself p (subst (λ (x : IpPrefix). is_before x p ≡ true) equal less))
      ]
    ] where
      read : (k : ℕ) (x : IpPrefix) → k < length prefixes → x ≡ get_or prefixes k x → (d : IpPrefix) → get_or prefixes k d ≡ x
      read k x within is d = get_or_from_slice_get prefixes k x d (slice_get_read prefixes _ k x refl within is)

  pub prefix_none : (n : ℕ) → length prefixes ≤ n → ((q : IpPrefix) → Contains (take n prefixes) q → f q ≡ g q) → (q : IpPrefix) → f q ≡ g q
  prefix_none n all before q = same_unless q (taken_all (λ p. f p ≡ g p) prefixes n all before q)

-- ---- routers

pub route_found : (f g : ℕ → IpPrefix → Option (List ℕ)) (routers : List ℕ) (n u : ℕ) (p : IpPrefix) → IsStrictlyIncreasing routers → n < length routers → u ≡ get_or routers n u
    → ((w : ℕ) → Contains (take n routers) w → (q : IpPrefix) → f w q ≡ g w q) → IsFirstPrefix (f u) (g u) p → IsFirstRoute f g routers u p
route_found f g routers n u p rising within is before first = record {
  inside = (n, within, sym is);
  apart = first.apart;
  lower_same = λ w q member less. before w (lower_taken routers n u w rising within is member less) q;
  earlier_same = first.lower_same;
}

pub link_found : (first second : List Edge) (routers : List ℕ) (n u v : ℕ) → IsStrictlyIncreasing routers → n < length routers → u ≡ get_or routers n u
    → ((w : ℕ) → Contains (take n routers) w → (x : ℕ) → edge_cost first w x ≡ edge_cost second w x) → IsFirstApart (λ x. Unit {0}) (edge_cost first u) (edge_cost second u) v → IsFirstLink first second routers u v
link_found first second routers n u v rising within is before apart = record {
  inside = (n, within, sym is);
  apart = apart.apart;
  lower_same = λ w x member less. before w (lower_taken routers n u w rising within is member less) x;
  nearer_same = λ x less. apart.lower_same x tt less;
}
