-- What is offered where nothing is announced, and that an offer leaves room for its prefix in an UPDATE.
use Rattle.std.proofs.Common.{◌≡◌, ℕ, suc, ◌≤◌, Bool, true, false, eqb, List, [], ◌∷◌, length, Option, Some, None, refl, sym, subst, ◌∙◌, inl, inr}
use Rattle.std.specs.Prelude.{filter}
use Rattle.std.specs.List.{list_any, AllByRecursion}
use Rattle.std.proofs.lemmas.Bool.{cases_Bool, and_parts, or_cases, eqb-true, not-true, ltb-false}
use Rattle.rcp_base.specs.declared.names.Member.{Member}
use Rattle.rcp_base.specs.declared.names.Edge.{Edge}
use Rattle.rcp_model.specs.Attributes.{canonical_octets, attributes_in, number_width}
use Rattle.rcp_model.specs.Routes.{route_of, route_in, is_usable, is_long}
use Rattle.rcp_model.specs.Decision.{Contender, tied, is_of, is_nearer, nearest, choice}
use Rattle.rcp_model.specs.RouteServer.{Domain, Announced, announcement_contender, cons_some, candidates_from, candidates, slot_cost, choice_of, unless_own, offer}

-- ---- where nothing is announced, nothing is offered

candidates_from-none : (domain : Domain) (announced : Announced) (cost_to : ℕ → Option ℕ) (slot : ℕ) (members : List Member)
    → ((slot : ℕ) → announced slot ≡ None) → candidates_from domain announced cost_to slot members ≡ []
candidates_from-none domain announced cost_to slot [] h = refl
candidates_from-none domain announced cost_to slot (member ∷ members) h =
    rw (h slot) (candidates_from-none domain announced cost_to (suc slot) members h)

choice-none : (slot : ℕ) (cost : ℕ → Option ℕ) → choice slot cost [] ≡ None
unfolding choice tied
choice-none slot cost = refl

pub offer-none : (domain : Domain) (announced : Announced) (edges : List Edge) (slot : ℕ)
    → ((slot : ℕ) → announced slot ≡ None) → offer domain announced edges slot ≡ None
unfolding offer choice_of candidates
offer-none domain announced edges slot h =
    rw (candidates_from-none domain announced (slot_cost edges domain.members slot) 0 domain.members h, choice-none slot (slot_cost edges domain.members slot)) refl

-- ---- what holds of each candidate's slot holds of the choice

pub filter-keeps : {X : Type 0} (P : X → Type 0) (test : X → Bool) (xs : List X) → AllByRecursion P xs → AllByRecursion P (filter test xs)
filter-keeps P test [] h = tt
filter-keeps P test (x ∷ xs) h =
    elim (cases_Bool (test x)) [
      | inl e ↦ rw e (h.0, filter-keeps P test xs h.1)
      | inr e ↦ rw e (filter-keeps P test xs h.1)
    ]

tied-keeps : (P : Contender → Type 0) (list : List Contender) → AllByRecursion P list → AllByRecursion P (tied list)
unfolding tied
tied-keeps P list h =
    filter-keeps P _ _ (filter-keeps P _ _ (filter-keeps P _ _ (filter-keeps P _ _ h)))

nearest-keeps : (Q : ℕ → Type 0) (cost : ℕ → Option ℕ) (list : List Contender) (e : ℕ) → AllByRecursion (λ c. Q c.slot) list → nearest cost list ≡ Some e → Q e
nearest-keeps Q cost [] e h is = absurd cc
nearest-keeps Q cost (a ∷ list) e h is =
    elim (cases_Bool (list_any (λ b. is_nearer cost b a) list)) [
      | inl t ↦ nearest-keeps Q cost list e h.1 (rw t at is)
      | inr t ↦ let same : Some a.slot ≡ Some e = rw t at is in
          let slot_is : a.slot ≡ e = cc in
          subst Q slot_is h.0
    ]

own-keeps : (Q : ℕ → Type 0) (slot : ℕ) (list : List Contender) → AllByRecursion (λ c. Q c.slot) list → list_any (is_of slot) list ≡ true → Q slot
own-keeps Q slot [] h is = absurd cc
own-keeps Q slot (a ∷ list) h is =
    elim (or_cases (eqb a.slot slot) (list_any (is_of slot) list) is) [
      | inl e ↦ subst Q (eqb-true a.slot slot e) h.0
      | inr e ↦ own-keeps Q slot list h.1 e
    ]

choice-keeps : (Q : ℕ → Type 0) (slot : ℕ) (cost : ℕ → Option ℕ) (list : List Contender) (e : ℕ)
    → AllByRecursion (λ c. Q c.slot) list → choice slot cost list ≡ Some e → Q e
unfolding choice
choice-keeps Q slot cost list e h is =
    let left = tied-keeps (λ c. Q c.slot) list h in
    elim (cases_Bool (list_any (is_of slot) (tied list))) [
      | inl t ↦ let same : Some slot ≡ Some e = rw t at is in
          let slot_is : slot ≡ e = cc in
          subst Q slot_is (own-keeps Q slot (tied list) left t)
      | inr t ↦ nearest-keeps Q cost (tied list) e left (rw t at is)
    ]

-- ---- an offer leaves room for its prefix

abbrev Fits : Announced → ℕ → Type 0
Fits announced slot = (octets : List ℕ) → announced slot ≡ Some octets → length octets ≤ 4068

usable-fits : (as_number : ℕ) (octets : List ℕ) → canonical_octets (attributes_in octets) ≡ octets → is_usable (route_in number_width as_number octets) ≡ true → length octets ≤ 4068
unfolding route_of
usable-fits as_number octets canonical_is usable =
    let parts = and_parts _ _ usable in
    let short : is_long (canonical_octets (attributes_in octets)) ≡ false = not-true _ parts.1 in
    let fits : length (canonical_octets (attributes_in octets)) ≤ 4068 = ltb-false _ _ short in
    subst (λ (l : List ℕ). length l ≤ 4068) canonical_is fits

contender-fits : (domain : Domain) (announced : Announced) (slot id : ℕ) (found : Option (List ℕ)) (cost_to : Option ℕ) (list : List Contender)
    → announced slot ≡ found
    → ((octets : List ℕ) → announced slot ≡ Some octets → canonical_octets (attributes_in octets) ≡ octets)
    → AllByRecursion (λ c. Fits announced c.slot) list
    → AllByRecursion (λ c. Fits announced c.slot) (cons_some (announcement_contender domain slot id found cost_to) list)
contender-fits domain announced slot id None cost_to list is canonical_is h = h
contender-fits domain announced slot id (Some octets) None list is canonical_is h = h
contender-fits domain announced slot id (Some octets) (Some reached) list is canonical_is h =
    elim (cases_Bool (is_usable (route_in number_width domain.as_number octets))) [
      | inl u ↦ rw u (
        (λ other other_is.
            let same : Some octets ≡ Some other = sym is ∙ other_is in
            let octets_are : octets ≡ other = cc in
            subst (λ (l : List ℕ). length l ≤ 4068) octets_are (usable-fits domain.as_number octets (canonical_is octets is) u)),
        h,
      )
      | inr u ↦ rw u h
    ]

candidates_from-fit : (domain : Domain) (announced : Announced) (cost_to : ℕ → Option ℕ) (slot : ℕ) (members : List Member)
    → ((slot : ℕ) (octets : List ℕ) → announced slot ≡ Some octets → canonical_octets (attributes_in octets) ≡ octets)
    → AllByRecursion (λ c. Fits announced c.slot) (candidates_from domain announced cost_to slot members)
candidates_from-fit domain announced cost_to slot [] canonical_is = tt
candidates_from-fit domain announced cost_to slot (member ∷ members) canonical_is =
    contender-fits domain announced slot member.bgp_id (announced slot) (cost_to slot) _ refl (canonical_is slot)
    (candidates_from-fit domain announced cost_to (suc slot) members canonical_is)

unless_own-some : (slot : ℕ) (f : ℕ → Option (List ℕ)) (chosen : Option ℕ) (octets : List ℕ) → unless_own slot f chosen ≡ Some octets → (e : ℕ) × (chosen ≡ Some e) × (f e ≡ Some octets)
unless_own-some slot f None octets is = absurd cc
unless_own-some slot f (Some e) octets is =
    elim (cases_Bool (eqb e slot)) [
      | inl t ↦ let no : None ≡ Some octets = rw t at is in absurd cc
      | inr t ↦ (e, refl, rw t at is)
    ]

pub offer-fits : (domain : Domain) (announced : Announced) (edges : List Edge) (slot : ℕ) (octets : List ℕ)
    → ((slot : ℕ) (octets : List ℕ) → announced slot ≡ Some octets → canonical_octets (attributes_in octets) ≡ octets)
    → offer domain announced edges slot ≡ Some octets → length octets ≤ 4068
unfolding offer choice_of candidates
offer-fits domain announced edges slot octets canonical_is is =
    let costs = slot_cost edges domain.members slot in
    let list = candidates_from domain announced costs 0 domain.members in
    let chosen = unless_own-some slot announced (choice slot costs list) octets is in
    choice-keeps (Fits announced) slot costs list chosen.0 (candidates_from-fit domain announced costs 0 domain.members canonical_is) chosen.1 octets chosen.2
