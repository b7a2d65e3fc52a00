-- Egresses: there is one, it is the decision's choice, and how a walk finds it.
use Rattle.std.proofs.Common.{◌≡◌, ◌≢◌, ℕ, ◌+◌, ◌<◌, ◌≤◌, Bool, true, false, cond, ◌==◌, ◌&&◌, ◌||◌, nat_lt, ◌⊎◌, ◌↔◌, List, [], ◌∷◌, ◌++◌, length, get_or, Contains, IsTrue, IsSome, Option, Some, None, MatchOption, refl, sym, ap, subst, ◌∙◌, inl, inr, arith}
use Rattle.std.proofs.lemmas.Bool.{false≢true}
use Rattle.std.proofs.lemmas.Bool.Decides.{nat_tests}
use Rattle.std.proofs.lemmas.List.{get_or_default}
use Rattle.std.proofs.lemmas.List.Elements.{Contains-push, Contains-push_cases, Contains-append_left}
use Rattle.rcp_base.specs.declared.names.Member.{Member}
use Rattle.rcp_model.proofs.MemberLemmas.{Contains-none, Contains-filled, Contains-head}
use Rattle.rcp_model.specs.Decision.{Contender, tied, choice, is_lower_pair, IsNearest}
use Rattle.rcp_model.specs.Graphs.{AreMembers}
use Rattle.rcp_model.proofs.FilterLemmas.{member_of_tied, choice_own, choice_other, choice_is_tied, choice-nil}
use Rattle.cost_rows.specs.Views.{identifier_at, is_nearer_slot, IsRanking}
use Rattle.cost_rows.proofs.KeyLemmas.{identifiers_apart}
use Rattle.egress_rank.specs.declared.egress.Reached.{Reached}
use Rattle.egress_rank.specs.Egresses.{IsMarked, nearer_pair, IsEgress, AreTiedOf, AreReached}

none_isnt_some : (o : Option ℕ) → o ≡ None → IsSome o → ⊥
none_isnt_some o none some = false≢true (subst IsSome none some)

decided : (m n : ℕ) → (m ≡ n) ⊎ (m ≢ n)
decided m n = grind arith

-- ---- the choice

tied_listed : (list : List Contender) (a : Contender) → Contains (tied list) a → Contains list a
tied_listed list a member = (member_of_tied list a member).0

pub egress_choice : (members : List Member) (cost : ℕ → Option ℕ) (slot : ℕ) (list : List Contender) (IsTied : ℕ → Type 0) (egress : Option ℕ) → AreTiedOf list IsTied → AreReached members cost list
    → IsEgress members cost slot IsTied egress → egress ≡ choice slot cost list
egress_choice members cost slot [] IsTied None are reached egress = sym (choice-nil slot cost)
egress_choice members cost slot (a ∷ list) IsTied None are reached egress =
    let found = choice_is_tied slot cost (a ∷ list) (Contains-filled (a ∷ list) a (Contains-head a list)) in
    let none = egress found.0.slot ((are found.0.slot).1 (found.0, found.1, refl)) in
    absurd (none_isnt_some (cost found.0.slot) none.1 (reached found.0 (tied_listed (a ∷ list) found.0 found.1)).1)
egress_choice members cost slot list IsTied (Some e) are reached egress = elim egress.1 [
  | inl own ↦ ap Some own ∙ sym (choice_own slot cost list (candidate).0 (candidate).1 ((candidate).2 ∙ own))
  | inr other ↦
      let found = choice_other slot cost list (λ a member same. other.0 (subst IsTied same ((are a.slot).1 (a, member, refl)))) (Contains-filled list (candidate).0 (tied_listed list (candidate).0 (candidate).1)) in
      elim (decided found.0.slot e) [
        | inl same ↦ ap Some (sym same) ∙ sym found.1
        | inr differs ↦ absurd (nearer_than found.0 found.2 (other.2 found.0.slot ((are found.0.slot).1 (found.0, found.2.among, refl)) differs))
      ]
] where
  candidate : (a : Contender) × Contains (tied list) a × (a.slot ≡ e)
  candidate = (are e).0 egress.0

  nearer_than : (found : Contender) → IsNearest cost (tied list) found → is_nearer_slot members cost e found.slot → ⊥
  nearer_than found nearest nearer =
      let a = (candidate).0 in
      let a_id = (reached a (tied_listed list a (candidate).1)).0 in
      let found_id = (reached found (tied_listed list found nearest.among)).0 in
      let least = nearest.least a (candidate).1 in
      false≢true (sym least ∙ rw (a_id, found_id) (subst (λ s. is_lower_pair (cost s) (identifier_at members s) (cost found.slot) (identifier_at members found.slot) ≡ true) (sym (candidate).2) nearer))

-- ---- there is one

lower_asym : (p q : Option ℕ) (k l : ℕ) → is_lower_pair p k q l ≡ true → is_lower_pair q l p k ≡ true → ⊥
lower_asym None q k l h i = false≢true h
lower_asym (Some m) None k l h i = false≢true i
lower_asym (Some m) (Some n) k l h i = of_numbers m k n l h i where
  of_numbers : (m k n l : ℕ) → (nat_lt m n || m == n && nat_lt k l) ≡ true → (nat_lt n m || n == m && nat_lt l k) ≡ true → ⊥
  of_numbers m k n l h i = grind (arith, nat_tests)

pub egress_one : (members : List Member) (cost : ℕ → Option ℕ) (slot : ℕ) (P Q : ℕ → Type 0) (a b : Option ℕ) → ((e : ℕ) → P e ↔ Q e) → IsEgress members cost slot P a → IsEgress members cost slot Q b → a ≡ b
egress_one members cost slot P Q None None same first second = refl
egress_one members cost slot P Q None (Some f) same first second =
    let none = first f ((same f).1 second.0) in
    elim second.1 [ inl own ↦ absurd (none.0 own) | inr other ↦ absurd (none_isnt_some (cost f) none.1 other.1) ]
egress_one members cost slot P Q (Some e) None same first second =
    let none = second e ((same e).0 first.0) in
    elim first.1 [ inl own ↦ absurd (none.0 own) | inr other ↦ absurd (none_isnt_some (cost e) none.1 other.1) ]
egress_one members cost slot P Q (Some e) (Some f) same first second = elim first.1 [
  | inl own ↦ elim second.1 [
    | inl own' ↦ ap Some (own ∙ sym own')
    | inr other' ↦ absurd (other'.0 (subst Q own ((same e).0 first.0)))
  ]
  | inr other ↦ elim second.1 [
    | inl own' ↦ absurd (other.0 (subst P own' ((same f).1 second.0)))
    | inr other' ↦ elim (decided e f) [
      | inl is ↦ ap Some is
      | inr differs ↦ absurd (lower_asym (cost e) (cost f) (identifier_at members e) (identifier_at members f) (other.2 f ((same f).1 second.0) (λ is. differs (sym is))) (other'.2 e ((same e).0 first.0) differs))
    ]
  ]
]

-- ---- the first marked one of a ranking

-- a slot that is reached is nearer than one that isn't
nearer_than_none : (members : List Member) (cost : ℕ → Option ℕ) (a b : ℕ) → IsSome (cost a) → cost b ≡ None → is_nearer_slot members cost a b
nearer_than_none members cost a b some none = rw none (at_cost (cost a) some) where
  at_cost : (o : Option ℕ) → IsSome o → IsTrue (is_lower_pair o (identifier_at members a) None (identifier_at members b))
  at_cost None some = absurd (false≢true some)
  at_cost (Some m) some = refl

-- none of those passed is marked, and neither is the slot itself
pub record Passed (members : List Member) (cost : ℕ → Option ℕ) (slot : ℕ) (marks : List Bool) (ranked : List ℕ) (i : ℕ) : Type 0 where
  pub ranking : IsRanking members cost ranked
  pub own : IsMarked marks slot → ⊥
  pub unmarked : (k d : ℕ) → k < i → IsMarked marks (get_or ranked k d) → ⊥

cost_cases : (o : Option ℕ) → (o ≡ None) ⊎ IsSome o
cost_cases None = inl refl
cost_cases (Some n) = inr refl

pub first_found : (members : List Member) (cost : ℕ → Option ℕ) (slot : ℕ) (marks : List Bool) (ranked : List ℕ) (i e : ℕ) → Passed members cost slot marks ranked i → i < length ranked → e ≡ get_or ranked i e → IsMarked marks e
    → IsEgress members cost slot (IsMarked marks) (Some e)
first_found members cost slot marks ranked i e passed within read marked = (marked, inr (passed.own, some, nearest)) where
  some : IsSome (cost e)
  some = (passed.ranking.reached e).0 (i, within, sym read)

  cases : (j i : ℕ) → (j < i) ⊎ ((j ≡ i) ⊎ (i < j))
  cases j i = grind arith

  nearest : (other : ℕ) → IsMarked marks other → other ≢ e → is_nearer_slot members cost e other
  nearest other is_marked differs = elim (cost_cases (cost other)) [
    | inl none ↦ nearer_than_none members cost e other some none
    | inr reached ↦
        let at = (passed.ranking.reached other).1 reached in
        elim (cases at.0 i) [
          | inl before ↦ absurd (passed.unmarked at.0 other before (subst (IsMarked marks) (sym at.2) is_marked))
          | inr rest ↦ elim rest [
            | inl here ↦ absurd (differs (sym at.2 ∙ ap (λ k. get_or ranked k other) here ∙ get_or_default ranked i other e within ∙ sym read))
            | inr behind ↦
                subst (λ a. is_nearer_slot members cost a other) (get_or_default ranked i other e within ∙ sym read)
                (subst (λ b. is_nearer_slot members cost (get_or ranked i other) b) at.2 (passed.ranking.nearest_first i at.0 other behind at.1))
          ]
        ]
  ]

pub none_found : (members : List Member) (cost : ℕ → Option ℕ) (slot : ℕ) (marks : List Bool) (ranked : List ℕ) (i : ℕ) → Passed members cost slot marks ranked i → length ranked ≤ i → IsEgress members cost slot (IsMarked marks) None
none_found members cost slot marks ranked i passed all e marked = (
  (λ own. passed.own (subst (IsMarked marks) own marked)),
  elim (cost_cases (cost e)) [
    | inl none ↦ none
    | inr reached ↦ let at = (passed.ranking.reached e).1 reached in let within = at.1 in absurd (passed.unmarked at.0 e (omega arith) (subst (IsMarked marks) (sym at.2) marked))
  ],
)

pub passed_one : (members : List Member) (cost : ℕ → Option ℕ) (slot : ℕ) (marks : List Bool) (ranked : List ℕ) (i e : ℕ) → Passed members cost slot marks ranked i → i < length ranked → e ≡ get_or ranked i e → (IsMarked marks e → ⊥)
    → Passed members cost slot marks ranked (i + 1)
passed_one members cost slot marks ranked i e passed within read unmarked = record {
  ranking = passed.ranking;
  own = passed.own;
  unmarked = λ k d less marked. elim (cases k less) [
    | inl before ↦ passed.unmarked k d before marked
    | inr here ↦ unmarked (subst (IsMarked marks) (ap (λ j. get_or ranked j d) here ∙ get_or_default ranked i d e within ∙ sym read) marked)
  ];
} where
  cases : (k : ℕ) → k < i + 1 → (k < i) ⊎ (k ≡ i)
  cases k less = grind arith

-- ---- the nearest of a list

-- the nearest of those passed, where one is reached
abbrev pub IsBest : List Member → (ℕ → Option ℕ) → List ℕ → Option Reached → Type 0
IsBest members cost passed None = (e : ℕ) → Contains passed e → cost e ≡ None
IsBest members cost passed (Some best) =
    Contains passed best.slot × (cost best.slot ≡ Some best.cost) × (identifier_at members best.slot ≡ best.id)
    × ((other : ℕ) → Contains passed other → other ≢ best.slot → is_nearer_slot members cost best.slot other)

pub record Compared (members : List Member) (cost : ℕ → Option ℕ) (slot : ℕ) (passed : List ℕ) (nearest : Option Reached) : Type 0 where
  pub own : Contains passed slot → ⊥
  pub best : IsBest members cost passed nearest

pub compared_none : (members : List Member) (cost : ℕ → Option ℕ) (slot : ℕ) → Compared members cost slot [] None
compared_none members cost slot = record { own = λ member. Contains-none slot member; best = λ e member. absurd (Contains-none e member) }

some_of : (o : Option ℕ) (n : ℕ) → o ≡ Some n → IsSome o
some_of o n is = subst IsSome (sym is) refl

own_more : (passed : List ℕ) (slot e : ℕ) → (Contains passed slot → ⊥) → e ≢ slot → Contains (passed ++ e ∷ []) slot → ⊥
own_more passed slot e own differs member = elim (Contains-push_cases passed e slot member) [ inl before ↦ own before | inr same ↦ differs same ]

pub compared_skip : (members : List Member) (cost : ℕ → Option ℕ) (slot : ℕ) (passed : List ℕ) (nearest : Option Reached) (e : ℕ) → e ≢ slot → cost e ≡ None → Compared members cost slot passed nearest
    → Compared members cost slot (passed ++ e ∷ []) nearest
compared_skip members cost slot passed None e differs none compared = record {
  own = own_more passed slot e compared.own differs;
  best = λ f member. elim (Contains-push_cases passed e f member) [ inl before ↦ compared.best f before | inr same ↦ ap cost (sym same) ∙ none ];
}
compared_skip members cost slot passed (Some best) e differs none compared = record {
  own = own_more passed slot e compared.own differs;
  best = (
    Contains-append_left passed (e ∷ []) best.slot compared.best.0,
    compared.best.1,
    compared.best.2,
    λ other member other_differs. elim (Contains-push_cases passed e other member) [
      | inl before ↦ compared.best.3 other before other_differs
      | inr same ↦ nearer_than_none members cost best.slot other (some_of (cost best.slot) best.cost compared.best.1) (ap cost (sym same) ∙ none)
    ],
  );
}

-- a pair nearer than another, as slots
as_slots : (members : List Member) (cost : ℕ → Option ℕ) (a b m n k l : ℕ) → cost a ≡ Some m → cost b ≡ Some n → identifier_at members a ≡ k → identifier_at members b ≡ l → nearer_pair m k n l ≡ true → is_nearer_slot members cost a b
as_slots members cost a b m n k l a_cost b_cost a_id b_id nearer = rw (a_cost, b_cost, a_id, b_id) nearer

lower_chain : (p : Option ℕ) (m k n l o : ℕ) → nearer_pair m k n l ≡ true → is_lower_pair (Some n) l p o ≡ true → is_lower_pair (Some m) k p o ≡ true
lower_chain None m k n l o h i = refl
lower_chain (Some q) m k n l o h i = of_numbers m k n l q o h i where
  of_numbers : (m k n l q o : ℕ) → (nat_lt m n || m == n && nat_lt k l) ≡ true → (nat_lt n q || n == q && nat_lt l o) ≡ true → (nat_lt m q || m == q && nat_lt k o) ≡ true
  of_numbers m k n l q o h i = grind (arith, nat_tests)

other_way : (m k n l : ℕ) → nearer_pair m k n l ≡ false → k ≢ l → nearer_pair n l m k ≡ true
other_way m k n l h differs = grind (arith, nat_tests)

pub compared_one : (members : List Member) (cost : ℕ → Option ℕ) (slot : ℕ) (passed : List ℕ) (nearest : Option Reached) (further result : Reached) → AreMembers members → ((e n : ℕ) → cost e ≡ Some n → e < length members)
    → further.slot ≢ slot → cost further.slot ≡ Some further.cost → identifier_at members further.slot ≡ further.id
    → MatchOption nearest (result ≡ further) (λ best. result ≡ cond (nearer_pair further.cost further.id best.cost best.id) further best)
    → Compared members cost slot passed nearest → Compared members cost slot (passed ++ further.slot ∷ []) (Some result)
compared_one members cost slot passed None further result are seated differs at named is compared = record {
  own = own_more passed slot further.slot compared.own differs;
  best = subst (λ (r : Reached). IsBest members cost (passed ++ further.slot ∷ []) (Some r)) (sym is) (
    Contains-push passed further.slot,
    at,
    named,
    λ other member other_differs. elim (Contains-push_cases passed further.slot other member) [
      | inl before ↦ nearer_than_none members cost further.slot other (some_of (cost further.slot) further.cost at) (compared.best other before)
      | inr same ↦ absurd (other_differs (sym same))
    ],
  );
}
compared_one members cost slot passed (Some best) further result are seated differs at named is compared = record {
  own = own_more passed slot further.slot compared.own differs;
  best = subst (λ (r : Reached). IsBest members cost (passed ++ further.slot ∷ []) (Some r)) (sym is) (by_test (nearer_pair further.cost further.id best.cost best.id) refl);
} where
  by_test : (t : Bool) → nearer_pair further.cost further.id best.cost best.id ≡ t → IsBest members cost (passed ++ further.slot ∷ []) (Some (cond t further best))
  by_test true nearer = (
    Contains-push passed further.slot,
    at,
    named,
    λ other member other_differs. elim (Contains-push_cases passed further.slot other member) [
      | inl before ↦ elim (decided other best.slot) [
        | inl same ↦ subst (is_nearer_slot members cost further.slot) (sym same) (as_slots members cost further.slot best.slot further.cost best.cost further.id best.id at compared.best.1 named compared.best.2 nearer)
        | inr apart ↦ rw (at, named) (lower_chain (cost other) further.cost further.id best.cost best.id (identifier_at members other) nearer (rw (compared.best.1, compared.best.2) at (compared.best.3 other before apart)))
      ]
      | inr same ↦ absurd (other_differs (sym same))
    ],
  )
  by_test false nearer = (
    Contains-append_left passed (further.slot ∷ []) best.slot compared.best.0,
    compared.best.1,
    compared.best.2,
    λ other member other_differs. elim (Contains-push_cases passed further.slot other member) [
      | inl before ↦ compared.best.3 other before other_differs
      | inr same ↦ subst (is_nearer_slot members cost best.slot) same (as_slots members cost best.slot further.slot best.cost further.cost best.id further.id compared.best.1 at compared.best.2 named
          (other_way further.cost further.id best.cost best.id nearer (λ ids.
          identifiers_apart members are further.slot best.slot (λ slots. other_differs (sym same ∙ slots)) (seated further.slot further.cost at) (seated best.slot best.cost compared.best.1) (named ∙ ids ∙ sym compared.best.2))))
    ],
  )

pub compared_own : (members : List Member) (cost : ℕ → Option ℕ) (slot : ℕ) (tied : List ℕ) → Contains tied slot → IsEgress members cost slot (Contains tied) (Some slot)
compared_own members cost slot tied member = (member, inl refl)

pub compared_nothing : (members : List Member) (cost : ℕ → Option ℕ) (slot : ℕ) (tied : List ℕ) (nearest : Option Reached) → nearest ≡ None → Compared members cost slot tied nearest → IsEgress members cost slot (Contains tied) None
compared_nothing members cost slot tied None none compared = λ e member. ((λ own. compared.own (subst (Contains tied) own member)), compared.best e member)
compared_nothing members cost slot tied (Some best) none compared = absurd (some_none none) where
  some_none : Some best ≡ None → ⊥
  some_none e = cc

pub compared_all : (members : List Member) (cost : ℕ → Option ℕ) (slot : ℕ) (tied : List ℕ) (nearest : Option Reached) (best : Reached) → nearest ≡ Some best → Compared members cost slot tied nearest
    → IsEgress members cost slot (Contains tied) (Some best.slot)
compared_all members cost slot tied None best is compared = absurd (none_some is) where
  none_some : None ≡ Some best → ⊥
  none_some e = cc
compared_all members cost slot tied (Some found) best is compared =
    let same : found ≡ best = cc in
    subst (λ (r : Reached). IsEgress members cost slot (Contains tied) (Some r.slot)) same (compared.best.0, inr (compared.own, some_of (cost found.slot) found.cost compared.best.1, compared.best.3))
