-- Marks: how a walk over ranked candidates finds the tied ones.
use Rattle.std.proofs.Common.{◌≡◌, ◌≢◌, ℕ, zero, suc, ◌+◌, ◌<◌, ◌≤◌, Bool, true, false, ◌⊎◌, ◌↔◌, List, [], ◌∷◌, ◌++◌, length, map, get_or, take, set, replicate, All, AllPairs, Contains, Option, Some, None, MatchOption, IsPermutation, slice_get, eqb, refl, sym, ap, subst, ◌∙◌, inl, inr, arith, ne_eqb, eqb-true}
use Rattle.std.specs.List.{IsDistinct, list_any}
use Rattle.std.proofs.lemmas.Bool.{false≢true}
use Rattle.std.proofs.lemmas.List.{take_more, take_all, get_or-map, get_or_default, length-map}
use Rattle.std.proofs.lemmas.List.Elements.{Contains-push, Contains-push_cases, Contains-append_left, All-contains}
use Rattle.std.proofs.lemmas.List.Sorted.{Contains-permutation, IsPermutation-sym}
use Rattle.std.proofs.lemmas.Map.Keys.{IsDistinct-from_apart}
use Rattle.std.proofs.lemmas.Map.Steps.{length-le_from_distinct_below}
use Rattle.rcp_model.specs.Decision.{Contender, goes_before, tied}
use Rattle.rcp_model.proofs.FilterLemmas.{member_of_tied, tied_member}
use Rattle.rcp_model.proofs.MemberLemmas.{Contains-none, any_member}
use Rattle.cost_rows.proofs.EndLemmas.{member_of_map}
use Rattle.egress_rank.specs.Egresses.{IsMarked, AreTiedOf}
use Rattle.egress_rank.specs.Standings.{stands_before, AreRanked}
use Rattle.egress_rank.proofs.StandingLemmas.{before_chain, before_stands, before_apart, stands_itself}

-- ---- marks

none_marked : (n e : ℕ) → IsMarked (replicate n false) e → ⊥
none_marked zero e marked = none_some marked where
  none_some : None ≡ Some true → ⊥
  none_some e = cc
none_marked (suc n) zero marked = false_true marked where
  false_true : Some false ≡ Some true → ⊥
  false_true e = cc
none_marked (suc n) (suc e) marked = none_marked n e marked

decided : (m n : ℕ) → (m ≡ n) ⊎ (m ≢ n)
decided m n = grind arith

marked_here : (marks : List Bool) (e : ℕ) → e < length marks → IsMarked (set marks e true) e
marked_here [] e within = absurd (omega arith)
marked_here (b ∷ marks) zero within = refl
marked_here (b ∷ marks) (suc e) within = marked_here marks e (omega arith)

marked_elsewhere : (marks : List Bool) (at e : ℕ) → at ≢ e → slice_get (set marks at true) e ≡ slice_get marks e
marked_elsewhere [] at e differs = refl
marked_elsewhere (b ∷ marks) zero zero differs = absurd (differs refl)
marked_elsewhere (b ∷ marks) zero (suc e) differs = refl
marked_elsewhere (b ∷ marks) (suc at) zero differs = refl
marked_elsewhere (b ∷ marks) (suc at) (suc e) differs = marked_elsewhere marks at e (λ same. differs (ap suc same))

-- ---- the walk

-- a tied candidate that was passed, and goes before each that was passed after it
pub record Leads (list : List Contender) (i : ℕ) (l : Contender) : Type 0 where
  pub tied_one : Contains (tied list) l
  pub place : ℕ
  pub passed : place < i
  pub is : (d : Contender) → get_or list place d ≡ l
  pub after : (j : ℕ) (d : Contender) → place < j → j < i → goes_before l (get_or list j d) ≡ true

-- the marked slots are those of the tied ones that were passed, of which the leader is the last
pub record Walked (list : List Contender) (i : ℕ) (marks : List Bool) (leader : Option Contender) : Type 0 where
  pub marked : (e : ℕ) → IsMarked marks e ↔ ((a : Contender) × Contains (take i list) a × Contains (tied list) a × (a.slot ≡ e))
  pub led : MatchOption leader (i ≡ 0) (λ l. Leads list i l)

pub walked_none : (list : List Contender) (n : ℕ) (marks : List Bool) → marks ≡ replicate n false → Walked list 0 marks None
walked_none list n marks is = record {
  marked = λ e. (λ mark. absurd (none_marked n e (subst (λ marks. IsMarked marks e) is mark)), λ found. absurd (Contains-none found.0 found.1));
  led = refl;
}

before_cases : (j i : ℕ) → j < i + 1 → (j < i) ⊎ (j ≡ i)
before_cases j i less = grind arith

not_true : (t : Bool) → (t ≡ true → ⊥) → t ≡ false
not_true true h = absurd (h refl)
not_true false h = refl

order : (j i : ℕ) → (j < i) ⊎ (i ≤ j)
order j i = grind arith

module _ (list : List Contender) (i : ℕ) (marks : List Bool) (c : Contender) (within : i < length list) (read : c ≡ get_or list i c) where
  one_more : take (i + 1) list ≡ take i list ++ c ∷ []
  one_more = take_more list i c within ∙ ap (λ a. take i list ++ a ∷ []) (sym read)

  at_here : (d : Contender) → get_or list i d ≡ c
  at_here d = get_or_default list i d c within ∙ sym read

  listed : Contains list c
  listed = (i, within, sym read)

  earlier : (a : Contender) → Contains (take i list) a → Contains (take (i + 1) list) a
  earlier a member = subst (λ passed. Contains passed a) (sym one_more) (Contains-append_left (take i list) (c ∷ []) a member)

  passed_cases : (a : Contender) → Contains (take (i + 1) list) a → Contains (take i list) a ⊎ (c ≡ a)
  passed_cases a member = Contains-push_cases (take i list) c a (subst (λ passed. Contains passed a) one_more member)

  pub walked_beaten : (l : Contender) → Walked list i marks (Some l) → goes_before l c ≡ true → Walked list (i + 1) marks (Some l)
  walked_beaten l walked beaten = record {
    marked = λ e. (
      λ mark. let found = (walked.marked e).0 mark in (found.0, earlier found.0 found.1, found.2, found.3),
      λ found. elim (passed_cases found.0 found.1) [
        | inl before ↦ (walked.marked e).1 (found.0, before, found.2, found.3)
        | inr same ↦ absurd (false≢true (sym ((member_of_tied list c (subst (Contains (tied list)) (sym same) found.2)).1 l (member_of_tied list l walked.led.tied_one).0) ∙ beaten))
      ],
    );
    led = record {
      tied_one = walked.led.tied_one;
      place = walked.led.place;
      passed = let less = walked.led.passed in omega arith;
      is = walked.led.is;
      after = λ j d later before. elim (before_cases j i before) [
        | inl less ↦ walked.led.after j d later less
        | inr here ↦ subst (λ a. goes_before l a ≡ true) (sym (ap (λ k. get_or list k d) here ∙ at_here d)) beaten
      ];
    };
  }

  -- a candidate before which the leader doesn't go is tied
  tied_here : (leader : Option Contender) → AreRanked list → Walked list i marks leader → MatchOption leader (Unit {0}) (λ l. goes_before l c ≡ false) → Contains (tied list) c
  tied_here leader ranked walked unbeaten = tied_member list c listed (λ b member. not_true (goes_before b c) (beaten_by b member)) where
    beaten_by : (b : Contender) → Contains list b → goes_before b c ≡ true → ⊥
    beaten_by b member beats = elim (order member.0 i) [
      | inr later ↦ elim (cases i member.0 later) [
        | inl less ↦ let k_within = member.1 in false≢true (sym (subst (λ x. stands_before b x ≡ false) (at_here b) (subst (λ x. stands_before x (get_or list i b) ≡ false) member.2 (ranked i member.0 b less k_within))) ∙ before_stands b c beats)
        | inr here ↦ false≢true (sym (stands_itself c) ∙ before_stands c c (subst (λ x. goes_before x c ≡ true) (sym member.2 ∙ ap (λ k. get_or list k b) (sym here) ∙ at_here b) beats))
      ]
      | inl before ↦ by_leader leader walked.led unbeaten before
    ] where
      cases : (i j : ℕ) → i ≤ j → (i < j) ⊎ (i ≡ j)
      cases i j le = grind arith

      zero_before : (j i : ℕ) → i ≡ 0 → j < i → ⊥
      zero_before j i none less = absurd (omega arith)

      by_leader : (leader : Option Contender) → MatchOption leader (i ≡ 0) (λ l. Leads list i l) → MatchOption leader (Unit {0}) (λ l. goes_before l c ≡ false) → member.0 < i → ⊥
      by_leader None none unbeaten before = zero_before member.0 i none before
      by_leader (Some l) leads unbeaten before = elim (order leads.place member.0) [
        | inl after ↦ false≢true (sym unbeaten ∙ before_chain l b c (subst (λ x. goes_before l x ≡ true) member.2 (leads.after member.0 b after before)) beats)
        | inr not_after ↦
            before_apart l b c
            (subst (λ x. stands_before x l ≡ false) (at_here c) (subst (λ x. stands_before (get_or list i c) x ≡ false) (leads.is c) (ranked leads.place i c leads.passed within)))
            (at_or_before not_after)
            unbeaten
            ((member_of_tied list l leads.tied_one).1 b member)
            beats
      ] where
        at_or_before : member.0 ≤ leads.place → stands_before l b ≡ false
        at_or_before le = elim (cases member.0 leads.place le) [
          | inl less ↦ subst (λ x. stands_before x b ≡ false) (leads.is b) (subst (λ x. stands_before (get_or list leads.place b) x ≡ false) member.2 (ranked member.0 leads.place b less (let p = leads.passed in omega arith)))
          | inr same ↦ let itself : l ≡ b = sym (leads.is b) ∙ ap (λ k. get_or list k b) (sym same) ∙ member.2 in subst (λ x. stands_before l x ≡ false) itself (stands_itself l)
        ]

  pub walked_tied : (leader : Option Contender) → AreRanked list → c.slot < length marks → Walked list i marks leader → MatchOption leader (Unit {0}) (λ l. goes_before l c ≡ false)
      → Walked list (i + 1) (set marks c.slot true) (Some c)
  walked_tied leader ranked seated walked unbeaten = record {
    marked = λ e. (
      λ mark. elim (decided c.slot e) [
        | inl same ↦ (c, subst (λ passed. Contains passed c) (sym one_more) (Contains-push (take i list) c), tied_here leader ranked walked unbeaten, same)
        | inr differs ↦ let found = (walked.marked e).0 (sym (marked_elsewhere marks c.slot e differs) ∙ mark) in (found.0, earlier found.0 found.1, found.2, found.3)
      ],
      λ found. elim (decided c.slot e) [
        | inl same ↦ subst (IsMarked (set marks c.slot true)) same (marked_here marks c.slot seated)
        | inr differs ↦ marked_elsewhere marks c.slot e differs ∙ (elim (passed_cases found.0 found.1) [
          | inl before ↦ (walked.marked e).1 (found.0, before, found.2, found.3)
          | inr same ↦ absurd (differs (ap (λ (a : Contender). a.slot) same ∙ found.3))
        ])
      ],
    );
    led = record {
      tied_one = tied_here leader ranked walked unbeaten;
      place = i;
      passed = omega arith;
      is = at_here;
      after = λ j d later before. absurd (omega arith);
    };
  }

  -- by what is answered of the leader
  pub on_beaten : (leader : Option Contender) (beaten : Bool) → beaten ≡ true → MatchOption leader (beaten ≡ false) (λ l. beaten ≡ goes_before l c) → Walked list i marks leader → Walked list (i + 1) marks leader
  on_beaten None beaten is none walked = absurd (false≢true (sym none ∙ is))
  on_beaten (Some l) beaten is some walked = walked_beaten l walked (sym some ∙ is)

  pub on_unbeaten : (leader : Option Contender) (beaten : Bool) → beaten ≡ false → MatchOption leader (beaten ≡ false) (λ l. beaten ≡ goes_before l c) → AreRanked list → c.slot < length marks → Walked list i marks leader
      → Walked list (i + 1) (set marks c.slot true) (Some c)
  on_unbeaten None beaten is none ranked seated walked = walked_tied None ranked seated walked tt
  on_unbeaten (Some l) beaten is some ranked seated walked = walked_tied (Some l) ranked seated walked (sym some ∙ is)

pub walked_all : (list : List Contender) (i : ℕ) (marks : List Bool) (leader : Option Contender) → length list ≤ i → Walked list i marks leader → AreTiedOf list (IsMarked marks)
walked_all list i marks leader all walked e = (
  λ mark. let found = (walked.marked e).0 mark in (found.0, found.2, found.3),
  λ found. (walked.marked e).1 (found.0, subst (λ passed. Contains passed found.0) (sym (take_all i list all)) (member_of_tied list found.0 found.1).0, found.1, found.2),
)

-- ---- the list and its sort

tied_shuffled : (list ranked : List Contender) (a : Contender) → IsPermutation list ranked → Contains (tied ranked) a → Contains (tied list) a
tied_shuffled list ranked a moved member =
    let parts = member_of_tied ranked a member in
    tied_member list a (Contains-permutation ranked list a (IsPermutation-sym list ranked moved) parts.0) (λ b inside. parts.1 b (Contains-permutation list ranked b moved inside))

pub tied_of_sorted : (list ranked : List Contender) (marks : List Bool) → IsPermutation list ranked → AreTiedOf ranked (IsMarked marks) → AreTiedOf list (IsMarked marks)
tied_of_sorted list ranked marks moved are e = (
  λ mark. let found = (are e).0 mark in (found.0, tied_shuffled list ranked found.0 moved found.1, found.2),
  λ found. (are e).1 (found.0, tied_shuffled ranked list found.0 (IsPermutation-sym list ranked moved) found.1, found.2),
)

-- distinct slots of members are at most as many as the members
pub room_for : (list : List Contender) (n : ℕ) → AllPairs (λ (a b : Contender). a.slot ≢ b.slot) list → All (λ (a : Contender). a.slot < n) list → length list ≤ n
room_for list n distinct seated = subst (λ m. m ≤ n) (length-map list (λ (a : Contender). a.slot)) (length-le_from_distinct_below (map (λ (a : Contender). a.slot) list) n apart below) where
  nobody : Contender
  nobody = record { slot = 0; id = 0; pref = 0; hops = 0; origin = 0; neighbour = 0; med = 0 }

  apart : IsDistinct eqb (map (λ (a : Contender). a.slot) list)
  apart = IsDistinct-from_apart eqb (map (λ (a : Contender). a.slot) list) (λ i j d less within.
      let j_within : j < length list = subst (λ m. j < m) (length-map list (λ (a : Contender). a.slot)) within in
      rw (get_or-map (λ (a : Contender). a.slot) list i nobody d (omega arith), get_or-map (λ (a : Contender). a.slot) list j nobody d j_within)
      (ne_eqb (get_or list i nobody).slot (get_or list j nobody).slot (distinct i j nobody less j_within)))

  below : (q : ℕ) → list_any (eqb q) (map (λ (a : Contender). a.slot) list) ≡ true → q < n
  below q any =
      let found = any_member (eqb q) (map (λ (a : Contender). a.slot) list) any in
      let at = member_of_map (λ (a : Contender). a.slot) list found.0 found.1 in
      subst (λ m. m < n) (at.2 ∙ sym (eqb-true q found.0 found.2)) (All-contains (λ (a : Contender). a.slot < n) list at.0 seated at.1)
