-- What a walk over the candidates knows of those that it has passed.
use Rattle.std.proofs.Common.{◌≡◌, ℕ, ◌+◌, ◌<◌, ◌≤◌, Bool, true, false, cond, not, ◌↔◌, List, [], ◌∷◌, ◌++◌, length, get_or, take, filter, Contains, Option, Some, None, IsTrue, IsSomeAnd, IfNone, IfSome, option_map, slice_get, refl, sym, ap, subst, ◌∙◌, append-nil}
use Rattle.std.specs.List.{list_any}
use Rattle.std.proofs.lemmas.List.{take_all}
use Rattle.std.proofs.lemmas.List.Elements.{Contains-get_or, filter_more}
use Rattle.std.proofs.lemmas.List.Folds.{list_any-append}
use Rattle.std.proofs.lemmas.Option.{slice_get-get_or}
use Rattle.rcp_model.specs.Decision.{Contender, goes_before, tied, is_of, is_lower_pair, nearest, choice}
use Rattle.rcp_model.proofs.FilterLemmas.{tied_is, unbeaten_member, member_of_unbeaten, front, nearer_of, front-push, nearest-front, choice_own, choice_none}
use Rattle.decision.specs.declared.choosing.Rival.{Rival}

-- the candidate at a place is tied exactly where none goes before it
pub at_place : (list : List Contender) (place : ℕ) (a : Contender) (beaten : Bool) → place < length list → a ≡ get_or list place a → beaten ≡ list_any (λ b. goes_before b a) list
    → IsSomeAnd (slice_get list place) (λ a. IsTrue (not beaten) ↔ Contains (tied list) a)
at_place list place a beaten within read is =
    subst (λ o. IsSomeAnd o (λ a. IsTrue (not beaten) ↔ Contains (tied list) a)) (sym (slice_get-get_or list place a within))
    (subst (λ b. IsTrue (not beaten) ↔ Contains (tied list) b) read
    (rw tied_is (λ h. unbeaten_member goes_before list a member (sym is ∙ not-true beaten h), λ inside. ap not (is ∙ (member_of_unbeaten goes_before list a inside).1)))) where
      member : Contains list a
      member = subst (Contains list) (sym read) (Contains-get_or list place a within)

      not-true : (b : Bool) → not b ≡ true → b ≡ false
      not-true true h = sym h
      not-true false h = refl

-- the tied ones of those that a walk has passed
abbrev pub left : List Contender → ℕ → List Contender
left list i = filter (λ a. not (list_any (λ b. goes_before b a) list)) (take i list)

-- what the walk keeps of a candidate
abbrev pub rival : (ℕ → Option ℕ) → Contender → Rival
rival cost a = record { slot = a.slot; id = a.id; cost = cost a.slot }

-- none of those passed is the slot's own, and this is the nearest of them
pub record Passed (slot : ℕ) (cost : ℕ → Option ℕ) (list : List Contender) (i : ℕ) (nearest : Option Rival) : Type 0 where
  pub others : list_any (is_of slot) (left list i) ≡ false
  pub best : nearest ≡ option_map (rival cost) (front cost (left list i))

pub passed_none : (slot : ℕ) (cost : ℕ → Option ℕ) (list : List Contender) → Passed slot cost list 0 None
passed_none slot cost list = record { others = refl; best = refl }

module _ (slot : ℕ) (cost : ℕ → Option ℕ) (list : List Contender) (i : ℕ) (a : Contender) (within : i < length list) (read : a ≡ get_or list i a) where
  left_more : (t : Bool) → list_any (λ b. goes_before b a) list ≡ t → left list (i + 1) ≡ left list i ++ cond (not t) (a ∷ []) []
  left_more t is =
      filter_more (λ a. not (list_any (λ b. goes_before b a) list)) list i a within
      ∙ ap (λ x. left list i ++ cond (not (list_any (λ b. goes_before b x) list)) (x ∷ []) []) (sym read)
      ∙ ap (λ b. left list i ++ cond (not b) (a ∷ []) []) is

  pub passed_beaten : (nearest : Option Rival) → Passed slot cost list i nearest → list_any (λ b. goes_before b a) list ≡ true → Passed slot cost list (i + 1) nearest
  passed_beaten nearest passed beaten =
      let same : left list (i + 1) ≡ left list i = left_more true beaten ∙ append-nil (left list i) in
      record { others = ap (list_any (is_of slot)) same ∙ passed.others; best = passed.best ∙ sym (ap (λ xs. option_map (rival cost) (front cost xs)) same) }

  pub passed_tied : (nearest : Option Rival) (new : Rival) → Passed slot cost list i nearest → list_any (λ b. goes_before b a) list ≡ false → is_of slot a ≡ false
      → IfNone nearest (new ≡ rival cost a) → IfSome nearest (λ best. new ≡ cond (is_lower_pair (cost a.slot) a.id best.cost best.id) (rival cost a) best) → Passed slot cost list (i + 1) (Some new)
  passed_tied nearest new passed tied other first second =
      let more : left list (i + 1) ≡ left list i ++ a ∷ [] = left_more false tied in
      record {
        others = ap (list_any (is_of slot)) more ∙ list_any-append (is_of slot) (left list i) (a ∷ []) ∙ rw (passed.others, other) refl;
        best = at_best (front cost (left list i)) nearest passed.best first second ∙ sym (ap (option_map (rival cost)) (ap (front cost) more ∙ front-push cost (left list i) a));
      } where
        at_best : (o : Option Contender) (nearest : Option Rival) → nearest ≡ option_map (rival cost) o → IfNone nearest (new ≡ rival cost a)
            → IfSome nearest (λ best. new ≡ cond (is_lower_pair (cost a.slot) a.id best.cost best.id) (rival cost a) best) → Some new ≡ Some (rival cost (nearer_of cost o a))
        at_best None None is first second = ap Some first
        at_best None (Some b) is first second = absurd (some_none is) where
          some_none : Some b ≡ None → ⊥
          some_none e = cc
        at_best (Some m) None is first second = absurd (none_some is) where
          none_some : None ≡ Some (rival cost m) → ⊥
          none_some e = cc
        at_best (Some m) (Some b) is first second =
            let same : b ≡ rival cost m = cc in
            ap Some (second ∙ ap (λ (b : Rival). cond (is_lower_pair (cost a.slot) a.id b.cost b.id) (rival cost a) b) same ∙ by_test (is_lower_pair (cost a.slot) a.id (cost m.slot) m.id)) where
              by_test : (t : Bool) → cond t (rival cost a) (rival cost m) ≡ rival cost (cond t a m)
              by_test true = refl
              by_test false = refl

  pub passed_own : list_any (λ b. goes_before b a) list ≡ false → a.slot ≡ slot → choice slot cost list ≡ Some slot
  passed_own tied_one own =
      choice_own slot cost list a (rw tied_is (unbeaten_member goes_before list a (subst (Contains list) (sym read) (Contains-get_or list i a within)) tied_one)) own

-- at the end the nearest is the choice
pub passed_all : (slot : ℕ) (cost : ℕ → Option ℕ) (list : List Contender) (i : ℕ) (best : Option Rival) → length list ≤ i → Passed slot cost list i best
    → choice slot cost list ≡ option_map (λ (r : Rival). r.slot) best
unfolding choice
passed_all slot cost list i best all passed =
    let every : left list i ≡ tied list = ap (filter (λ a. not (list_any (λ b. goes_before b a) list))) (take_all i list all) ∙ sym (tied_is list) in
    rw (← every, passed.others) (nearest-front cost (left list i) ∙ of_front (front cost (left list i)) ∙ sym (ap (option_map (λ (r : Rival). r.slot)) passed.best)) where
      of_front : (o : Option Contender) → option_map (λ (a : Contender). a.slot) o ≡ option_map (λ (r : Rival). r.slot) (option_map (rival cost) o)
      of_front None = refl
      of_front (Some a) = refl

pub passed_nothing : (slot : ℕ) (cost : ℕ → Option ℕ) (list : List Contender) (i : ℕ) (best : Option Rival) → length list ≤ i → Passed slot cost list i best → best ≡ None
    → (choice slot cost list ≡ None) × (list ≡ [])
passed_nothing slot cost list i best all passed none =
    let is = passed_all slot cost list i best all passed ∙ ap (option_map (λ (r : Rival). r.slot)) none in
    (is, (choice_none slot cost list).0 is)
