-- The canonical form, type by type: sorting leaves the attributes of a type in their order.
use Rattle.std.proofs.Common.{◌≡◌, ◌≢◌, ◌⊎◌, ℕ, ◌+◌, Bool, true, false, cond, ◌&&◌, inl, inr, Contains, List, [], ◌∷◌, map, Some, refl, sym, ap, ◌∙◌, subst, arith, eqb, ltb, eqb-true, ne_eqb, ltb-true}
use Rattle.std.specs.Prelude.{filter, is_some}
use Rattle.std.proofs.lemmas.Bool.{cases_Bool}
use Rattle.rcp_model.specs.Attributes.{Attribute, LOCAL_PREF, MULTI_EXIT_DISC, is_recognised, is_optional, is_transitive, is_partial, category, keeps_partial, value_of, is_kept, written, insert_by_type, by_type, default_pref, with_pref, canonical}
use Rattle.rcp_model.proofs.MemberLemmas.{Contains-cases, Contains-none}
use Rattle.model_laws.specs.Forms.{of_type, with_flags}

-- an attribute put before or after another of a test, where not both pass it
choose-swapped : (first second : Bool) (a b : Attribute) (sorted list : List Attribute) → (first ≡ true → second ≡ true → ⊥) → sorted ≡ cond first (a ∷ list) list
    → cond second (b ∷ sorted) sorted ≡ cond first (a ∷ cond second (b ∷ list) list) (cond second (b ∷ list) list)
choose-swapped true true a b sorted list other is = absurd (other refl refl)
choose-swapped false true a b sorted list other is = ap (λ (l : List Attribute). b ∷ l) is
choose-swapped true false a b sorted list other is = is
choose-swapped false false a b sorted list other is = is

module _ (kind : ℕ) where
  -- ---- sorting

  insert-of_type : (a : Attribute) (list : List Attribute) → of_type kind (insert_by_type a list) ≡ of_type kind (a ∷ list)
  insert-of_type a [] = refl
  insert-of_type a (b ∷ list) =
      elim (cases_Bool (ltb b.kind a.kind)) [
        | inl less ↦ rw (less) (choose-swapped (eqb a.kind kind) (eqb b.kind kind) a b (of_type kind (insert_by_type a list)) (of_type kind list)
            (λ e f. let one = eqb-true _ _ e in let two = eqb-true _ _ f in let below = ltb-true _ _ less in omega arith)
            (insert-of_type a list))
        | inr above ↦ rw (above) refl
      ]

  sorted-of_type : (list : List Attribute) → of_type kind (by_type list) ≡ of_type kind list
  sorted-of_type [] = refl
  sorted-of_type (a ∷ list) =
      insert-of_type a (by_type list) ∙ ap (λ (l : List Attribute). cond (eqb a.kind kind) (a ∷ l) l) (sorted-of_type list)

  -- ---- what is kept, and how it is written

  -- the attributes of the type that are sent on, with the flags that are written
  abbrev sent_on : List Attribute → List Attribute
  sent_on list = map written (filter is_kept (of_type kind list))

  written-step : (a : Attribute) (list : List Attribute) (kept same : Bool) → is_kept a ≡ kept → eqb a.kind kind ≡ same
      → of_type kind (map written (filter is_kept list)) ≡ sent_on list
      → of_type kind (map written (cond kept (a ∷ filter is_kept list) (filter is_kept list)))
      ≡ map written (filter is_kept (cond same (a ∷ of_type kind list) (of_type kind list)))
  written-step a list true true e f again = rw (f, e) (ap (λ (l : List Attribute). written a ∷ l) again)
  written-step a list true false e f again = rw (f) again
  written-step a list false true e f again = rw (e) again
  written-step a list false false e f again = again

  written-of_type : (list : List Attribute) → of_type kind (map written (filter is_kept list)) ≡ sent_on list
  written-of_type [] = refl
  written-of_type (a ∷ list) = written-step a list (is_kept a) (eqb a.kind kind) refl refl (written-of_type list)

  -- ---- LOCAL_PREF

  abbrev preference : Bool → List Attribute → List Attribute
  preference present list = cond present list (default_pref ∷ list)

  with_pref-of_type : (list : List Attribute) → kind ≢ LOCAL_PREF → of_type kind (with_pref list) ≡ of_type kind list
  with_pref-of_type list other = by (is_some (value_of LOCAL_PREF list)) where
    by : (present : Bool) → of_type kind (preference present list) ≡ of_type kind list
    by true = refl
    by false = let no : eqb 5 kind ≡ false = ne_eqb 5 kind (λ (e : 5 ≡ kind). other (sym e)) in rw (no) refl

  pub canonical-of_type : (list : List Attribute) → kind ≢ LOCAL_PREF → of_type kind (canonical list) ≡ sent_on list
  unfolding canonical
  canonical-of_type list other =
      sorted-of_type (with_pref (map written (filter is_kept list))) ∙ with_pref-of_type (map written (filter is_kept list)) other ∙ written-of_type list

  -- ---- the flags of a type

  module _ (keeps : Attribute → Bool) (flags : Attribute → ℕ)
      (kept-is : (a : Attribute) → a.kind ≡ kind → is_kept a ≡ keeps a)
      (written-is : (a : Attribute) → a.kind ≡ kind → is_kept a ≡ true → written a ≡ with_flags (flags a) a) where
    abbrev flagged : List Attribute → List Attribute
    flagged list = map (λ a. with_flags (flags a) a) (filter keeps list)

    flagged-step : (a : Attribute) (list : List Attribute) (same kept : Bool) → eqb a.kind kind ≡ same → is_kept a ≡ kept → sent_on list ≡ flagged (of_type kind list)
        → map written (filter is_kept (cond same (a ∷ of_type kind list) (of_type kind list))) ≡ flagged (cond same (a ∷ of_type kind list) (of_type kind list))
    flagged-step a list false kept e f again = again
    flagged-step a list true true e f again =
        let is = eqb-true _ _ e in
        let same : keeps a ≡ true = sym (kept-is a is) ∙ f in
        rw (f, same) (ap (λ (b : Attribute). b ∷ sent_on list) (written-is a is f) ∙ ap (λ (l : List Attribute). with_flags (flags a) a ∷ l) again)
    flagged-step a list true false e f again =
        let is = eqb-true _ _ e in
        let same : keeps a ≡ false = sym (kept-is a is) ∙ f in
        rw (f, same) again

    pub sent_on-is : (list : List Attribute) → sent_on list ≡ flagged (of_type kind list)
    sent_on-is [] = refl
    sent_on-is (a ∷ list) = flagged-step a list (eqb a.kind kind) (is_kept a) refl refl (sent_on-is list)

-- ---- LOCAL_PREF, present or absent

module _ (kind : ℕ) where
  value-step : (a : Attribute) (list : List Attribute) (same : Bool) → (is_some (value_of kind list) ≡ true → of_type kind list ≢ [])
      → is_some (cond same (Some a.value) (value_of kind list)) ≡ true → cond same (a ∷ of_type kind list) (of_type kind list) ≢ []
  value-step a list true others present none = absurd cc
  value-step a list false others present none = others present none

  of_type-value : (list : List Attribute) → is_some (value_of kind list) ≡ true → of_type kind list ≢ []
  of_type-value [] present none = absurd cc
  of_type-value (a ∷ list) present none = value-step a list (eqb a.kind kind) (of_type-value list) present none

  no_value-step : (a : Attribute) (list : List Attribute) (same : Bool) → (is_some (value_of kind list) ≡ false → of_type kind list ≡ [])
      → is_some (cond same (Some a.value) (value_of kind list)) ≡ false → cond same (a ∷ of_type kind list) (of_type kind list) ≡ []
  no_value-step a list true others absent = absurd cc
  no_value-step a list false others absent = others absent

  of_type-no_value : (list : List Attribute) → is_some (value_of kind list) ≡ false → of_type kind list ≡ []
  of_type-no_value [] absent = refl
  of_type-no_value (a ∷ list) absent = no_value-step a list (eqb a.kind kind) (of_type-no_value list) absent

with_pref-present : (list : List Attribute) → of_type LOCAL_PREF list ≢ [] → of_type LOCAL_PREF (with_pref list) ≡ of_type LOCAL_PREF list
with_pref-present list some = by (is_some (value_of LOCAL_PREF list)) refl where
  by : (present : Bool) → is_some (value_of LOCAL_PREF list) ≡ present → of_type LOCAL_PREF (preference LOCAL_PREF present list) ≡ of_type LOCAL_PREF list
  by true e = refl
  by false e = absurd (some (of_type-no_value LOCAL_PREF list e))

with_pref-absent : (list : List Attribute) → of_type LOCAL_PREF list ≡ [] → of_type LOCAL_PREF (with_pref list) ≡ default_pref ∷ []
with_pref-absent list none = by (is_some (value_of LOCAL_PREF list)) refl where
  by : (present : Bool) → is_some (value_of LOCAL_PREF list) ≡ present → of_type LOCAL_PREF (preference LOCAL_PREF present list) ≡ default_pref ∷ []
  by true e = absurd (of_type-value LOCAL_PREF list e none)
  by false e = rw (none) refl

-- ---- type by type

abbrev all_kept : Attribute → Bool
all_kept a = true

filter-all : (list : List Attribute) → filter all_kept list ≡ list
filter-all [] = refl
filter-all (a ∷ list) = ap (λ (l : List Attribute). a ∷ l) (filter-all list)

-- a recognised type whose flags are these
module _ (kind : ℕ) (flags : Attribute → ℕ) (recognised : is_recognised kind ≡ true)
    (written-is : (a : Attribute) → a.kind ≡ kind → written a ≡ with_flags (flags a) a) where
  recognised-is : (list : List Attribute) → sent_on kind list ≡ map (λ a. with_flags (flags a) a) (of_type kind list)
  recognised-is list =
      sent_on-is kind all_kept flags (λ a e. let is : is_recognised a.kind ≡ true = ap is_recognised e ∙ recognised in rw (is) refl) (λ a e f. written-is a e) list
      ∙ ap (map (λ a. with_flags (flags a) a)) (filter-all (of_type kind list))

  pub recognised_sent_on : (list : List Attribute) → kind ≢ LOCAL_PREF → of_type kind (canonical list) ≡ map (λ a. with_flags (flags a) a) (of_type kind list)
  recognised_sent_on list other = canonical-of_type kind list other ∙ recognised-is list

pub preference_sent_on : (list : List Attribute) → of_type LOCAL_PREF list ≢ [] → of_type LOCAL_PREF (canonical list) ≡ map (with_flags 64) (of_type LOCAL_PREF list)
unfolding canonical
preference_sent_on list some =
    let sent : of_type LOCAL_PREF (map written (filter is_kept list)) ≡ map (with_flags 64) (of_type LOCAL_PREF list) =
    written-of_type LOCAL_PREF list ∙ recognised-is LOCAL_PREF (λ a. 64) refl (λ a e. rw (e) refl) list in
    let there : of_type LOCAL_PREF (map written (filter is_kept list)) ≢ [] = λ none. some (map-none (of_type LOCAL_PREF list) (sym sent ∙ none)) in
    sorted-of_type LOCAL_PREF (with_pref (map written (filter is_kept list))) ∙ with_pref-present (map written (filter is_kept list)) there ∙ sent where
      map-none : (l : List Attribute) → map (with_flags 64) l ≡ [] → l ≡ []
      map-none [] e = refl
      map-none (a ∷ l) e = absurd cc

pub preference_is_put_in : (list : List Attribute) → of_type LOCAL_PREF list ≡ [] → of_type LOCAL_PREF (canonical list) ≡ default_pref ∷ []
unfolding canonical
preference_is_put_in list none =
    let sent : of_type LOCAL_PREF (map written (filter is_kept list)) ≡ [] = written-of_type LOCAL_PREF list ∙ rw (none) refl in
    sorted-of_type LOCAL_PREF (with_pref (map written (filter is_kept list))) ∙ with_pref-absent (map written (filter is_kept list)) sent

pub unrecognised_sent_on : (list : List Attribute) (kind : ℕ) → is_recognised kind ≡ false
    → of_type kind (canonical list) ≡ map (with_flags 224) (filter (λ a. is_optional a.flags && is_transitive a.flags) (of_type kind list))
unrecognised_sent_on list kind unknown =
    let other : kind ≢ LOCAL_PREF = λ (e : kind ≡ 5). let known : is_recognised kind ≡ true = ap is_recognised e in absurd cc in
    canonical-of_type kind list other
    ∙ sent_on-is kind (λ a. is_optional a.flags && is_transitive a.flags) (λ a. 224)
    (λ a e. let is : is_recognised a.kind ≡ false = ap is_recognised e ∙ unknown in rw (is) refl)
    (λ a e f. let is : is_recognised a.kind ≡ false = ap is_recognised e ∙ unknown in rw (is) refl) list

module _ (list : List Attribute) where
  of_well_known : (kind : ℕ) → is_recognised kind ≡ true → category kind ≡ 64 → keeps_partial kind ≡ false → kind ≢ LOCAL_PREF
      → of_type kind (canonical list) ≡ map (with_flags 64) (of_type kind list)
  of_well_known kind known is low other = recognised_sent_on kind (λ a. 64) known written-is list other where
    written-is : (a : Attribute) → a.kind ≡ kind → written a ≡ with_flags 64 a
    written-is a e =
        let known_a : is_recognised a.kind ≡ true = ap is_recognised e ∙ known in
        let is_a : category a.kind ≡ 64 = ap category e ∙ is in
        let low_a : keeps_partial a.kind ≡ false = ap keeps_partial e ∙ low in
        rw (known_a, is_a, low_a) refl

  pub well_known_sent_on : (kind : ℕ) → Contains (1 ∷ 2 ∷ 3 ∷ 6 ∷ []) kind → of_type kind (canonical list) ≡ map (with_flags 64) (of_type kind list)
  well_known_sent_on kind member = first (Contains-cases 1 (2 ∷ 3 ∷ 6 ∷ []) kind member) where
    Goal : ℕ → Type 0
    Goal k = of_type k (canonical list) ≡ map (with_flags 64) (of_type k list)

    fourth : (6 ≡ kind) ⊎ Contains [] kind → Goal kind
    fourth (inl e) = subst Goal e (of_well_known 6 refl refl refl (λ f. absurd cc))
    fourth (inr none) = absurd (Contains-none kind none)

    third : (3 ≡ kind) ⊎ Contains (6 ∷ []) kind → Goal kind
    third (inl e) = subst Goal e (of_well_known 3 refl refl refl (λ f. absurd cc))
    third (inr others) = fourth (Contains-cases 6 [] kind others)

    second : (2 ≡ kind) ⊎ Contains (3 ∷ 6 ∷ []) kind → Goal kind
    second (inl e) = subst Goal e (of_well_known 2 refl refl refl (λ f. absurd cc))
    second (inr others) = third (Contains-cases 3 (6 ∷ []) kind others)

    first : (1 ≡ kind) ⊎ Contains (2 ∷ 3 ∷ 6 ∷ []) kind → Goal kind
    first (inl e) = subst Goal e (of_well_known 1 refl refl refl (λ f. absurd cc))
    first (inr others) = second (Contains-cases 2 (3 ∷ 6 ∷ []) kind others)

  pub discriminator_sent_on : of_type MULTI_EXIT_DISC (canonical list) ≡ map (with_flags 128) (of_type MULTI_EXIT_DISC list)
  discriminator_sent_on = recognised_sent_on 4 (λ a. 128) refl (λ a e. rw (e) refl) list (λ f. absurd cc)

  of_partial : (kind : ℕ) → is_recognised kind ≡ true → category kind ≡ 192 → keeps_partial kind ≡ true → kind ≢ LOCAL_PREF
      → of_type kind (canonical list) ≡ map (λ a. with_flags (cond (is_partial a.flags) 224 192) a) (of_type kind list)
  of_partial kind known is high other = recognised_sent_on kind (λ a. cond (is_partial a.flags) 224 192) known written-is list other where
    flags-is : (partial : Bool) → 192 + cond partial 32 0 ≡ cond partial 224 192
    flags-is true = refl
    flags-is false = refl

    written-is : (a : Attribute) → a.kind ≡ kind → written a ≡ with_flags (cond (is_partial a.flags) 224 192) a
    written-is a e =
        let known_a : is_recognised a.kind ≡ true = ap is_recognised e ∙ known in
        let is_a : category a.kind ≡ 192 = ap category e ∙ is in
        let high_a : keeps_partial a.kind ≡ true = ap keeps_partial e ∙ high in
        rw (known_a, is_a, high_a) (ap (λ (f : ℕ). with_flags f a) (flags-is (is_partial a.flags)))

  pub partial_sent_on : (kind : ℕ) → Contains (7 ∷ 8 ∷ []) kind
      → of_type kind (canonical list) ≡ map (λ a. with_flags (cond (is_partial a.flags) 224 192) a) (of_type kind list)
  partial_sent_on kind member = first (Contains-cases 7 (8 ∷ []) kind member) where
    Goal : ℕ → Type 0
    Goal k = of_type k (canonical list) ≡ map (λ a. with_flags (cond (is_partial a.flags) 224 192) a) (of_type k list)

    second : (8 ≡ kind) ⊎ Contains [] kind → Goal kind
    second (inl e) = subst Goal e (of_partial 8 refl refl refl (λ f. absurd cc))
    second (inr none) = absurd (Contains-none kind none)

    first : (7 ≡ kind) ⊎ Contains (8 ∷ []) kind → Goal kind
    first (inl e) = subst Goal e (of_partial 7 refl refl refl (λ f. absurd cc))
    first (inr others) = second (Contains-cases 8 [] kind others)
