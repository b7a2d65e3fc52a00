-- The values of types in lists of attributes that are put in order.
use Rattle.std.proofs.Common.{◌≡◌, ℕ, true, false, cond, eqb, List, [], ◌∷◌, Option, Some, refl, ap, ◌∙◌, inl, inr, arith}
use Rattle.std.proofs.lemmas.Bool.{cases_Bool, cases_lt, cases_eq}
use Rattle.std.proofs.lemmas.Bool.Decides.{nat_tests}
use Rattle.rcp_model.specs.Attributes.{Attribute, ORIGIN, AS_PATH, NEXT_HOP, insert_by_type, by_type, is_kept, is_recognised, value_of, missing_fault}
use Rattle.path_attrs.specs.Readings.{passed_on, sent_on}
use Rattle.path_attrs.proofs.Types.{insert-below, insert-above}

-- the first one of a type is that of the attribute that goes in, or that of the others
value_of-insert : (kind : ℕ) (a : Attribute) (bs : List Attribute) → value_of kind (insert_by_type a bs) ≡ value_of kind (a ∷ bs)
value_of-insert kind a [] = refl
value_of-insert kind a (b ∷ bs) = elim (cases_lt b.kind a.kind) [
  | inr ge ↦ ap (value_of kind) (insert-above a b bs ge)
  | inl lt ↦ ap (value_of kind) (insert-below a b bs lt) ∙ elim (cases_eq b.kind kind) [
    | inl here ↦
        (let mine : eqb b.kind kind ≡ true = grind (arith, nat_tests) in
        let other : eqb a.kind kind ≡ false = grind (arith, nat_tests) in
        rw (mine, other) refl)
    | inr apart ↦
        (let other : eqb b.kind kind ≡ false = grind (arith, nat_tests) in
        rw other (value_of-insert kind a bs))
  ]
]

pub value_of-by_type : (kind : ℕ) (bs : List Attribute) → value_of kind (by_type bs) ≡ value_of kind bs
value_of-by_type kind [] = refl
value_of-by_type kind (b ∷ bs) = value_of-insert kind b (by_type bs) ∙ ap (λ (o : Option (List ℕ)). cond (eqb b.kind kind) (Some b.value) o) (value_of-by_type kind bs)

value_of-passed_on : (kind : ℕ) (bs : List Attribute) → is_recognised kind ≡ true → value_of kind (passed_on bs) ≡ value_of kind bs
value_of-passed_on kind [] known = refl
value_of-passed_on kind (b ∷ bs) known = elim (cases_eq b.kind kind) [
  | inl here ↦
      (let mine : eqb b.kind kind ≡ true = grind (arith, nat_tests) in
      let kept : is_kept b ≡ true = rw (here, known) refl in
      rw (kept, mine) refl)
  | inr apart ↦
      (let other : eqb b.kind kind ≡ false = grind (arith, nat_tests) in
      elim (cases_Bool (is_kept b)) [
        | inl kept ↦ rw (kept, other) (value_of-passed_on kind bs known)
        | inr dropped ↦ rw (dropped, other) (value_of-passed_on kind bs known)
      ])
]

pub value_of-sent_on : (kind : ℕ) (bs : List Attribute) → is_recognised kind ≡ true → value_of kind (sent_on bs) ≡ value_of kind bs
value_of-sent_on kind bs known = value_of-by_type kind (passed_on bs) ∙ value_of-passed_on kind bs known

pub missing_fault-sent_on : (bs : List Attribute) → missing_fault (sent_on bs) ≡ missing_fault bs
missing_fault-sent_on bs = rw (value_of-sent_on ORIGIN bs refl, value_of-sent_on AS_PATH bs refl, value_of-sent_on NEXT_HOP bs refl) refl
