-- Which types stand in a list of attributes, and lists that are put in order of type.
use Rattle.std.proofs.Common.{◌≡◌, ◌≢◌, ℕ, ◌<◌, ◌≤◌, Bool, true, false, ◌||◌, eqb, List, [], ◌∷◌, ◌++◌, map, refl, sym, ap, ◌∙◌, inl, inr, arith}
use Rattle.std.specs.Prelude.{filter}
use Rattle.std.specs.List.{list_any}
use Rattle.std.proofs.lemmas.Bool.{cases_lt, cases_Bool, le-ltb, lt-ltb, eqb-false}
use Rattle.std.proofs.lemmas.List.{append-nil, map-append}
use Rattle.std.proofs.lemmas.List.Elements.{filter-append}
use Rattle.rcp_model.specs.Attributes.{Attribute, insert_by_type, by_type, is_kept, written}
use Rattle.path_attrs.specs.Readings.{all_inserted, passed_on, sent_on}

-- whether a type stands in a list
abbrev pub has_kind : ℕ → List Attribute → Bool
has_kind kind attributes = list_any (λ a. eqb a.kind kind) attributes

-- whether an attribute's type is below the next one's
pub neither : (x y : Bool) → (x || y) ≡ false → (x ≡ false) × (y ≡ false)
neither true y none = absurd cc
neither false y none = (refl, none)

pub insert-below : (a b : Attribute) (bs : List Attribute) → b.kind < a.kind → insert_by_type a (b ∷ bs) ≡ b ∷ insert_by_type a bs
insert-below a b bs lt = rw (lt-ltb b.kind a.kind lt) refl

pub insert-above : (a b : Attribute) (bs : List Attribute) → a.kind ≤ b.kind → insert_by_type a (b ∷ bs) ≡ a ∷ b ∷ bs
insert-above a b bs le = rw (le-ltb b.kind a.kind le) refl

pub has_kind-insert : (kind : ℕ) (a : Attribute) (bs : List Attribute) → has_kind kind (insert_by_type a bs) ≡ (eqb a.kind kind || has_kind kind bs)
has_kind-insert kind a [] = refl
has_kind-insert kind a (b ∷ bs) = elim (cases_lt b.kind a.kind) [
  | inl lt ↦ ap (has_kind kind) (insert-below a b bs lt) ∙ ap (λ (t : Bool). eqb b.kind kind || t) (has_kind-insert kind a bs) ∙ swapped (eqb b.kind kind) (eqb a.kind kind) (has_kind kind bs)
  | inr le ↦ ap (has_kind kind) (insert-above a b bs le)
]
  where
    swapped : (x y z : Bool) → (x || (y || z)) ≡ (y || (x || z))
    swapped true true z = refl
    swapped true false z = refl
    swapped false true z = refl
    swapped false false z = refl

pub has_kind-by_type : (kind : ℕ) (bs : List Attribute) → has_kind kind (by_type bs) ≡ has_kind kind bs
has_kind-by_type kind [] = refl
has_kind-by_type kind (b ∷ bs) = has_kind-insert kind b (by_type bs) ∙ ap (λ (t : Bool). eqb b.kind kind || t) (has_kind-by_type kind bs)

pub has_kind-passed_on : (kind : ℕ) (bs : List Attribute) → has_kind kind bs ≡ false → has_kind kind (passed_on bs) ≡ false
has_kind-passed_on kind [] none = refl
has_kind-passed_on kind (b ∷ bs) none =
    let parts = neither (eqb b.kind kind) (has_kind kind bs) none in
    elim (cases_Bool (is_kept b)) [
      | inl kept ↦ rw (kept, parts.0) (has_kind-passed_on kind bs parts.1)
      | inr dropped ↦ rw dropped (has_kind-passed_on kind bs parts.1)
    ]

-- two attributes of different types go in in any order
pub insert-insert : (a b : Attribute) (bs : List Attribute) → a.kind ≢ b.kind → insert_by_type a (insert_by_type b bs) ≡ insert_by_type b (insert_by_type a bs)
insert-insert a b [] apart = elim (cases_lt a.kind b.kind) [
  | inl lt ↦ insert-above a b [] (omega arith) ∙ sym (insert-below b a [] lt)
  | inr le ↦ (let lt : b.kind < a.kind = omega arith in insert-below a b [] lt ∙ sym (insert-above b a [] (omega arith)))
]
insert-insert a b (c ∷ cs) apart = elim (cases_lt c.kind a.kind) [
  | inl ca ↦ elim (cases_lt c.kind b.kind) [
    | inl cb ↦
        ap (insert_by_type a) (insert-below b c cs cb) ∙ insert-below a c (insert_by_type b cs) ca
        ∙ ap (λ (xs : List Attribute). c ∷ xs) (insert-insert a b cs apart)
        ∙ sym (ap (insert_by_type b) (insert-below a c cs ca) ∙ insert-below b c (insert_by_type a cs) cb)
    | inr bc ↦
        ap (insert_by_type a) (insert-above b c cs bc) ∙ insert-below a b (c ∷ cs) (omega arith)
        ∙ ap (λ (xs : List Attribute). b ∷ xs) (insert-below a c cs ca)
        ∙ sym (ap (insert_by_type b) (insert-below a c cs ca) ∙ insert-above b c (insert_by_type a cs) bc)
  ]
  | inr ac ↦ elim (cases_lt c.kind b.kind) [
    | inl cb ↦
        ap (insert_by_type a) (insert-below b c cs cb) ∙ insert-above a c (insert_by_type b cs) ac
        ∙ sym (ap (insert_by_type b) (insert-above a c cs ac) ∙ insert-below b a (c ∷ cs) (omega arith) ∙ ap (λ (xs : List Attribute). a ∷ xs) (insert-below b c cs cb))
    | inr bc ↦ elim (cases_lt b.kind a.kind) [
      | inl ba ↦
          ap (insert_by_type a) (insert-above b c cs bc) ∙ insert-below a b (c ∷ cs) ba ∙ ap (λ (xs : List Attribute). b ∷ xs) (insert-above a c cs ac)
          ∙ sym (ap (insert_by_type b) (insert-above a c cs ac) ∙ insert-above b a (c ∷ cs) (omega arith))
      | inr ab ↦
          (let lt : a.kind < b.kind = omega arith in
          ap (insert_by_type a) (insert-above b c cs bc) ∙ insert-above a b (c ∷ cs) ab
          ∙ sym (ap (insert_by_type b) (insert-above a c cs ac) ∙ insert-below b a (c ∷ cs) lt ∙ ap (λ (xs : List Attribute). a ∷ xs) (insert-above b c cs bc)))
    ]
  ]
]

-- an attribute of a new type at the end
pub by_type-push : (bs : List Attribute) (a : Attribute) → has_kind a.kind bs ≡ false → by_type (bs ++ a ∷ []) ≡ insert_by_type a (by_type bs)
by_type-push [] a fresh = refl
by_type-push (b ∷ bs) a fresh =
    let parts = neither (eqb b.kind a.kind) (has_kind a.kind bs) fresh in
    let apart : b.kind ≢ a.kind = eqb-false _ _ parts.0 in
    ap (insert_by_type b) (by_type-push bs a parts.1) ∙ insert-insert b a (by_type bs) apart

-- what is sent on of a list with one attribute more at its end
pub sent_on-push : (bs : List Attribute) (a : Attribute) → has_kind a.kind bs ≡ false → sent_on (bs ++ a ∷ []) ≡ all_inserted (passed_on (a ∷ [])) (sent_on bs)
sent_on-push bs a fresh =
    let parted : passed_on (bs ++ a ∷ []) ≡ passed_on bs ++ passed_on (a ∷ []) = ap (map written) (filter-append is_kept bs (a ∷ [])) ∙ map-append written (filter is_kept bs) (filter is_kept (a ∷ [])) in
    elim (cases_Bool (is_kept a)) [
      | inl kept ↦ ap by_type parted ∙ rw kept (by_type-push (passed_on bs) (written a) (has_kind-passed_on a.kind bs fresh))
      | inr dropped ↦ ap by_type parted ∙ rw dropped (ap by_type (append-nil (passed_on bs)))
    ]
