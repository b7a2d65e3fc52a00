-- An attribute that is put in its place by type.
use Rattle.std.proofs.Common.{◌≡◌, ℕ, ◌+◌, ◌<◌, ◌≤◌, List, [], ◌∷◌, ◌++◌, length, get_or, take, drop, refl, sym, ap, ◌∙◌, append_assoc, arith}
use Rattle.std.specs.Prelude.{insert}
use Rattle.std.proofs.lemmas.Bool.{le-ltb, lt-ltb}
use Rattle.std.proofs.lemmas.List.{drop_more, take_more, get_or-map, map-append, take-map, drop-map, length-map}
use Rattle.rcp_model.specs.Attributes.{Attribute, insert_by_type}
use Rattle.path_attrs.specs.declared.value.Value.{Value}
use Rattle.path_attrs.specs.Shown.{shown, all_shown}

-- it goes before an attribute of no lower type
before : (a b : Attribute) (bs : List Attribute) → a.kind ≤ b.kind → insert_by_type a (b ∷ bs) ≡ a ∷ b ∷ bs
before a b bs le = rw (le-ltb b.kind a.kind le) refl

-- and after one of a lower type
after : (a b : Attribute) (bs : List Attribute) → b.kind < a.kind → insert_by_type a (b ∷ bs) ≡ b ∷ insert_by_type a bs
after a b bs lt = rw (lt-ltb b.kind a.kind lt) refl

module _ (values : List Value) (i : ℕ) (value : Value) (inside : i < length values) (is : value ≡ get_or values i value) where
  front_shown : drop i (all_shown values) ≡ shown value ∷ drop (i + 1) (all_shown values)
  front_shown =
      let long : i < length (all_shown values) = omega (arith, length-map values shown) in
      let one : get_or (all_shown values) i (shown value) ≡ shown value = get_or-map shown values i value (shown value) inside ∙ ap shown (sym is) in
      drop_more (all_shown values) i (shown value) long ∙ ap (λ (b : Attribute). b ∷ drop (i + 1) (all_shown values)) one

  next_shown : take (i + 1) (all_shown values) ≡ take i (all_shown values) ++ shown value ∷ []
  next_shown =
      let long : i < length (all_shown values) = omega (arith, length-map values shown) in
      let one : get_or (all_shown values) i (shown value) ≡ shown value = get_or-map shown values i value (shown value) inside ∙ ap shown (sym is) in
      take_more (all_shown values) i (shown value) long ∙ ap (λ (b : Attribute). take i (all_shown values) ++ b ∷ []) one

  pub placed_here : (a : Attribute) → a.kind ≤ (shown value).kind → insert_by_type a (all_shown values) ≡ take i (all_shown values) ++ insert_by_type a (drop i (all_shown values))
      → insert_by_type a (all_shown values) ≡ take i (all_shown values) ++ a ∷ drop i (all_shown values)
  placed_here a le so_far =
      so_far ∙ ap (λ (bs : List Attribute). take i (all_shown values) ++ bs) (ap (insert_by_type a) front_shown ∙ before a (shown value) _ le ∙ ap (λ (bs : List Attribute). a ∷ bs) (sym front_shown))

  pub placed_later : (a : Attribute) → (shown value).kind < a.kind → insert_by_type a (all_shown values) ≡ take i (all_shown values) ++ insert_by_type a (drop i (all_shown values))
      → insert_by_type a (all_shown values) ≡ take (i + 1) (all_shown values) ++ insert_by_type a (drop (i + 1) (all_shown values))
  placed_later a lt so_far =
      so_far ∙ ap (λ (bs : List Attribute). take i (all_shown values) ++ bs) (ap (insert_by_type a) front_shown ∙ after a (shown value) _ lt)
      ∙ sym (append_assoc (take i (all_shown values)) (shown value ∷ []) (insert_by_type a (drop (i + 1) (all_shown values))))
      ∙ ap (λ (bs : List Attribute). bs ++ insert_by_type a (drop (i + 1) (all_shown values))) (sym next_shown)

pub all_shown-insert : (values : List Value) (place : ℕ) (value : Value) → all_shown (insert values place value) ≡ take place (all_shown values) ++ shown value ∷ drop place (all_shown values)
all_shown-insert values place value = simp (map-append, take-map, drop-map)
