-- The prefix goes to the place of its value's group, or opens one at the end.
use Rattle.std.proofs.Common.{◌≡◌, ◌++◌, ◌∷◌, [], ℕ, List, Option, Some, None, length, cond, refl, sym, ap, subst, ◌∙◌, arith}
use Rattle.std.proofs.lemmas.List.{length-map}
use Rattle.std.specs.Prelude.{bytes_eq}
use Rattle.std.specs.HashMap.{get}
use Rattle.rcp_model.proofs.PackingLemmas.{same_value-itself}
use Rattle.update_pack.specs.declared.group.Group.{Group}
use Rattle.update_pack.specs.Values.{value_in}
use Rattle.update_pack.specs.Shown.{group_in, groups_in}
use Rattle.update_pack.specs.Grouping.{place_of, put_in}
use Rattle.update_pack.specs.Places.{same_key, ArePlaces, IsAPlace}
use Rattle.update_pack.proofs.PlaceLemmas.{placed-at, placed-new, at_its_place, at_the_end}
use Rattle.update_pack.proofs.GroupLemmas.{put_in-at, put_in-new, place_of-there}
use Rattle.update_pack.proofs.cells.put.Goals as goal

pub add_prefix-requires-in-Some-place_in : goal.add_prefix-requires-in-Some-place_in
add_prefix-requires-in-Some-place_in c =
    let gs = groups_in c.args.groups.now.items in
    let v : Option (List ℕ) = Some c.in-Some.octets.now in
    let e : place_of v gs ≡ Some c.in-Some-place_in.place = ap (λ (l : List Group). place_of v (groups_in l)) (sym c.as_slice.ensures.value) ∙ sym c.place_in.ensures ∙ c.in-Some-place_in.is in
    let there = place_of-there v gs c.in-Some-place_in.place e in
    omega (arith, there.within, length-map c.args.groups.now.items group_in)

pub returns-in-Some-place_in-clause-grouped : goal.returns-in-Some-place_in-clause-grouped
returns-in-Some-place_in-clause-grouped c =
    let gs = groups_in c.args.groups.now.items in
    let v : Option (List ℕ) = Some c.in-Some.octets.now in
    let e : place_of v gs ≡ Some c.in-Some-place_in.place = ap (λ (l : List Group). place_of v (groups_in l)) (sym c.as_slice.ensures.value) ∙ sym c.place_in.ensures ∙ c.in-Some-place_in.is in
    c.in_ok-add_prefix-2.ensures
    ∙ sym (put_in-at v c.args.prefix gs c.in-Some-place_in.place e)
    ∙ ap (λ (u : Option (List ℕ)). put_in u c.args.prefix gs) (sym (ap value_in c.in-Some.is))

pub returns-in-Some-place_in-clause-placed : goal.returns-in-Some-place_in-clause-placed
returns-in-Some-place_in-clause-placed c =
    subst (ArePlaces c.args.places.now) (sym c.in_ok-add_prefix-2.ensures)
    (placed-at c.args.places.now (groups_in c.args.groups.now.items) c.requires.placed c.args.prefix c.in-Some-place_in.place)

pub returns-in-Some-place_in-clause-last : goal.returns-in-Some-place_in-clause-last
returns-in-Some-place_in-clause-last c =
    let gs = groups_in c.args.groups.now.items in
    let v : Option (List ℕ) = Some c.in-Some.octets.now in
    let e : place_of v gs ≡ Some c.in-Some-place_in.place = ap (λ (l : List Group). place_of v (groups_in l)) (sym c.as_slice.ensures.value) ∙ sym c.place_in.ensures ∙ c.in-Some-place_in.is in
    subst (IsAPlace c.in-Some-place_in.place) (sym c.in_ok-add_prefix-2.ensures) (at_its_place v c.args.prefix gs c.in-Some-place_in.place e)

pub returns-clause-grouped : goal.returns-clause-grouped
returns-clause-grouped c =
    let gs = groups_in c.args.groups.now.items in
    let v : Option (List ℕ) = Some c.in-Some.octets.now in
    let e : place_of v gs ≡ None = ap (λ (l : List Group). place_of v (groups_in l)) (sym c.as_slice.ensures.value) ∙ sym c.place_in.ensures ∙ c.in_default-place_in.is in
    let value : value_in c.args.attrs ≡ v = ap value_in c.in-Some.is in
    c.in_ok-open_group.ensures
    ∙ ap (λ (u : Option (List ℕ)). gs ++ (u, c.args.prefix ∷ []) ∷ []) value
    ∙ sym (put_in-new v c.args.prefix gs e)
    ∙ ap (λ (u : Option (List ℕ)). put_in u c.args.prefix gs) (sym value)

pub returns-clause-placed : goal.returns-clause-placed
returns-clause-placed c =
    let gs = groups_in c.args.groups.now.items in
    let v : Option (List ℕ) = Some c.in-Some.octets.now in
    let e : place_of v gs ≡ None = ap (λ (l : List Group). place_of v (groups_in l)) (sym c.as_slice.ensures.value) ∙ sym c.place_in.ensures ∙ c.in_default-place_in.is in
    let grown : groups_in c.open_group.new.groups.items ≡ gs ++ (v, c.args.prefix ∷ []) ∷ [] =
    c.in_ok-open_group.ensures ∙ ap (λ (u : Option (List ℕ)). gs ++ (u, c.args.prefix ∷ []) ∷ []) (ap value_in c.in-Some.is) in
    let end : c.len-place.result ≡ length gs = c.len-place.ensures ∙ c.args.groups.now.ok.0 ∙ sym (length-map c.args.groups.now.items group_in) in
    subst (ArePlaces c.insert.new.self) (sym grown)
    (placed-new c.args.places.now gs c.requires.placed c.args.prefix c.in-Some.octets.now e c.insert.new.self (record { 0 = c.in-Some.octets }) refl
    (λ q. c.in_ok-insert.ensures.updates.0 q ∙ ap (λ (n : ℕ). cond (bytes_eq c.in-Some.octets.now q.0.now) (Some n) (get same_key c.args.places.now q)) end))

pub returns-clause-last : goal.returns-clause-last
returns-clause-last c =
    let gs = groups_in c.args.groups.now.items in
    let v : Option (List ℕ) = Some c.in-Some.octets.now in
    let e : place_of v gs ≡ None = ap (λ (l : List Group). place_of v (groups_in l)) (sym c.as_slice.ensures.value) ∙ sym c.place_in.ensures ∙ c.in_default-place_in.is in
    let grown : groups_in c.open_group.new.groups.items ≡ gs ++ (v, c.args.prefix ∷ []) ∷ [] =
    c.in_ok-open_group.ensures ∙ ap (λ (u : Option (List ℕ)). gs ++ (u, c.args.prefix ∷ []) ∷ []) (ap value_in c.in-Some.is) in
    let end : c.len-place.result ≡ length gs = c.len-place.ensures ∙ c.args.groups.now.ok.0 ∙ sym (length-map c.args.groups.now.items group_in) in
    subst (λ n. IsAPlace n (groups_in c.open_group.new.groups.items)) (sym end)
    (subst (IsAPlace (length gs)) (sym grown) (at_the_end v c.args.prefix gs e (same_value-itself v)))
