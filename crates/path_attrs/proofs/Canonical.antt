-- The canonical attributes of a list that is kept.
use Rattle.std.proofs.Common.{◌≡◌, ℕ, ◌+◌, ◌<◌, ◌≤◌, Bool, true, false, cond, leb, List, [], ◌∷◌, ◌++◌, length, get_or, take, drop, refl, sym, ap, ◌∙◌, append_assoc, length-append, arith}
use Rattle.std.specs.Prelude.{is_some}
use Rattle.std.proofs.lemmas.List.{append-nil, take-append-drop, take-map, drop-map, map-append}
use Rattle.std.proofs.lemmas.Bool.{and_parts, leb-true}
use Rattle.rcp_model.specs.Attributes.{Attribute, LOCAL_PREF, insert_by_type, by_type, is_kept, written, default_pref, value_of, canonical, canonical_octets, attribute_octets}
use Rattle.path_attrs.specs.Lists.{types_rise_from, octets_of, IsKept}
use Rattle.path_attrs.specs.Readings.{passed_on}
use Rattle.path_attrs.specs.Shown.{shown, all_shown}
use Rattle.path_attrs.specs.declared.value.Value.{Value}
use Rattle.path_attrs.specs.declared.value.Value.TheVariants as values
use Rattle.std.proofs.lemmas.List.Folds.{flat_map-map, length-flat_map-take}
use Rattle.std.proofs.lemmas.Grind.{flat_map-append}
use Rattle.path_attrs.proofs.Faultless.{length_insert}
use Rattle.path_attrs.proofs.Types.{insert-above}

-- a value is sent on as it is shown
shown-kept : (v : Value) → is_kept (shown v) ≡ true
shown-kept (values.Origin o) = refl
shown-kept (values.AsPath p) = refl
shown-kept (values.NextHop a) = refl
shown-kept (values.MultiExitDisc n) = refl
shown-kept (values.LocalPref n) = refl
shown-kept values.AtomicAggregate = refl
shown-kept (values.Aggregator partial a) = refl
shown-kept (values.Communities partial ns) = refl
shown-kept (values.Unrecognised u) = rw u.other_type refl

shown-written : (v : Value) → written (shown v) ≡ shown v
shown-written (values.Origin o) = refl
shown-written (values.AsPath p) = refl
shown-written (values.NextHop a) = refl
shown-written (values.MultiExitDisc n) = refl
shown-written (values.LocalPref n) = refl
shown-written values.AtomicAggregate = refl
shown-written (values.Aggregator true a) = refl
shown-written (values.Aggregator false a) = refl
shown-written (values.Communities true ns) = refl
shown-written (values.Communities false ns) = refl
shown-written (values.Unrecognised u) = rw u.other_type refl

pub passed_on-all_shown : (vs : List Value) → passed_on (all_shown vs) ≡ all_shown vs
passed_on-all_shown [] = refl
passed_on-all_shown (v ∷ vs) = rw (shown-kept v, shown-written v) (ap (λ (bs : List Attribute). shown v ∷ bs) (passed_on-all_shown vs))

-- attributes whose types rise are in order
pub by_type-rising : (low : ℕ) (bs : List Attribute) → types_rise_from low bs ≡ true → by_type bs ≡ bs
by_type-rising low [] up = refl
by_type-rising low (a ∷ []) up = refl
by_type-rising low (a ∷ b ∷ bs) up =
    let behind = (and_parts (leb low a.kind) _ up).1 in
    let next = leb-true (a.kind + 1) b.kind (and_parts (leb (a.kind + 1) b.kind) _ behind).0 in
    ap (insert_by_type a) (by_type-rising (a.kind + 1) (b ∷ bs) behind) ∙ insert-above a b bs (omega arith)

-- the canonical attributes of values in order: with LOCAL_PREF put in where it is absent
pub canonical-there : (vs : List Value) → IsKept (all_shown vs) → is_some (value_of LOCAL_PREF (all_shown vs)) ≡ true → canonical (all_shown vs) ≡ all_shown vs
unfolding canonical
canonical-there vs kept there = rw (passed_on-all_shown vs, there) (by_type-rising 0 (all_shown vs) kept.rising)

pub canonical-absent : (vs : List Value) → IsKept (all_shown vs) → is_some (value_of LOCAL_PREF (all_shown vs)) ≡ false → canonical (all_shown vs) ≡ insert_by_type default_pref (all_shown vs)
unfolding canonical
canonical-absent vs kept absent = rw (passed_on-all_shown vs, absent) (ap (insert_by_type default_pref) (by_type-rising 0 (all_shown vs) kept.rising))

-- the attribute of a value has room where all have
pub next_fits : (vs : List Value) (i : ℕ) (v : Value) → i < length vs → v ≡ get_or vs i v → length (octets_of (all_shown (take i vs))) + length (attribute_octets (shown v)) ≤ length (octets_of (all_shown vs))
next_fits vs i v inside is =
    let f : Value → List ℕ = λ w. attribute_octets (shown w) in
    let next = length-flat_map-take f vs i v inside in
    let at : f (get_or vs i v) ≡ f v = ap f (sym is) in
    omega (arith, rw at at next, ap length (flat_map-map attribute_octets shown (take i vs)), ap length (flat_map-map attribute_octets shown vs))

pub default_long : length (attribute_octets default_pref) ≡ 7
unfolding attribute_octets
default_long = refl

-- LOCAL_PREF where it is absent
abbrev pub default_octets : Bool → List ℕ
default_octets there = cond there [] (attribute_octets default_pref)

-- the canonical octets are those before the place of LOCAL_PREF, the default where it is absent, and those after
pub canonical-parts : (vs : List Value) (place : ℕ) (there : Bool) → IsKept (all_shown vs) → there ≡ is_some (value_of LOCAL_PREF (all_shown vs))
    → insert_by_type default_pref (all_shown vs) ≡ take place (all_shown vs) ++ default_pref ∷ drop place (all_shown vs)
    → canonical_octets (all_shown vs) ≡ (octets_of (all_shown (take place vs)) ++ default_octets there) ++ octets_of (all_shown (drop place vs))
canonical-parts vs place true kept is at =
    ap octets_of (canonical-there vs kept (sym is) ∙ sym (take-append-drop place (all_shown vs))) ∙ flat_map-append attribute_octets (take place (all_shown vs)) (drop place (all_shown vs))
    ∙ rw (append-nil, take-map, drop-map) refl
canonical-parts vs place false kept is at =
    ap octets_of (canonical-absent vs kept (sym is) ∙ at) ∙ flat_map-append attribute_octets (take place (all_shown vs)) (default_pref ∷ drop place (all_shown vs))
    ∙ sym (append_assoc (octets_of (take place (all_shown vs))) (attribute_octets default_pref) (octets_of (drop place (all_shown vs))))
    ∙ rw (take-map, drop-map) refl

-- how many octets stand before a place and after it
pub parts_long : (vs : List Value) (place : ℕ) → IsKept (all_shown vs)
    → length (octets_of (all_shown (take place vs))) + length (octets_of (all_shown (drop place vs))) ≤ 4073
parts_long vs place kept =
    let parted : octets_of (all_shown vs) ≡ octets_of (all_shown (take place vs)) ++ octets_of (all_shown (drop place vs)) =
    ap (λ (ws : List Value). octets_of (all_shown ws)) (sym (take-append-drop place vs)) ∙ ap octets_of (map-append shown (take place vs) (drop place vs)) ∙ flat_map-append attribute_octets (all_shown (take place vs)) (all_shown (drop place vs)) in
    omega (arith, ap length parted, length-append (octets_of (all_shown (take place vs))) (octets_of (all_shown (drop place vs))), kept.short)

pub default_short : (there : Bool) → length (default_octets there) ≤ 7
default_short true = omega arith
default_short false = omega (arith, default_long)

-- how many octets the canonical form has
pub canonical_long : (vs : List Value) (there : Bool) → IsKept (all_shown vs) → there ≡ is_some (value_of LOCAL_PREF (all_shown vs))
    → length (canonical_octets (all_shown vs)) ≡ length (octets_of (all_shown vs)) + length (default_octets there)
canonical_long vs true kept is = omega (arith, ap (λ (bs : List Attribute). length (octets_of bs)) (canonical-there vs kept (sym is)))
canonical_long vs false kept is =
    omega (arith, ap (λ (bs : List Attribute). length (octets_of bs)) (canonical-absent vs kept (sym is)), length_insert default_pref (all_shown vs))

pub canonical_short : (vs : List Value) → IsKept (all_shown vs) → length (canonical_octets (all_shown vs)) ≤ 4080
canonical_short vs kept =
    let there = is_some (value_of LOCAL_PREF (all_shown vs)) in
    omega (arith, canonical_long vs there kept refl, default_short there, kept.short)

-- how many octets each part of it has
pub parts_fit : (vs front back : List Value) (place : ℕ) (there : Bool) → IsKept (all_shown vs) → there ≡ is_some (value_of LOCAL_PREF (all_shown vs))
    → insert_by_type default_pref (all_shown vs) ≡ take place (all_shown vs) ++ default_pref ∷ drop place (all_shown vs) → front ≡ take place vs → back ≡ drop place vs
    → length (octets_of (all_shown front)) + length (default_octets there) + length (octets_of (all_shown back)) ≡ length (canonical_octets (all_shown vs))
parts_fit vs front back place there kept is at f b =
    rw (f, b)
    (omega (
      arith,
      ap length (canonical-parts vs place there kept is at),
      length-append (octets_of (all_shown (take place vs)) ++ default_octets there) (octets_of (all_shown (drop place vs))),
      length-append (octets_of (all_shown (take place vs))) (default_octets there),
    ))

-- the parts, one after another
pub parts_are_canonical : (vs front back : List Value) (place : ℕ) (there : Bool) → IsKept (all_shown vs) → there ≡ is_some (value_of LOCAL_PREF (all_shown vs))
    → insert_by_type default_pref (all_shown vs) ≡ take place (all_shown vs) ++ default_pref ∷ drop place (all_shown vs) → front ≡ take place vs → back ≡ drop place vs
    → canonical_octets (all_shown vs) ≡ (octets_of (all_shown front) ++ default_octets there) ++ octets_of (all_shown back)
parts_are_canonical vs front back place there kept is at f b = rw (f, b) (canonical-parts vs place there kept is at)
