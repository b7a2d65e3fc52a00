-- Attributes that are sent on have the canonical form and the route of those that were read.
use Rattle.std.proofs.Common.{◌≡◌, ℕ, Bool, true, false, List, [], ◌∷◌, refl, ap, ◌∙◌, inl, inr, arith}
use Rattle.std.specs.Prelude.{is_some}
use Rattle.std.specs.List.{flat_map, AllByRecursion}
use Rattle.std.specs.Int.{Width}
use Rattle.std.proofs.lemmas.Bool.{cases_Bool, cases_lt}
use Rattle.rcp_model.specs.Attributes.{Attribute, ORIGIN, AS_PATH, NEXT_HOP, MULTI_EXIT_DISC, LOCAL_PREF, is_kept, is_recognised, written, default_pref, with_pref, insert_by_type, by_type, value_of, canonical, canonical_octets, attribute_octets, has_route}
use Rattle.rcp_model.specs.Routes.{route_of}
use Rattle.rcp_model.proofs.CanonicalLemmas.{written-written, by_type-All}
use Rattle.path_attrs.specs.Readings.{passed_on, sent_on}
use Rattle.path_attrs.proofs.Types.{insert-below, insert-above, insert-insert}
use Rattle.path_attrs.proofs.Values.{value_of-by_type, value_of-sent_on}

-- ---- they are sent on as they are

record IsFixed (a : Attribute) : Type 0 where
  kept : is_kept a ≡ true
  same : written a ≡ a

fixed-written : (a : Attribute) → IsFixed (written a)
fixed-written a = record { kept = kept (is_recognised a.kind) refl; same = written-written a }
  where
    kept : (known : Bool) → is_recognised a.kind ≡ known → is_kept (written a) ≡ true
    kept true is = rw is refl
    kept false is = rw is refl

fixed-passed_on : (bs : List Attribute) → AllByRecursion IsFixed (passed_on bs)
fixed-passed_on [] = tt
fixed-passed_on (b ∷ bs) = elim (cases_Bool (is_kept b)) [
  | inl kept ↦ rw kept (fixed-written b, fixed-passed_on bs)
  | inr dropped ↦ rw dropped (fixed-passed_on bs)
]

passed_on-fixed : (bs : List Attribute) → AllByRecursion IsFixed bs → passed_on bs ≡ bs
passed_on-fixed [] all = refl
passed_on-fixed (b ∷ bs) all = rw (all.0.kept, all.0.same) (ap (λ (cs : List Attribute). b ∷ cs) (passed_on-fixed bs all.1))

passed_on-sent_on : (bs : List Attribute) → passed_on (sent_on bs) ≡ sent_on bs
passed_on-sent_on bs = passed_on-fixed (sent_on bs) (by_type-All IsFixed (passed_on bs) (fixed-passed_on bs))

-- ---- what is in order stays

by_type-insert : (a : Attribute) (bs : List Attribute) → by_type (insert_by_type a bs) ≡ insert_by_type a (by_type bs)
by_type-insert a [] = refl
by_type-insert a (b ∷ bs) = elim (cases_lt b.kind a.kind) [
  | inl lt ↦ ap by_type (insert-below a b bs lt) ∙ ap (insert_by_type b) (by_type-insert a bs) ∙ insert-insert b a (by_type bs) (omega arith)
  | inr le ↦ ap by_type (insert-above a b bs le)
]

by_type-by_type : (bs : List Attribute) → by_type (by_type bs) ≡ by_type bs
by_type-by_type [] = refl
by_type-by_type (b ∷ bs) = by_type-insert b (by_type bs) ∙ ap (insert_by_type b) (by_type-by_type bs)

with_pref-by_type : (bs : List Attribute) → by_type (with_pref (by_type bs)) ≡ by_type (with_pref bs)
with_pref-by_type bs = elim (cases_Bool (is_some (value_of LOCAL_PREF bs))) [
  | inl there ↦ rw (value_of-by_type LOCAL_PREF bs, there) (by_type-by_type bs)
  | inr absent ↦ rw (value_of-by_type LOCAL_PREF bs, absent) (ap (insert_by_type default_pref) (by_type-by_type bs))
]

-- ---- canonical form and route

canonical-sent_on : (bs : List Attribute) → canonical (sent_on bs) ≡ canonical bs
unfolding canonical
canonical-sent_on bs = ap (λ (cs : List Attribute). by_type (with_pref cs)) (passed_on-sent_on bs) ∙ with_pref-by_type (passed_on bs)

pub canonical_octets-sent_on : (bs : List Attribute) → canonical_octets (sent_on bs) ≡ canonical_octets bs
canonical_octets-sent_on bs = ap (flat_map attribute_octets) (canonical-sent_on bs)

pub has_route-sent_on : (bs : List Attribute) → has_route (sent_on bs) ≡ has_route bs
has_route-sent_on bs = rw (value_of-sent_on ORIGIN bs refl, value_of-sent_on AS_PATH bs refl, value_of-sent_on NEXT_HOP bs refl) refl

pub route_of-sent_on : (width : Width) (number : ℕ) (bs : List Attribute) → route_of width number (sent_on bs) ≡ route_of width number bs
unfolding route_of
route_of-sent_on width number bs = rw (
  value_of-sent_on ORIGIN bs refl,
  value_of-sent_on AS_PATH bs refl,
  value_of-sent_on NEXT_HOP bs refl,
  value_of-sent_on MULTI_EXIT_DISC bs refl,
  value_of-sent_on LOCAL_PREF bs refl,
  canonical_octets-sent_on bs,
) refl
