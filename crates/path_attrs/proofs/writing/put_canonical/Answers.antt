use Rattle.std.proofs.Common.{length, sym, ap, ◌∙◌, refl, arith}
use Rattle.rcp_model.specs.Attributes.{default_pref}
use Rattle.path_attrs.proofs.Canonical.{canonical_short, parts_fit, parts_are_canonical}
use Rattle.path_attrs.proofs.Written.{Appends-then}
use Rattle.path_attrs.proofs.writing.put_canonical.Goals as goal

pub put_values-at-requires-clause-room : goal.put_values-at-requires-clause-room
put_values-at-requires-clause-room g c =
    omega (
      arith,
      c.requires.room,
      parts_fit c.args.values.now c.split_at.result.0.now c.split_at.result.1.now c.place_of-place.result _ c.requires.kept refl
          (c.place_of-place.ensures.place default_pref refl) c.split_at.ensures.front c.split_at.ensures.back,
    )

pub put_default-at-requires-clause-room : goal.put_default-at-requires-clause-room
put_default-at-requires-clause-room g c =
    omega (
      arith,
      c.requires.room,
      c.put_values-at.ensures.appends.end_is,
      c.put_values-at.ensures.size,
      parts_fit c.args.values.now c.split_at.result.0.now c.split_at.result.1.now c.place_of-place.result c.is_there.result c.requires.kept c.is_there.ensures
          (c.place_of-place.ensures.place default_pref refl) c.split_at.ensures.front c.split_at.ensures.back,
    )

pub put_values-requires-clause-room : goal.put_values-requires-clause-room
put_values-requires-clause-room g c =
    omega (
      arith,
      c.requires.room,
      c.put_values-at.ensures.appends.end_is,
      c.put_values-at.ensures.size,
      c.put_default-at.ensures.appends.end_is,
      c.put_default-at.ensures.size,
      parts_fit c.args.values.now c.split_at.result.0.now c.split_at.result.1.now c.place_of-place.result c.is_there.result c.requires.kept c.is_there.ensures
          (c.place_of-place.ensures.place default_pref refl) c.split_at.ensures.front c.split_at.ensures.back,
    )

-- all that is put, in order, is the canonical octets
pub returns-clause-octets : goal.returns-clause-octets
returns-clause-octets g c =
    let all = Appends-then _ _ _ _ _ _ _ _ (Appends-then _ _ _ _ _ _ _ _ c.put_values-at.ensures.appends c.put_default-at.ensures.appends) c.put_values.ensures.appends in
    let are = parts_are_canonical c.args.values.now c.split_at.result.0.now c.split_at.result.1.now c.place_of-place.result c.is_there.result c.requires.kept c.is_there.ensures
    (c.place_of-place.ensures.place default_pref refl) c.split_at.ensures.front c.split_at.ensures.back in
    all.octets_are ∙ sym are

pub returns-clause-len : goal.returns-clause-len
returns-clause-len g c =
    let all = Appends-then _ _ _ _ _ _ _ _ (Appends-then _ _ _ _ _ _ _ _ c.put_values-at.ensures.appends c.put_default-at.ensures.appends) c.put_values.ensures.appends in
    let are = parts_are_canonical c.args.values.now c.split_at.result.0.now c.split_at.result.1.now c.place_of-place.result c.is_there.result c.requires.kept c.is_there.ensures
    (c.place_of-place.ensures.place default_pref refl) c.split_at.ensures.front c.split_at.ensures.back in
    omega (arith, all.end_is, ap length are)

pub returns-clause-short : goal.returns-clause-short
returns-clause-short g c =
    let all = Appends-then _ _ _ _ _ _ _ _ (Appends-then _ _ _ _ _ _ _ _ c.put_values-at.ensures.appends c.put_default-at.ensures.appends) c.put_values.ensures.appends in
    let are = parts_are_canonical c.args.values.now c.split_at.result.0.now c.split_at.result.1.now c.place_of-place.result c.is_there.result c.requires.kept c.is_there.ensures
    (c.place_of-place.ensures.place default_pref refl) c.split_at.ensures.front c.split_at.ensures.back in
    omega (arith, all.end_is, ap length are, canonical_short c.args.values.now c.requires.kept)
