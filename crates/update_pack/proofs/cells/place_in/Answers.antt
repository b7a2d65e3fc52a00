-- The group of the offer before, or what the map has.
use Rattle.std.proofs.Common.{◌≡◌, Option, List, ℕ, Some, None, [], sym, ap, ◌∙◌, arith}
use Rattle.std.proofs.lemmas.List.{length-map}
use Rattle.update_pack.specs.Values.{value_in}
use Rattle.update_pack.specs.Shown.{groups_in, group_in}
use Rattle.update_pack.specs.Grouping.{place_of}
use Rattle.update_pack.proofs.PlaceLemmas.{same_attrs, value-at}
use Rattle.update_pack.proofs.cells.place_in.Goals as goal

pub returns-then-eq : goal.returns-then-eq
returns-then-eq c =
    let gs = groups_in c.args.groups.now in
    let same : value_in c.index-groups-last.result.attrs ≡ Some c.args.octets.now = same_attrs c.index-groups-last.result.attrs c.args.octets (sym c.eq.ensures ∙ c.if-eq.true) in
    let value = value-at c.args.groups.now c.args.last (None, []) c.index-groups-last.result (omega (arith, c.requires.last.within, length-map c.args.groups.now group_in)) c.index-groups-last.is in
    sym c.requires.last.first ∙ ap (λ (v : Option (List ℕ)). place_of v gs) (value ∙ same)

pub returns : goal.returns
returns c = c.copied.ensures ∙ c.get.ensures.value ∙ c.requires.placed.announced (record { 0 = c.args.octets })
