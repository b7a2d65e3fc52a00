use Rattle.std.proofs.Common.{sym, ap, ◌∙◌}
use Rattle.path_attrs.specs.Shown.{shown, all_shown}
use Rattle.path_attrs.proofs.Inserting.{all_shown-insert}
use Rattle.path_attrs.proofs.attrs.insert.Goals as goal

pub returns-in_ok-insert : goal.returns-in_ok-insert
returns-in_ok-insert c =
    let place = rw (c.deref.ensures.value, c.make_room.ensures) at (c.place_of-place.ensures.place (shown c.args.value) (sym c.kind.ensures)) in
    ap all_shown c.in_ok-insert.ensures.items ∙ rw c.make_room.ensures (all_shown-insert c.args.values.now.items c.place_of-place.result c.args.value) ∙ sym place
