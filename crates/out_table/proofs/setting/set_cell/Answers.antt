use Rattle.out_table.specs.Cells.{held_for}
use Rattle.out_table.proofs.SettingLemmas.{seat_mid, below_mid, rising_mid, room_mid, sets_marked}
use Rattle.out_table.proofs.setting.set_cell.Goals as goal

pub gap-requires-clause-slot : goal.gap-requires-clause-slot
gap-requires-clause-slot c =
    seat_mid c.args.slot c.args.place (held_for c.args.value) c.args.p.now c.args.prefixes.now c.args.columns.now c.write.new.self c.requires.slot c.requires.kept c.requires.within c.requires.place c.write.ensures.cells

pub gap-requires-clause-below : goal.gap-requires-clause-below
gap-requires-clause-below c =
    below_mid c.args.slot c.args.place (held_for c.args.value) c.args.p.now c.args.prefixes.now c.args.columns.now c.write.new.self c.requires.slot c.requires.kept c.requires.within c.requires.place c.write.ensures.cells

pub gap-requires-clause-rising : goal.gap-requires-clause-rising
gap-requires-clause-rising c =
    rising_mid c.args.slot c.args.place (held_for c.args.value) c.args.p.now c.args.prefixes.now c.args.columns.now c.write.new.self c.requires.slot c.requires.kept c.requires.within c.requires.place c.write.ensures.cells

pub mark-requires-clause-slot : goal.mark-requires-clause-slot
mark-requires-clause-slot c =
    seat_mid c.args.slot c.args.place (held_for c.args.value) c.args.p.now c.args.prefixes.now c.args.columns.now c.write.new.self c.requires.slot c.requires.kept c.requires.within c.requires.place c.write.ensures.cells

pub mark-requires-clause-room : goal.mark-requires-clause-room
mark-requires-clause-room c =
    room_mid c.args.slot c.args.place (held_for c.args.value) c.args.p.now c.args.prefixes.now c.args.columns.now c.write.new.self c.requires.slot c.requires.kept c.requires.within c.requires.place c.write.ensures.cells c.in-Some.gap c.in-Some.ensures

pub returns-in-Some-clause-after : goal.returns-in-Some-clause-after
returns-in-Some-clause-after c =
    sets_marked c.args.slot c.args.place (held_for c.args.value) c.args.p.now c.args.prefixes.now c.args.columns.now c.write.new.self c.requires.slot c.requires.kept c.requires.within c.requires.place c.write.ensures.cells c.in-Some.gap c.mark.new.self c.in-Some.ensures c.mark.ensures
