use Rattle.std.proofs.Common.{◌<◌, length, sym, rules}
use Rattle.adj_ribs.proofs.tests.give.Goals as goal

pub set_cell-requires-2-clause-announced : goal.set_cell-requires-2-clause-announced
set_cell-requires-2-clause-announced c =
    let a = c.index-announcers-place.result in
    let within : c.args.place < length c.announcers-announcers.result.now = search rules in
    (c.announcers-announcers.ensures.each a.0 a.1).0 (c.args.place, within, sym c.index-announcers-place.is)
