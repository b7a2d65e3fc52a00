use Rattle.std.proofs.Common.{sym}
use Rattle.spf_incr.proofs.RowLemmas.{looked_up}
use Rattle.spf_incr.proofs.rows.cost_in.Goals as goal

pub returns-in-Ok : goal.returns-in-Ok
returns-in-Ok c =
    let found = (rw c.in-Ok.is at (looked_up c.args.names.now c.args.row.now c.args.router c.binary_search.result c.binary_search.ensures.position c.requires.rising c.requires.places)) in
    sym found.1

pub returns-in-Err : goal.returns-in-Err
returns-in-Err c =
    let none = (rw c.in-Err.is at (looked_up c.args.names.now c.args.row.now c.args.router c.binary_search.result c.binary_search.ensures.position c.requires.rising c.requires.places)) in
    sym none
