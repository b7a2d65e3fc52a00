use Rattle.std.proofs.Common.{Some}
use Rattle.route_store.proofs.NumberLemmas.{puts_at, filled_at, first_row, first_filled}
use Rattle.std.specs.BTreeMap as tree
use Rattle.rcp_base.specs.IpPrefix.{prefix_cmp}
use Rattle.route_store.proofs.rows.put_first.Goals as goal

pub returns-clause-put : goal.returns-clause-put
returns-clause-put c =
    puts_at c.args.rows.now c.insert.new.self c.args.p (Some c.in-Ok.row) c.in-Ok-insert.ensures.updates.0 c.args.slot (Some c.args.route)
    (first_row c.in-Ok.row c.args.slot c.args.route (tree.get prefix_cmp c.args.rows.now c.args.p) c.in-Ok.ensures c.requires.absent)

pub returns-clause-filled : goal.returns-clause-filled
returns-clause-filled c =
    filled_at c.args.rows.now c.insert.new.self c.args.p (Some c.in-Ok.row) c.in-Ok-insert.ensures.updates.0 c.requires.filled
    (first_filled c.in-Ok.row (c.args.slot, c.args.route) c.in-Ok.ensures)
