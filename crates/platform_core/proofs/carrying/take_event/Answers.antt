use Rattle.rcp_model.specs.ServerRibs.{Up, Change}
use Rattle.std.proofs.Common.{Some, None}
use Rattle.platform_core.proofs.CarryLemmas.{keeps_acted}
use Rattle.platform_core.proofs.carrying.take_event.Goals as goal

pub returns-in-Up-clause-kept : goal.returns-in-Up-clause-kept
returns-in-Up-clause-kept c = keeps_acted (Up c.args.slot) c.args.shards.now c.up.new.self tt c.up.ensures

pub returns-in_ok-announce-in-Announce-clause-kept : goal.returns-in_ok-announce-in-Announce-clause-kept
returns-in_ok-announce-in-Announce-clause-kept c =
    keeps_acted (Change c.args.slot c.in-Announce.prefix (Some c.in-Announce.route)) c.args.shards.now c.announce.new.self tt c.in_ok-announce-in-Announce.ensures.after

pub returns-in-Withdraw-clause-kept : goal.returns-in-Withdraw-clause-kept
returns-in-Withdraw-clause-kept c = keeps_acted (Change c.args.slot c.in-Withdraw.prefix None) c.args.shards.now c.withdraw.new.self tt c.withdraw.ensures
