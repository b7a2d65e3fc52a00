use Rattle.std.proofs.Common.{option_map, sym, ◌∙◌, refl}
use Rattle.rcp_model.specs.ServerRibs.{Down}
use Rattle.session_core.specs.Shown.{ending_of}
use Rattle.platform_core.proofs.CarryLemmas.{ended, not_ended, some-map, keeps_acted}
use Rattle.platform_core.proofs.carrying.end_if.Goals as goal

pub returns-then-is_some-clause-shards : goal.returns-then-is_some-clause-shards
returns-then-is_some-clause-shards c =
    ended c.args.shards.now.roster c.args.slot (option_map ending_of c.args.closed.now) c.args.shards.now c.down.new.self (some-map ending_of c.args.closed.now ∙ sym c.is_some.ensures ∙ c.if-is_some.true) refl c.down.ensures

pub returns-then-is_some-clause-kept : goal.returns-then-is_some-clause-kept
returns-then-is_some-clause-kept c = keeps_acted (Down c.args.slot) c.args.shards.now c.down.new.self tt c.down.ensures

pub returns-else-is_some-clause-shards : goal.returns-else-is_some-clause-shards
returns-else-is_some-clause-shards c =
    not_ended c.args.shards.now.roster c.args.slot (option_map ending_of c.args.closed.now) c.args.shards.now.shards (some-map ending_of c.args.closed.now ∙ sym c.is_some.ensures ∙ c.if-is_some.false)
