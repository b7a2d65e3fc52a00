use Rattle.platform_core.proofs.CarryLemmas.{told-map}
use Rattle.platform_core.proofs.carrying.carry_out.Goals as goal

pub learn-requires-clause-told : goal.learn-requires-clause-told
learn-requires-clause-told c = told-map c.args.shards.now.roster.as_number c.args.turn.actions.events.items c.requires.told
