use Rattle.attr_store.proofs.CountLemmas.{written}
use Rattle.attr_store.proofs.store.add_use.Goals as goal

pub returns-in-Some : goal.returns-in-Some
returns-in-Some c =
    written c.args.kept.now c.args.number c.in-Some.kept.now c.in-Some.ensures.value c.saturating_add-kept.result c.saturating_add-kept.ensures
