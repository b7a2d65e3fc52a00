use Rattle.seats.proofs.Fresh.{numbers}
use Rattle.session_serve.proofs.tests.one_shard.Goals as goal

pub returns-clause-numbers : goal.returns-clause-numbers
returns-clause-numbers g c = numbers c.in_ok-make.field-0.1 c.in_ok-make.field-0.0.items c.in_ok-make.ensures.count c.in_ok-make.ensures.each
