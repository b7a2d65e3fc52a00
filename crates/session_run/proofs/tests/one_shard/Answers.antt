use Rattle.seats.proofs.Fresh.{numbers, unused}
use Rattle.session_run.proofs.tests.one_shard.Goals as goal

pub returns-clause-numbers : goal.returns-clause-numbers
returns-clause-numbers g c = numbers c.in_ok-make.field-0.1 c.in_ok-make.field-0.0.items c.in_ok-make.ensures.count c.in_ok-make.ensures.each

pub returns-clause-unused : goal.returns-clause-unused
returns-clause-unused g c = unused c.in_ok-make.field-0.1 c.in_ok-make.field-0.0.items c.in_ok-make.ensures.count c.in_ok-make.ensures.each
