use Rattle.std.proofs.Common.{subst}
use Rattle.lsdb.specs.Databases.{Database, Holds}
use Rattle.lsdb.proofs.Installing.{holds-itself}
use Rattle.lsdb.proofs.database.Lsdb.time.Goals as goal

pub returns-clause-kept : goal.returns-clause-kept
returns-clause-kept c = subst (λ (d : Database). Holds d.state d.state) c.self.view_is (holds-itself c.self.inside.routers.entries c.self.invariant)
