use Rattle.lsdb.proofs.Installing.{changes-removed}
use Rattle.lsdb.proofs.database.remove.Goals as goal

pub returns : goal.returns
returns c = changes-removed c.args.router c.args.routers.now.entries c.remove.new.self.entries c.remove.result c.remove.ensures.value c.remove.ensures.updates.0 c.remove.ensures.len c.remove.ensures.ordered
