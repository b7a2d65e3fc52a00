use Rattle.std.proofs.Common.{ap}
use Rattle.rcp_model.specs.LinkState.{RouterLsa}
use Rattle.lsdb.proofs.Installing.{changes-kept}
use Rattle.lsdb.proofs.database.keep.Goals as goal

pub returns-clause-ok : goal.returns-clause-ok
returns-clause-ok c =
    changes-kept c.lsa.inside.router _ _ c.args.routers.now.entries c.insert.new.self.entries (ap (λ (l : RouterLsa). l.key) c.lsa.view_is) c.in_ok-insert.field-0
    c.in_ok-insert.ensures.old c.in_ok-insert.ensures.updates.0 c.in_ok-insert.ensures.len c.in_ok-insert.ensures.ordered
