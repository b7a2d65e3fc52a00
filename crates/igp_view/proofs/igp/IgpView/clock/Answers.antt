use Rattle.std.proofs.Common.{[], max, refl, sym, subst}
use Rattle.igp_view.specs.Igp.{AreEdgesOf}
use Rattle.igp_view.proofs.EdgeLemmas.{edges_fresh}
use Rattle.igp_view.proofs.ReadLemmas.{installs_none}
use Rattle.igp_view.proofs.igp.IgpView.clock.Goals as goal

pub renew-requires-clause-fresh : goal.renew-requires-clause-fresh
renew-requires-clause-fresh c fresh =
    subst (λ links. AreEdgesOf c.tick-went.new.lsdb.state links c.self.inside.view.value.edges) (sym c.deref.ensures.value)
    (edges_fresh c.self.inside.lsdb c.tick-went.new.lsdb c.tick-went.new.lsdb c.self.inside.links.items c.self.inside.view.value.edges [] (max c.args.now c.self.inside.lsdb.moment) c.tick-went.ensures.kept
    ((c.self.invariant.1 c.if-self.false).1) (c.tick-went.ensures.stays fresh) c.tick-went.ensures.state (installs_none c.tick-went.new.lsdb) refl)
