use Rattle.std.proofs.Common.{max, sym, subst, ◌∙◌}
use Rattle.igp_view.specs.Streams.{lsas_by, stream_of}
use Rattle.igp_view.specs.Igp.{AreEdgesOf}
use Rattle.igp_view.proofs.EdgeLemmas.{edges_fresh}
use Rattle.igp_view.proofs.igp.IgpView.octets.Goals as goal

pub renew-requires-clause-fresh : goal.renew-requires-clause-fresh
renew-requires-clause-fresh c fresh =
    let none = c.may_change.ensures fresh in
    subst (λ links. AreEdgesOf c.take_piece.new.lsdb.state links c.self.inside.view.value.edges) (sym c.deref.ensures.value)
    (edges_fresh c.self.inside.lsdb c.tick-went.new.lsdb c.take_piece.new.lsdb c.self.inside.links.items c.self.inside.view.value.edges
    (lsas_by c.self.inside.area (stream_of c.self.inside.is_lost c.self.inside.framer) c.args.piece.now) (max c.args.now c.self.inside.lsdb.moment) c.tick-went.ensures.kept ((c.self.invariant.1 c.if-self.false).1)
    (c.tick-went.ensures.stays none.0) c.tick-went.ensures.state c.in_ok-got.ensures.state (sym c.in_ok-got.ensures.installed ∙ none.1))
