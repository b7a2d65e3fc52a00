use Rattle.std.proofs.Common.{sym, subst}
use Rattle.igp_view.specs.Streams.{lsas_by, stream_of}
use Rattle.igp_view.specs.Reading.{Installs}
use Rattle.igp_view.proofs.ReadLemmas.{installs_none}
use Rattle.igp_view.proofs.intake.take_piece.Goals as goal

pub returns-then-is_lost-clause-state : goal.returns-then-is_lost-clause-state
returns-then-is_lost-clause-state c =
    subst (λ lost. Installs (lsas_by c.args.area (stream_of lost c.args.framer.now) c.args.piece.now) c.args.lsdb.now c.args.lsdb.now) (sym c.if-is_lost.true) (installs_none c.args.lsdb.now)
