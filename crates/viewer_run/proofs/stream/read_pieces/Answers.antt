-- One piece more is read at a time, and what it brings is shown.
use Rattle.std.proofs.Common.{refl, ◌∙◌, ◌+◌, ◌||◌, false, true, take, is_some, arith}
use Rattle.viewer_run.specs.Pieces.{Piece}
use Rattle.viewer_run.specs.Viewing.{at_most}
use Rattle.viewer_run.proofs.ViewLemmas.{shown_first, shown_then}
use Rattle.viewer_run.proofs.PieceLemmas.{served_first, served_next}
use Rattle.viewer_run.proofs.stream.read_pieces.Goals as goal

pub loop-init : goal.loop-init
loop-init g c =
    let restarted = c.begin-counts.ensures.restarted in
    let none = c.begin-counts.ensures.none in
    record {
      served =
          served_first (g.C.Clock.can_give c.args.clock.now) (g.L.Link.given c.args.link.now) c.args.igp.now c.begin-counts.new.igp c.begin-counts.result.installed c.begin-counts.result.left_out
          c.begin-counts.result.lost restarted (λ i. (none i).installed) (λ i. (none i).left_out) (λ i. (none i).lost);
      shown = shown_first false c.args.igp.now c.begin-counts.new.igp c.args.shards.now (λ i. (restarted i).edges);
      roster = record { area = λ i. (restarted i).area; members = λ i. (restarted i).members; links = λ i. (restarted i).links };
      ends = refl;
      faults = omega arith;
    }

pub returns-in-Err-take_piece-clause-shown : goal.returns-in-Err-take_piece-clause-shown
returns-in-Err-take_piece-clause-shown g c =
    shown_then true c.args.igp.now c.loop.igp c.take_piece.new.igp c.args.shards.now c.loop.shards c.take_piece.new.shards c.loop.invariant.shown c.loop.invariant.roster.members
    c.in-Err-take_piece.ensures.shown

pub loop-preserved : goal.loop-preserved
loop-preserved g c =
    let before = c.loop.invariant in
    let taken = c.in-Ok-take_piece.ensures.taken in
    let roster = c.in-Ok-take_piece.ensures.roster in
    let piece : Piece = (taken.0, take c.in-Ok.count c.read_some.new.buf) in
    let fell = c.in-Ok.ensures.faults in
    let rested = c.rest_if_idle.ensures.faults in
    record {
      served =
          served_next (g.C.Clock.can_give c.args.clock.now) (g.L.Link.given c.args.link.now) (g.L.Link.given c.loop.link) (g.L.Link.given c.rest_if_idle.new.link) c.args.igp.now c.loop.igp
          c.take_piece.new.igp c.loop.counts.installed c.loop.counts.left_out c.add.new.self.installed c.add.new.self.left_out c.loop.counts.lost c.add.new.self.lost before.served before.roster
          piece taken.1 taken.2 (c.rest_if_idle.ensures.given ∙ c.in-Ok.ensures.given.1)
          (c.add.ensures.installed ∙ (λ i. at_most (c.loop.counts.installed + c.in-Ok-take_piece.ensures.installed i)))
          (c.add.ensures.left_out ∙ (λ i. at_most (c.loop.counts.left_out + c.in-Ok-take_piece.ensures.left_out i)))
          (c.add.ensures.lost ∙ (λ i. c.loop.counts.lost || is_some (c.in-Ok-take_piece.ensures.lost i)));
      shown =
          shown_then false c.args.igp.now c.loop.igp c.take_piece.new.igp c.args.shards.now c.loop.shards c.take_piece.new.shards before.shown before.roster.members
          c.in-Ok-take_piece.ensures.shown;
      roster = record { area = roster.area ∙ before.roster.area; members = roster.members ∙ before.roster.members; links = roster.links ∙ before.roster.links };
      ends = c.rest_if_idle.ensures.ends ∙ c.in-Ok.ensures.ends ∙ before.ends;
      faults = omega (arith, before.faults, fell, rested);
    }
