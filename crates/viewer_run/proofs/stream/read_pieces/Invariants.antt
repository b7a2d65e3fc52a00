use Rattle.std.proofs.Common.{◌≡◌, false}
use Rattle.outside.specs.Told.{NeverFalls}
use Rattle.igp_view.specs.Igp.{IsOfSameRoster}
use Rattle.viewer_run.specs.Viewing.{HasShown, HasServed}
use Rattle.viewer_run.proofs.stream.read_pieces.Given as goal

abbrev pub invariant-loop : goal.invariant-loop
invariant-loop g l = record {
  served : HasServed (g.C.Clock.can_give l.clock) (g.L.Link.given l.fn.link) (g.L.Link.given l.link) l.fn.igp l.igp l.counts.installed l.counts.left_out l.counts.lost;
  shown : HasShown false l.fn.igp l.igp l.fn.shards l.shards;
  roster : IsOfSameRoster l.fn.igp l.igp;
  ends : g.L.Link.ends l.link ≡ g.L.Link.ends l.fn.link;
  faults : NeverFalls (g.L.Link.faults l.fn.link) (g.L.Link.faults l.link);
}
