use Rattle.std.proofs.Common.{false}
use Rattle.igp_view.specs.Igp.{IsOfSameRoster}
use Rattle.viewer_run.specs.Viewing.{HasShown}
use Rattle.viewer_run.proofs.links.serve_links.Given as goal

abbrev pub invariant-loop : goal.invariant-loop
invariant-loop g l = HasShown false l.fn.igp l.igp l.fn.shards l.shards × IsOfSameRoster l.fn.igp l.igp
