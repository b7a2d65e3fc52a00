use Rattle.std.proofs.Common.{◌≡◌, ◌-◌, length}
use Rattle.outside.specs.Told.{NeverFalls}
use Rattle.feed_text.specs.Windows.{SameOctets}
use Rattle.feed_text.proofs.writing.line_in_front.Given as goal

abbrev pub invariant-loop-window : goal.invariant-loop-window
invariant-loop-window g l = record {
  same : SameOctets l.fn.window (g.S.Source.left l.initial.source) l.window (g.S.Source.left l.source);
  size : l.window.size ≡ l.fn.window.size;
  never_falls : NeverFalls (g.S.Source.faults l.initial.source) (g.S.Source.faults l.source);
}

abbrev pub decreases-loop-window : goal.decreases-loop-window
decreases-loop-window g l = l.window.size - length l.window.octets
