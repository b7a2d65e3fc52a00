use Rattle.std.proofs.Common.{◌≡◌, ◌-◌, length}
use Rattle.outside.specs.Told.{NeverFalls}
use Rattle.feed_text.specs.Windows.{SameOctets}
use Rattle.feed_text.proofs.window.Window.fill_to.Given as goal

abbrev pub invariant-loop-self : goal.invariant-loop-self
invariant-loop-self g l = record {
  same : SameOctets l.fn.self (g.S.Source.left l.initial.source) l.self (g.S.Source.left l.source);
  size : l.self.size ≡ l.fn.self.size;
  never_falls : NeverFalls (g.S.Source.faults l.initial.source) (g.S.Source.faults l.source);
}

abbrev pub decreases-loop-self : goal.decreases-loop-self
decreases-loop-self g l = l.self.size - length l.self.octets
