-- What was read so far stands in front of what is left.
use Rattle.std.proofs.Common.{◌≡◌, ◌-◌, length}
use Rattle.outside.specs.Told.{NeverFalls, in_front}
use Rattle.roster_source.proofs.reading.text_of.Given as goal

abbrev pub invariant-loop-source : goal.invariant-loop-source
invariant-loop-source g l = record {
  given : g.S.Source.left l.fn.source ≡ in_front l.text.items (g.S.Source.left l.source);
  never : NeverFalls (g.S.Source.faults l.fn.source) (g.S.Source.faults l.source);
}

abbrev pub decreases-loop-source : goal.decreases-loop-source
decreases-loop-source g l = 65537 - length l.text.items
