-- What is answered from the platform reached is the answer for the whole feed. Neither count of faults has fallen, and the feed that is left is finite.
use Rattle.std.proofs.Common.{◌≡◌, ◌-◌, ◌^◌, List, ℕ, Option, Some}
use Rattle.outside.specs.Told.{NeverFalls}
use Rattle.feed_meaning.specs.Platform.{Platform}
use Rattle.platform_laws.specs.Platforms.{IsSeen}
use Rattle.feed_format.specs.declared.status.Status.{Status}
use Rattle.feed_run.specs.Going.{Answers, AnswersFrom, IsGoing}
use Rattle.rcp_run.proofs.replay.replay.Given as goal

abbrev pub invariant-loop-status : goal.invariant-loop-status
invariant-loop-status g l = record {
  going : IsGoing l.run;
  source_never_falls : NeverFalls (g.S.Source.faults l.fn.source) (g.S.Source.faults l.source);
  sink_never_falls : NeverFalls (g.K.Sink.faults l.fn.sink) (g.K.Sink.faults l.sink);
  defined : Platform;
  seen : IsSeen defined l.run.platform.seen;
  told : (octets : List ℕ) → g.S.Source.left l.fn.source ≡ Some octets
      → (rest : List ℕ) × (g.S.Source.left l.source ≡ Some rest)
      × ((status : Status) (left now : Option (List ℕ)) → AnswersFrom defined l.run.reader status rest left (g.K.Sink.taken l.sink) now
      → Answers status octets left (g.K.Sink.taken l.fn.sink) now);
}

abbrev pub decreases-loop-status : goal.decreases-loop-status
decreases-loop-status g l = 2 ^ 41 - l.run.reader.octets
