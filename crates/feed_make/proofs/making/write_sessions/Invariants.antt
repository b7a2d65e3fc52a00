-- The sessions so far are written.
use Rattle.std.proofs.Common.{◌≡◌}
use Rattle.std.specs.List.{flat_map}
use Rattle.outside.specs.Told.{NeverFalls, behind}
use Rattle.rcp_base.specs.Feed.{record_octets}
use Rattle.feed_make.specs.Numbers.{numbers_from}
use Rattle.feed_make.specs.Feeds.{octets_of, session_of}
use Rattle.feed_make.proofs.making.write_sessions.Given as goal

abbrev pub invariant-loop-router : goal.invariant-loop-router
invariant-loop-router g l = record {
  wrote : g.K.Sink.taken l.sink ≡ behind (g.K.Sink.taken l.initial.sink) (flat_map (λ router. octets_of (session_of router)) (numbers_from 0 l.router));
  never_falls : NeverFalls (g.K.Sink.faults l.initial.sink) (g.K.Sink.faults l.sink);
}
