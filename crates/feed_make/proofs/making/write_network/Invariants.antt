-- The packets so far are written.
use Rattle.std.proofs.Common.{◌≡◌}
use Rattle.std.specs.List.{flat_map}
use Rattle.outside.specs.Told.{NeverFalls, behind}
use Rattle.rcp_base.specs.Feed.{record_octets}
use Rattle.feed_make.specs.Numbers.{numbers_from}
use Rattle.feed_make.specs.Feeds.{first_packet}
use Rattle.feed_make.proofs.making.write_network.Given as goal

abbrev pub invariant-loop-i : goal.invariant-loop-i
invariant-loop-i g l = record {
  wrote : g.K.Sink.taken l.sink ≡ behind (g.K.Sink.taken l.initial.sink) (flat_map (λ i. record_octets (first_packet l.network.number i)) (numbers_from 0 l.i));
  never_falls : NeverFalls (g.K.Sink.faults l.initial.sink) (g.K.Sink.faults l.sink);
}
