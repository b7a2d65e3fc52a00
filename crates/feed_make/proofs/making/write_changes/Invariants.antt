-- The changes so far are written.
use Rattle.std.proofs.Common.{◌≡◌}
use Rattle.std.specs.List.{flat_map}
use Rattle.outside.specs.Told.{NeverFalls, behind}
use Rattle.rcp_base.specs.Feed.{record_octets}
use Rattle.feed_make.specs.Numbers.{numbers_from}
use Rattle.feed_make.specs.Networks.{change_place}
use Rattle.feed_make.specs.Feeds.{change_packet}
use Rattle.feed_make.proofs.making.write_changes.Given as goal

abbrev pub invariant-loop : goal.invariant-loop
invariant-loop g l = record {
  wrote : g.K.Sink.taken l.sink ≡ behind (g.K.Sink.taken l.initial.sink) (flat_map (λ k. record_octets (change_packet l.fn.network.number k)) (numbers_from 0 l.counter));
  never_falls : NeverFalls (g.K.Sink.faults l.initial.sink) (g.K.Sink.faults l.sink);
  draws : l.draws ≡ record { number = l.fn.network.number; drawn = change_place l.counter };
  network : l.network ≡ record { number = l.fn.network.number; changes = l.counter };
}
