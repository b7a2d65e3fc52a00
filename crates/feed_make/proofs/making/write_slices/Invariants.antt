-- The slices so far are written.
use Rattle.std.proofs.Common.{◌≡◌}
use Rattle.std.specs.List.{flat_map}
use Rattle.outside.specs.Told.{NeverFalls, behind}
use Rattle.feed_make.specs.Numbers.{numbers_from}
use Rattle.feed_make.specs.Feeds.{octets_of, slices_of}
use Rattle.feed_make.proofs.making.write_slices.Given as goal

abbrev pub invariant-loop-shard : goal.invariant-loop-shard
invariant-loop-shard g l = record {
  wrote : g.K.Sink.taken l.sink ≡ behind (g.K.Sink.taken l.initial.sink) (flat_map (λ shard. octets_of (slices_of shard)) (numbers_from 0 l.shard));
  never_falls : NeverFalls (g.K.Sink.faults l.initial.sink) (g.K.Sink.faults l.sink);
}
