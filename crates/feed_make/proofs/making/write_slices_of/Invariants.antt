-- So many slices are written.
use Rattle.std.proofs.Common.{◌≡◌}
use Rattle.std.specs.List.{flat_map}
use Rattle.outside.specs.Told.{NeverFalls, behind}
use Rattle.rcp_base.specs.Feed.{record_octets}
use Rattle.feed_make.specs.Numbers.{numbers_from}
use Rattle.rcp_base.specs.declared.kinds.Kind.TheVariants.{Slice}
use Rattle.feed_make.specs.Feeds.{item, slice_body}
use Rattle.feed_make.proofs.making.write_slices_of.Given as goal

abbrev pub invariant-loop : goal.invariant-loop
invariant-loop g l = record {
  wrote : g.K.Sink.taken l.sink ≡ behind (g.K.Sink.taken l.initial.sink) (flat_map (λ _. record_octets (item Slice 0 (slice_body l.shard))) (numbers_from 0 l.counter));
  never_falls : NeverFalls (g.K.Sink.faults l.initial.sink) (g.K.Sink.faults l.sink);
}
