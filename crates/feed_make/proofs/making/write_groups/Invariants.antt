-- The groups so far are written, and so many numbers were drawn for them.
use Rattle.std.proofs.Common.{◌≡◌}
use Rattle.std.specs.List.{flat_map}
use Rattle.outside.specs.Told.{NeverFalls, behind}
use Rattle.feed_make.specs.Numbers.{numbers_from}
use Rattle.feed_make.specs.Routes.{group_place}
use Rattle.feed_make.specs.Feeds.{octets_of, group_of}
use Rattle.feed_make.proofs.making.write_groups.Given as goal

abbrev pub invariant-loop-group : goal.invariant-loop-group
invariant-loop-group g l = record {
  wrote : g.K.Sink.taken l.sink ≡ behind (g.K.Sink.taken l.initial.sink) (flat_map (λ group. octets_of (group_of l.fn.draws.number group)) (numbers_from 0 l.group));
  never_falls : NeverFalls (g.K.Sink.faults l.initial.sink) (g.K.Sink.faults l.sink);
  draws : l.draws ≡ record { number = l.fn.draws.number; drawn = group_place l.group };
}
