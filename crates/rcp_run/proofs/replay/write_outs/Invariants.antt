-- What was written are the octets of the records before this one, which have room in their frames.
use Rattle.std.proofs.Common.{◌≡◌, take}
use Rattle.std.specs.List.{flat_map, AllByRecursion}
use Rattle.outside.specs.Told.{NeverFalls, behind}
use Rattle.rcp_base.specs.Feed.{out_octets}
use Rattle.feed_run.specs.Frames.{IsFramed}
use Rattle.rcp_run.proofs.replay.write_outs.Given as goal

abbrev pub invariant-loop-out : goal.invariant-loop-out
invariant-loop-out g l = record {
  wrote : g.K.Sink.taken l.sink ≡ behind (g.K.Sink.taken l.fn.sink) (flat_map out_octets (take l.out-index l.outs));
  framed : AllByRecursion IsFramed (take l.out-index l.outs);
  never_falls : NeverFalls (g.K.Sink.faults l.fn.sink) (g.K.Sink.faults l.sink);
}
