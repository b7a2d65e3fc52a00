use Rattle.std.proofs.Common.{refl}
use Rattle.spf_incr.proofs.EdgeLemmas.{before_is_more, before_is_less}
use Rattle.spf_incr.proofs.table.way_of.Goals as goal

pub returns-then-not-added : goal.returns-then-not-added
returns-then-not-added c = (
  c.args.edge.now,
  record { begins = rw c.as_slice-names.ensures.value at c.place_of.ensures; ends = rw c.as_slice-names.ensures.value at c.place_of-2.ensures; cost = refl },
  before_is_more c.args.edge.now c.args.added c.args.graph.now c.if-not-added.true,
)

pub returns : goal.returns
returns c = (
  c.args.edge.now,
  record { begins = rw c.as_slice-names.ensures.value at c.place_of.ensures; ends = rw c.as_slice-names.ensures.value at c.place_of-2.ensures; cost = refl },
  before_is_less c.args.edge.now c.args.added c.args.graph.now c.if-not-added.false (c.requires.changed.0 c.if-not-added.false),
  c.in_ok-ends.ensures,
)
