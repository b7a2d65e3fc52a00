use Rattle.std.proofs.Common.{◌≡◌, length}
use Rattle.rcp_model.specs.Attributes.{AS_PATH, attributes_in, value_of}
use Rattle.path_attrs.proofs.text.path_in.Given as goal

abbrev pub invariant-loop-attribute : goal.invariant-loop-attribute
invariant-loop-attribute l = value_of AS_PATH (attributes_in l.attrs) ≡ value_of AS_PATH (attributes_in l.rest)

abbrev pub decreases-loop-attribute : goal.decreases-loop-attribute
decreases-loop-attribute l = length l.rest
