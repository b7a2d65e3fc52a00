use Rattle.std.proofs.Common.{◌≡◌, drop}
use Rattle.rcp_model.specs.Attributes.{value_of}
use Rattle.path_attrs.specs.Shown.{all_shown}
use Rattle.path_attrs.proofs.attrs.find.Given as goal

abbrev pub invariant-loop-value : goal.invariant-loop-value
invariant-loop-value l = value_of l.kind (all_shown l.values) ≡ value_of l.kind (all_shown (drop l.value-index l.values))
