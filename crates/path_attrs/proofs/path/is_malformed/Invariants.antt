use Rattle.std.proofs.Common.{◌≡◌, length}
use Rattle.rcp_model.specs.Attributes.{is_faulty_path, number_width}
use Rattle.path_attrs.proofs.path.is_malformed.Given as goal

abbrev pub invariant-loop-after : goal.invariant-loop-after
invariant-loop-after l = is_faulty_path number_width l.octets ≡ is_faulty_path number_width l.rest

abbrev pub decreases-loop-after : goal.decreases-loop-after
decreases-loop-after l = length l.rest
