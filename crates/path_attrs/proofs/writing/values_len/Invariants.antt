use Rattle.std.proofs.Common.{◌≡◌, length, take}
use Rattle.path_attrs.specs.Lists.{octets_of}
use Rattle.path_attrs.specs.Shown.{all_shown}
use Rattle.path_attrs.proofs.writing.values_len.Given as goal

abbrev pub invariant-loop-value : goal.invariant-loop-value
invariant-loop-value l = l.len ≡ length (octets_of (all_shown (take l.value-index l.values)))
