use Rattle.std.proofs.Common.{◌≡◌, ◌++◌, ◌∷◌, [], take}
use Rattle.std.specs.List.{flat_map}
use Rattle.replica_law.specs.Texts.{space, hex_of}
use Rattle.replica_law.proofs.text.put_hex.Given as goal

abbrev pub invariant-loop-octet : goal.invariant-loop-octet
invariant-loop-octet l = l.text.items ≡ (l.fn.text.items ++ space ∷ []) ++ flat_map hex_of (take l.octet-index l.octets)
