-- The sums so far.
use Rattle.std.proofs.Common.{◌≡◌, ◌%◌, sum, take}
use Rattle.rcp_model.specs.RouterLsas.{weighted}
use Rattle.ospf_words.proofs.checksums.sums.Given as goal

abbrev pub invariant-loop-octet : goal.invariant-loop-octet
invariant-loop-octet l =
    (l.first ≡ sum (take l.octet-index l.octets) % 255) × (l.second ≡ weighted (take l.octet-index l.octets) % 255)
