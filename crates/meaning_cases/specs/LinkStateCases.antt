-- Link-state packets and LSAs whose meaning is known. The octets are written out; the checksum is that of another program.
use Rattle.std.specs.Prelude.{ℕ, List, [], ◌∷◌, ◌++◌, replicate, ℤ, negsuc}
use Rattle.rcp_model.specs.LinkState.{RouterLsa, LinkState}
use Rattle.meaning_cases.specs.Examples.{A, B}

-- A router LSA of 10.0.0.1 with one link to 10.0.0.2, which has a TOS metric besides. Its metric ends in this octet, 11 by the checksum.
abbrev pub lsa_octets : ℕ → List ℕ
lsa_octets metric =
    (0 ∷ 9 ∷ 2 ∷ 1 ∷ 10 ∷ 0 ∷ 0 ∷ 1 ∷ 10 ∷ 0 ∷ 0 ∷ 1 ∷ 128 ∷ 0 ∷ 0 ∷ 1 ∷ 255 ∷ 22 ∷ 0 ∷ 40 ∷ 0 ∷ 0 ∷ 0 ∷ 1 ∷ [])
    ++ (10 ∷ 0 ∷ 0 ∷ 2 ∷ 0 ∷ 0 ∷ 0 ∷ 0 ∷ 1 ∷ 1 ∷ 0 ∷ metric ∷ 8 ∷ 0 ∷ 0 ∷ 5 ∷ [])

-- the first sequence number, 80000001 hex
abbrev pub first_sequence : ℤ
first_sequence = negsuc 2147483646

-- an LSA of this age, sequence number and checksum of the first router, with a link of this metric to the second
abbrev pub lsa_of_A : ℕ → ℤ → ℕ → ℕ → RouterLsa
lsa_of_A age sequence checksum metric = record {
  key = A;
  header = record { sequence = sequence; checksum = checksum; age = age };
  content = record { id = B; kind = 1; metric = metric } ∷ [];
}

-- an external LSA, a header alone
abbrev pub external_lsa : List ℕ
external_lsa = 0 ∷ 0 ∷ 2 ∷ 5 ∷ replicate 14 0 ++ (0 ∷ 20 ∷ [])

-- a packet of this type and of the area 0.0.0.A, with so many octets
abbrev pub packet_of : ℕ → ℕ → ℕ → List ℕ → List ℕ
packet_of kind area len content = (2 ∷ kind ∷ 0 ∷ len ∷ 10 ∷ 255 ∷ 0 ∷ 1 ∷ 0 ∷ 0 ∷ 0 ∷ area ∷ []) ++ replicate 12 0 ++ content

-- it counts four LSAs, and has three: a faultless one, one of another type, and one whose metric was changed
abbrev pub three_lsas : List ℕ
three_lsas = (0 ∷ 0 ∷ 0 ∷ 4 ∷ []) ++ lsa_octets 11 ++ external_lsa ++ lsa_octets 12

abbrev pub update_packet : ℕ → List ℕ
update_packet area = packet_of 4 area 128 three_lsas

-- two hellos, and then a header of version 3
abbrev pub hello : List ℕ
hello = packet_of 1 0 24 []

abbrev pub of_version_3 : List ℕ
of_version_3 = 3 ∷ replicate 23 0

abbrev pub no_routers : LinkState
no_routers = record { routers = [] }
