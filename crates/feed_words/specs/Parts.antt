-- The parts of a `bgp` or an `ospf` line.
use Rattle.std.specs.Prelude.{ℕ, zero, suc, ◌^◌, List, [], ◌∷◌, Result, Ok, if◌then◌else◌, bytes_eq, codes}
use Rattle.line_words.specs.declared.stop.Why.TheVariants as why
use Rattle.line_words.specs.declared.stop.WordFault.{WordFault}
use Rattle.feed_words.specs.declared.parts.Protocol.{Protocol}
use Rattle.feed_words.specs.declared.parts.Protocol.TheVariants as protocol
use Rattle.line_words.specs.Reading.{◌>>=◌, faulty}
use Rattle.bgp_words.specs.Bgp.{bgp_part}
use Rattle.ospf_words.specs.Packets.{ospf_part}

-- a part of a line of this protocol
unfoldable pub part_of : Protocol → List ℕ → List (List ℕ) → Result (List ℕ × List (List ℕ)) WordFault
part_of protocol.Bgp out ws = bgp_part out ws
part_of protocol.Ospf out ws = ospf_part out ws

-- parts with `;` between them
unfoldable pub parts_within : (List ℕ → List (List ℕ) → Result (List ℕ × List (List ℕ)) WordFault) → ℕ → List ℕ → List (List ℕ) → Result (List ℕ) WordFault
parts_within part zero out ws = faulty ws why.Long
parts_within part (suc most) out ws = do
  first ← part out ws
  elim first.1 [
    | [] ↦ Ok first.0
    | w ∷ rest ↦ if bytes_eq w (codes ";") then parts_within part most first.0 rest else faulty (w ∷ rest) why.Word
  ]

-- none, or at most 2 ^ 20 of them, as many octets as a line has
abbrev pub parts : (List ℕ → List (List ℕ) → Result (List ℕ × List (List ℕ)) WordFault) → List (List ℕ) → Result (List ℕ) WordFault
parts part [] = Ok []
parts part (w ∷ ws) = parts_within part (2 ^ 20) [] (w ∷ ws)
