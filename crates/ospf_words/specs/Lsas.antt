-- LSAs as words (RFC 2328 sections 12.1, A.4.1 and A.4.2).
use Rattle.std.specs.Prelude.{ℕ, zero, suc, ◌+◌, ◌-◌, ◌^◌, ◌||◌, Bool, false, List, [], ◌∷◌, ◌++◌, length, drop, Result, Ok, nat_lt, if◌then◌else◌, bytes_eq, codes}
use Rattle.std.specs.Int.{w16, w32, to_be_bytes}
use Rattle.rcp_base.specs.Text.{address_of}
use Rattle.line_words.specs.declared.stop.WordFault.{WordFault}
use Rattle.line_words.specs.declared.stop.Why.TheVariants as why
use Rattle.line_words.specs.Reading.{◌>>=◌, faulty, value_word}
use Rattle.line_words.specs.Words.{hex_onto}
use Rattle.line_words.specs.Lists.{words_within}
use Rattle.line_words.specs.Fields.{field, optional_field, u8_of, u16_of, sized_hex_onto}
use Rattle.ospf_words.specs.Checksums.{lsa_checksum}
use Rattle.ospf_words.specs.Links.{link_onto}
use Rattle.ospf_words.specs.declared.lsas.LsaBody.{LsaBody}
use Rattle.ospf_words.specs.declared.lsas.LsaBody.TheVariants as lsa_body

-- ---- headers

-- LS age, and options, which are 02 (E-bit) where they aren't given
unfoldable pub age_and_options : List (List ℕ) → Result (List ℕ × List (List ℕ)) WordFault
age_and_options ws = do
  age ← field (codes "age=") u16_of ws
  optional_field (codes "options=") (sized_hex_onto 1 (to_be_bytes w16 age.0)) (to_be_bytes w16 age.0 ++ 2 ∷ []) age.1

-- Link State ID, Advertising Router, which is the same where it isn't given, and LS sequence number
unfoldable pub names : List ℕ → List (List ℕ) → Result (List ℕ × List (List ℕ)) WordFault
names out ws = do
  id ← field (codes "id=") address_of ws
  router ← optional_field (codes "advertising-router=") address_of id.0 id.1
  field (codes "sequence=") (sized_hex_onto 4 (out ++ to_be_bytes w32 id.0 ++ to_be_bytes w32 router.0)) router.1

-- the fields of a header before the checksum
unfoldable pub header : ℕ → List (List ℕ) → Result (List ℕ × List (List ℕ)) WordFault
header kind ws = do
  front ← age_and_options ws
  names (front.0 ++ kind ∷ []) front.1

-- ---- whole LSAs

-- an LSA whose checksum has these octets
abbrev pub lsa_with : List ℕ → List ℕ → List ℕ → List ℕ
lsa_with header checksum body = header ++ checksum ++ to_be_bytes w16 (length header + 4 + length body) ++ body

-- the checksum that is given, else the one that is computed; the age isn't summed
abbrev pub checksum_of : List ℕ → List ℕ → List ℕ → List ℕ
checksum_of [] header body = lsa_checksum (drop 2 (lsa_with header (0 ∷ 0 ∷ []) body))
checksum_of (octet ∷ octets) header body = octet ∷ octets

-- an LSA after the octets so far, where its length has two octets; `ws` are the words after it
unfoldable pub lsa_onto : List ℕ → List ℕ → List ℕ → List ℕ → List (List ℕ) → Result (List ℕ × List (List ℕ)) WordFault
lsa_onto out header checksum body ws =
    if nat_lt 65535 (length header + 4 + length body) then faulty ws why.Long
    else Ok (out ++ lsa_with header (checksum_of checksum header body) body, ws)

-- the links of a router LSA after their number, which has two octets; `before` are the words with them
abbrev pub links_onto : List ℕ → List ℕ → List (List ℕ) → List (List ℕ) → Result (List ℕ × List (List ℕ)) WordFault
links_onto out links before ws =
    if nat_lt 65535 (length before - length ws) then faulty ws why.Long
    else Ok (out ++ to_be_bytes w16 (length before - length ws) ++ links, ws)

-- flags V, E and B, and the links of a router LSA
unfoldable pub router_body : List (List ℕ) → Result (List ℕ × List (List ℕ)) WordFault
router_body ws = do
  flags ← optional_field (codes "flags=") (sized_hex_onto 1 []) (0 ∷ []) ws
  links ← words_within link_onto (2 ^ 20) [] flags.1
  links_onto (flags.0 ++ 0 ∷ []) links.0 flags.1 links.1

-- the body of an LSA: links, or octets in hexadecimal
unfoldable pub body_of : LsaBody → List (List ℕ) → Result (List ℕ × List (List ℕ)) WordFault
body_of lsa_body.Links ws = router_body ws
body_of lsa_body.Octets ws = optional_field (codes "body=") (hex_onto []) [] ws

-- an LSA of this type
unfoldable pub lsa_of : List ℕ → ℕ → LsaBody → List (List ℕ) → Result (List ℕ × List (List ℕ)) WordFault
lsa_of out kind form ws = do
  front ← header kind ws
  checksum ← optional_field (codes "checksum=") (sized_hex_onto 2 []) [] front.1
  body ← body_of form checksum.1
  lsa_onto out front.0 checksum.0 body.0 body.1

-- an LSA of any type, whose body is in hexadecimal
unfoldable pub any_lsa : List ℕ → List (List ℕ) → Result (List ℕ × List (List ℕ)) WordFault
any_lsa out ws = do
  kind ← value_word u8_of ws
  lsa_of out kind.0 lsa_body.Octets kind.1

-- ---- LSAs one after another

abbrev pub begins_lsa : List (List ℕ) → Bool
begins_lsa [] = false
begins_lsa (w ∷ ws) = bytes_eq w (codes "router-lsa") || bytes_eq w (codes "lsa")

unfoldable pub lsa : List ℕ → List (List ℕ) → Result (List ℕ × List (List ℕ)) WordFault
lsa out [] = faulty [] why.Missing
lsa out (w ∷ ws) = if bytes_eq w (codes "router-lsa") then lsa_of out 1 lsa_body.Links ws else any_lsa out ws

-- the octets of the LSAs in front after those so far, and the number of LSAs
unfoldable pub lsas_within : ℕ → ℕ → List ℕ → List (List ℕ) → Result ((List ℕ × ℕ) × List (List ℕ)) WordFault
lsas_within zero count out ws = faulty ws why.Long
lsas_within (suc most) count out ws =
    if begins_lsa ws then (lsa out ws >>= λ more. lsas_within most (count + 1) more.0 more.1)
    else Ok ((out, count), ws)
