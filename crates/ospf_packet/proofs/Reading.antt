-- What stands in front of a stream, and that more octets after it change nothing of it.
use Rattle.std.proofs.Common.{◌≡◌, ◌++◌, length-append, ◌≤◌, ◌∙◌, ℕ, Bool, true, false, not, ◌&&◌, List, length, cond, ltb, leb, eqb, ap, sym, refl, arith}
use Rattle.std.proofs.lemmas.Bool.{ltb-false, le-ltb}
use Rattle.std.proofs.lemmas.Bool.Decides.{nat_tests}
use Rattle.std.proofs.lemmas.List.{get_or_append_left}
use Rattle.rcp_base.specs.OspfPackets.{Front, whole, part, lost, front_of, version, packet_type, is_faultless, packet_len, IsPacket}

-- what a whole packet in front says of its header and its length
pub record HasPacket (octets : List ℕ) (len : ℕ) : Type 0 where
  pub header : 24 ≤ length octets
  pub faultless : is_faultless octets ≡ true
  pub is_len : packet_len octets ≡ len
  pub least : 24 ≤ len
  pub there : len ≤ length octets

abbrev judged : Bool → Bool → Bool → ℕ → Front
judged short faultless brief len = cond short part (cond (not faultless) lost (cond brief part (whole len)))

judged_whole : (short faultless brief : Bool) (n len : ℕ) → judged short faultless brief n ≡ whole len →
    (short ≡ false) × (faultless ≡ true) × (brief ≡ false) × (n ≡ len)
judged_whole true faultless brief n len e = cc
judged_whole false false brief n len e = cc
judged_whole false true true n len e = cc
judged_whole false true false n len e = (refl, refl, refl, cc)

judged_lost : (short faultless brief : Bool) (n : ℕ) → judged short faultless brief n ≡ lost → (short ≡ false) × (faultless ≡ false)
judged_lost true faultless brief n e = cc
judged_lost false false brief n e = (refl, refl)
judged_lost false true true n e = cc
judged_lost false true false n e = cc

least_of_faultless : (v k n : ℕ) → (eqb v 2 && leb (cond (eqb k 4) 28 24) n) ≡ true → 24 ≤ n
least_of_faultless v k n e = grind (arith, nat_tests)

pub HasPacket-from_front : (octets : List ℕ) (len : ℕ) → front_of octets ≡ whole len → HasPacket octets len
HasPacket-from_front octets len e =
    let facts = judged_whole (ltb (length octets) 24) (is_faultless octets) (ltb (length octets) (packet_len octets)) (packet_len octets) len e in
    let least : 24 ≤ packet_len octets = least_of_faultless (version octets) (packet_type octets) (packet_len octets) facts.1 in
    let there : packet_len octets ≤ length octets = ltb-false _ _ facts.2 in
    let header : 24 ≤ length octets = ltb-false _ _ facts.0 in
    record { header = header; faultless = facts.1; is_len = facts.3; least = omega (arith, facts.3); there = omega (arith, facts.3) }

pub front_of-from_packet : (octets : List ℕ) (len : ℕ) → HasPacket octets len → front_of octets ≡ whole len
front_of-from_packet octets len p =
    let is_long : ltb (length octets) 24 ≡ false = le-ltb _ _ p.header in
    let is_there : ltb (length octets) (packet_len octets) ≡ false = le-ltb _ _ (omega (arith, p.is_len)) in
    ap (λ short. judged short (is_faultless octets) (ltb (length octets) (packet_len octets)) (packet_len octets)) is_long
    ∙ ap (λ faultless. judged false faultless (ltb (length octets) (packet_len octets)) (packet_len octets)) p.faultless
    ∙ ap (λ brief. judged false true brief (packet_len octets)) is_there
    ∙ ap whole p.is_len

-- the header's octets alone decide
pub is_faultless-append : (octets more : List ℕ) → 24 ≤ length octets → is_faultless (octets ++ more) ≡ is_faultless octets
is_faultless-append octets more long =
    rw (
      get_or_append_left octets more 0 0 (omega arith),
      get_or_append_left octets more 0 1 (omega arith),
      get_or_append_left octets more 0 2 (omega arith),
      get_or_append_left octets more 0 3 (omega arith),
    ) refl

pub packet_len-append : (octets more : List ℕ) → 24 ≤ length octets → packet_len (octets ++ more) ≡ packet_len octets
packet_len-append octets more long =
    rw (get_or_append_left octets more 0 2 (omega arith), get_or_append_left octets more 0 3 (omega arith)) refl

HasPacket-append : (octets more : List ℕ) (len : ℕ) → HasPacket octets len → HasPacket (octets ++ more) len
HasPacket-append octets more len p =
    record {
      header = omega (arith, p.header, length-append octets more);
      faultless = is_faultless-append octets more p.header ∙ p.faultless;
      is_len = packet_len-append octets more p.header ∙ p.is_len;
      least = p.least;
      there = omega (arith, p.there, length-append octets more);
    }

-- a packet stays what it is, whatever follows
pub front_of-append_whole : (octets more : List ℕ) (len : ℕ) → front_of octets ≡ whole len → front_of (octets ++ more) ≡ whole len
front_of-append_whole octets more len e =
    front_of-from_packet (octets ++ more) len (HasPacket-append octets more len (HasPacket-from_front octets len e))

-- framing that is lost stays lost
pub front_of-append_lost : (octets more : List ℕ) → front_of octets ≡ lost → front_of (octets ++ more) ≡ lost
front_of-append_lost octets more e =
    let facts = judged_lost (ltb (length octets) 24) (is_faultless octets) (ltb (length octets) (packet_len octets)) (packet_len octets) e in
    let long : 24 ≤ length octets = ltb-false _ _ facts.0 in
    let is_long : ltb (length (octets ++ more)) 24 ≡ false = le-ltb _ _ (omega (arith, length-append octets more)) in
    let is_faulty : is_faultless (octets ++ more) ≡ false = is_faultless-append octets more long ∙ facts.1 in
    let brief = ltb (length (octets ++ more)) (packet_len (octets ++ more)) in
    ap (λ short. judged short (is_faultless (octets ++ more)) brief (packet_len (octets ++ more))) is_long
    ∙ ap (λ faultless. judged false faultless brief (packet_len (octets ++ more))) is_faulty

-- octets that are a packet in front of others are one alone
pub front_of-append_seen : (piece more : List ℕ) → front_of (piece ++ more) ≡ whole (length piece) → IsPacket piece
front_of-append_seen piece more e =
    let p = HasPacket-from_front (piece ++ more) (length piece) e in
    front_of-from_packet piece (length piece)
    (record {
      header = p.least;
      faultless = sym (is_faultless-append piece more p.least) ∙ p.faultless;
      is_len = sym (packet_len-append piece more p.least) ∙ p.is_len;
      least = p.least;
      there = omega arith;
    })
