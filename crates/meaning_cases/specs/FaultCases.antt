-- Messages with one fault each, and what a session answers to them. The octets are written out, not by the definitions.
use Rattle.std.specs.Prelude.{ℕ, true, List, [], ◌∷◌, ◌++◌, Some, None}
use Rattle.rcp_model.specs.Messages.{marker}
use Rattle.rcp_model.specs.Sessions.{Doing, ending, Faulted, Input, Octets, Seat}
use Rattle.meaning_cases.specs.SessionCases.{open_30, alive}
use Rattle.meaning_cases.specs.Cases.{from_igp, by_65001, next_hop_at, the_prefix}

-- a NOTIFICATION of so many octets with this data, and the end
abbrev pub refused_with : ℕ → ℕ → ℕ → List ℕ → Doing
refused_with len code sub content = record {
  sent = (marker ++ (0 ∷ len ∷ 3 ∷ code ∷ sub ∷ content)) ∷ [];
  events = [];
  claim = None;
  closed = Some (ending Faulted code sub);
}

-- ---- OPENs of the first router, of so many octets, with these optional parameters after their length

abbrev pub open_of : ℕ → ℕ → List ℕ → List ℕ
open_of len parameters_len parameters = marker ++ (0 ∷ len ∷ 1 ∷ 4 ∷ 253 ∷ 232 ∷ 0 ∷ 30 ∷ 10 ∷ 0 ∷ 0 ∷ 1 ∷ parameters_len ∷ parameters)

-- ---- UPDATEs of so many octets

-- with these attributes, of so many octets, and no prefix
abbrev pub attributes_alone : ℕ → ℕ → List ℕ → List ℕ
attributes_alone len attributes_len attributes = marker ++ (0 ∷ len ∷ 2 ∷ 0 ∷ 0 ∷ 0 ∷ attributes_len ∷ attributes)

-- with these attributes, and 203.0.113.0/24 announced
abbrev pub announcing : ℕ → ℕ → List ℕ → List ℕ
announcing len attributes_len attributes = attributes_alone len attributes_len attributes ++ the_prefix

-- the withdrawn section is an octet long, so that an octet is left for the length of the attributes
abbrev pub withdrawn_too_long : List ℕ
withdrawn_too_long = marker ++ (0 ∷ 23 ∷ 2 ∷ 0 ∷ 1 ∷ 0 ∷ 0 ∷ [])

-- a prefix of 33 bits is withdrawn
abbrev pub withdrawal_of_33_bits : List ℕ
withdrawal_of_33_bits = marker ++ (0 ∷ 24 ∷ 2 ∷ 0 ∷ 1 ∷ 33 ∷ 0 ∷ 0 ∷ [])

-- the announced prefix has 25 bits and three octets
abbrev pub announcement_cut_short : List ℕ
announcement_cut_short = attributes_alone 45 18 (from_igp ++ by_65001 ++ next_hop_at 1) ++ (25 ∷ 203 ∷ 0 ∷ 113 ∷ [])

-- ---- a session that waits for a KEEPALIVE

-- the seat was given, and then this comes
abbrev pub confirmed_then : List ℕ → List Input
confirmed_then octets = Octets open_30 0 ∷ Seat true 0 ∷ Octets octets 0 ∷ []

-- a KEEPALIVE answered the OPEN, and then it was so
abbrev pub confirmed_and : Doing → Doing
confirmed_and later = record later { sent = alive ∷ later.sent; claim = Some 0 }
