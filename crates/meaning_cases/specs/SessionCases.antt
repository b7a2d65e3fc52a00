-- Sessions with a known course, from their first octet on. The octets are written out, not by the definitions.
use Rattle.std.specs.Prelude.{ℕ, true, false, List, [], ◌∷◌, ◌++◌, Some, None}
use Rattle.rcp_model.specs.Messages.{marker}
use Rattle.rcp_model.specs.Routes.{RouteFields}
use Rattle.meaning_cases.specs.Examples.{A, linked}
use Rattle.rcp_model.specs.Sessions.{Doing, ending, Faulted, Up, Input, Octets, Seat, begun, begun_established, answers}

-- what a session with the platform of three routers in a row does, from its beginning at time 0
abbrev pub done : List Input → Doing
done inputs = (answers linked inputs (begun linked 0).after).does

-- the same, established from its beginning
abbrev pub done_established : List Input → Doing
done_established inputs = (answers linked inputs (begun_established 0).after).does

-- ---- messages

abbrev pub platform_open : List ℕ
platform_open = marker ++ (0 ∷ 29 ∷ 1 ∷ 4 ∷ 253 ∷ 232 ∷ 0 ∷ 90 ∷ 10 ∷ 0 ∷ 0 ∷ 254 ∷ 0 ∷ [])

-- an OPEN without parameters: the version, the AS, the hold time and the last octet of 10.0.0.N, each below 256 but the AS, which is 64768 and so many
abbrev pub open_with : ℕ → ℕ → ℕ → ℕ → List ℕ
open_with version n hold id = marker ++ (0 ∷ 29 ∷ 1 ∷ version ∷ 253 ∷ n ∷ 0 ∷ hold ∷ 10 ∷ 0 ∷ 0 ∷ id ∷ 0 ∷ [])

-- the first router's OPEN with the hold time 30 and a parameter of capabilities
abbrev pub open_30 : List ℕ
open_30 = marker ++ (0 ∷ 31 ∷ 1 ∷ 4 ∷ 253 ∷ 232 ∷ 0 ∷ 30 ∷ 10 ∷ 0 ∷ 0 ∷ 1 ∷ 2 ∷ 2 ∷ 0 ∷ [])

abbrev pub alive : List ℕ
alive = marker ++ (0 ∷ 19 ∷ 4 ∷ [])

-- NOTIFICATION Cease
abbrev pub cease : List ℕ
cease = marker ++ (0 ∷ 21 ∷ 3 ∷ 6 ∷ 0 ∷ [])

-- NOTIFICATION Hold Timer Expired
abbrev pub timeout : List ℕ
timeout = marker ++ (0 ∷ 21 ∷ 3 ∷ 4 ∷ 0 ∷ [])

-- a header with this type and the length of two octets
abbrev pub header_with : ℕ → ℕ → ℕ → List ℕ
header_with high low kind = marker ++ (high ∷ low ∷ kind ∷ [])

-- ---- what is done

-- a NOTIFICATION without data, and the end
abbrev pub faulted : ℕ → ℕ → Doing
faulted code sub = record { sent = (marker ++ (0 ∷ 21 ∷ 3 ∷ code ∷ sub ∷ [])) ∷ []; events = []; claim = None; closed = Some (ending Faulted code sub) }

-- with two octets of data
abbrev pub faulted_with : ℕ → ℕ → ℕ → ℕ → Doing
faulted_with code sub a b = record { sent = (marker ++ (0 ∷ 23 ∷ 3 ∷ code ∷ sub ∷ a ∷ b ∷ [])) ∷ []; events = []; claim = None; closed = Some (ending Faulted code sub) }

-- ---- a session with the hold time 30, up at time 0

abbrev pub up_with : List ℕ → List Input
up_with opening = Octets opening 0 ∷ Seat true 0 ∷ Octets alive 0 ∷ []

abbrev pub was_up : List (List ℕ) → Doing
was_up sent = record { sent = sent; events = Up ∷ []; claim = Some 0; closed = None }

-- ---- UPDATEs of an established session

-- the route of `announcement_by 1`
abbrev pub by_65001_at_A : RouteFields
by_65001_at_A = record {
  pref = 100;
  hops = 1;
  origin = 0;
  neighbour = 65001;
  med = 0;
  looped = false;
  long = false;
  next_hop = A;
  attrs = 64 ∷ 1 ∷ 1 ∷ 0 ∷ 64 ∷ 2 ∷ 4 ∷ 2 ∷ 1 ∷ 253 ∷ 233 ∷ 64 ∷ 3 ∷ 4 ∷ 10 ∷ 0 ∷ 0 ∷ 1 ∷ 64 ∷ 5 ∷ 4 ∷ 0 ∷ 0 ∷ 0 ∷ 100 ∷ [];
}

-- 203.0.113.0/24 is withdrawn
abbrev pub withdrawal : List ℕ
withdrawal = marker ++ (0 ∷ 27 ∷ 2 ∷ 0 ∷ 4 ∷ 24 ∷ 203 ∷ 0 ∷ 113 ∷ 0 ∷ 0 ∷ [])

abbrev pub empty_update : List ℕ
empty_update = marker ++ (0 ∷ 23 ∷ 2 ∷ 0 ∷ 0 ∷ 0 ∷ 0 ∷ [])

-- NOTIFICATION Invalid ORIGIN Attribute, with the octets of the attribute
abbrev pub origin_refused : List ℕ
origin_refused = marker ++ (0 ∷ 25 ∷ 3 ∷ 3 ∷ 6 ∷ 64 ∷ 1 ∷ 1 ∷ 3 ∷ [])
