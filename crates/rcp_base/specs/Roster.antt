-- The roster's text: lines of words, one judgement a line given the lines before it, and the first faulty line.
use Rattle.std.specs.Prelude.{ℕ, ◌+◌, Bool, false, not, ◌&&◌, ◌||◌, ◌==◌, List, [], ◌∷◌, ◌++◌, length, slice_index, Option, Some, None, is_some, option_and_then, Result, Ok, Err, nat_le, if◌then◌else◌, bytes_eq, codes}
use Rattle.std.specs.List.{list_any, slice_split}
use Rattle.rcp_base.specs.declared.kinds.RosterWhy.{RosterWhy}
use Rattle.rcp_base.specs.declared.kinds.RosterWhy.TheVariants as why
use Rattle.rcp_base.specs.declared.names.Member.{Member}
use Rattle.rcp_base.specs.declared.names.Edge.{Edge}
use Rattle.rcp_base.specs.Checks.{first_failing, unless}
use Rattle.rcp_base.specs.Text.{number_of, address_of}

-- ---- lines and words

-- lines end by octet 10; the last may lack it, so nothing stands after the last octet 10
abbrev pub without_last_empty : List (List ℕ) → List (List ℕ)
without_last_empty [] = []
without_last_empty ([] ∷ []) = []
without_last_empty (line ∷ lines) = line ∷ without_last_empty lines

abbrev pub lines_of : List ℕ → List (List ℕ)
lines_of text = without_last_empty (slice_split (λ c. c == 10) text)

-- an empty line or a comment
abbrev pub is_skipped : List ℕ → Bool
is_skipped line = length line == 0 || slice_index line 0 == 35

-- the words between single spaces
abbrev pub words_of : List ℕ → List (List ℕ)
words_of line = slice_split (λ c. c == 32) line

-- ---- what a line says

pub data Line : Type 0 where
  As : ℕ → Line
  Id : ℕ → Line
  Shards : ℕ → Line
  Hold : ℕ → Line
  Area : ℕ → Line
  Router : ℕ → ℕ → Line
  Link : ℕ → ℕ → ℕ → Line

-- a number of a range
abbrev pub number_within : ℕ → ℕ → List ℕ → Option ℕ
number_within low high text = option_and_then (λ n. if nat_le low n && nat_le n high then Some n else None) (number_of text)

-- a number that isn't this one
abbrev pub except : ℕ → Option ℕ → Option ℕ
except out number = option_and_then (λ n. if n == out then None else Some n) number

-- AS 23456 stands for numbers that two octets don't hold (RFC 6793)
abbrev pub as_value : List ℕ → Option ℕ
as_value text = except 23456 (number_within 1 65535 text)

-- 0, or at least 3 seconds (RFC 4271 section 4.2)
abbrev pub hold_value : List ℕ → Option ℕ
hold_value text = except 1 (except 2 (number_within 0 65535 text))

-- an address but 0.0.0.0
abbrev pub name_value : List ℕ → Option ℕ
name_value text = except 0 (address_of text)

-- what is read of one, two or three values, or that one of them is no value
abbrev pub one : (ℕ → Line) → Option ℕ → Result Line RosterWhy
one line None = Err why.Number
one line (Some a) = Ok (line a)

abbrev pub two : (ℕ → ℕ → Line) → Option ℕ → Option ℕ → Result Line RosterWhy
two line None b = Err why.Number
two line (Some a) b = one (line a) b

abbrev pub three : (ℕ → ℕ → ℕ → Line) → Option ℕ → Option ℕ → Option ℕ → Result Line RosterWhy
three line None b c = Err why.Number
three line (Some a) b c = two (line a) b c

-- A known first word with its count of words; then the values. There is no empty word: two spaces stand nowhere,
-- and none at an end.
abbrev pub line_of_words : List (List ℕ) → Result Line RosterWhy
line_of_words (word ∷ a ∷ []) =
    if bytes_eq word (codes "as") then one As (as_value a) else (
    if bytes_eq word (codes "id") then one Id (address_of a) else (
    if bytes_eq word (codes "shards") then one Shards (number_within 1 64 a) else (
    if bytes_eq word (codes "hold") then one Hold (hold_value a) else (
    if bytes_eq word (codes "area") then one Area (address_of a) else
    Err why.Word))))
line_of_words (word ∷ a ∷ b ∷ []) = if bytes_eq word (codes "router") then two Router (name_value a) (name_value b) else Err why.Word
line_of_words (word ∷ a ∷ b ∷ c ∷ []) = if bytes_eq word (codes "link") then three Link (address_of a) (address_of b) (number_within 1 65535 c) else Err why.Word
line_of_words words = Err why.Word

abbrev pub is_empty : List ℕ → Bool
is_empty word = length word == 0

abbrev pub line_of : List ℕ → Result Line RosterWhy
line_of line = if list_any is_empty (words_of line) then Err why.Word else line_of_words (words_of line)

-- ---- what the lines before have said

pub record Named : Type 0 where
  pub as_number : Option ℕ
  pub id : Option ℕ
  pub shards : Option ℕ
  pub hold : Option ℕ
  pub area : Option ℕ
  pub members : List Member
  pub links : List Edge

abbrev pub nothing_named : Named
nothing_named = record { as_number = None; id = None; shards = None; hold = None; area = None; members = []; links = [] }

abbrev pub has_router : List Member → ℕ → Bool
has_router members router = list_any (λ member. member.router == router) members

abbrev pub has_identifier : List Member → ℕ → Bool
has_identifier members id = list_any (λ member. member.bgp_id == id) members

abbrev pub is_value : ℕ → Option ℕ → Bool
is_value n None = false
is_value n (Some m) = m == n

-- It names a setting, a router ID or a BGP Identifier again, the platform's own included, or links a router with itself.
abbrev pub repeats : Named → Line → Bool
repeats named (As n) = is_some named.as_number
repeats named (Id a) = is_some named.id || has_identifier named.members a
repeats named (Shards n) = is_some named.shards
repeats named (Hold n) = is_some named.hold
repeats named (Area a) = is_some named.area
repeats named (Router router id) = has_router named.members router || has_identifier named.members id || is_value id named.id
repeats named (Link u v cost) = u == v

-- it links a router that isn't named yet
abbrev pub is_unknown : Named → Line → Bool
is_unknown named (Link u v cost) = not (has_router named.members u && has_router named.members v)
is_unknown named line = false

-- it names a router beyond the limit
abbrev pub is_beyond : Named → Line → Bool
is_beyond named (Router router id) = nat_le 512 (length named.members)
is_beyond named line = false

abbrev pub line_fault : Named → Line → Option RosterWhy
line_fault named line =
    first_failing ((repeats named line, why.Repeated) ∷ (is_unknown named line, why.Unknown) ∷ (is_beyond named line, why.TooMany) ∷ [])

abbrev pub with_line : Named → Line → Named
with_line named (As n) = record named { as_number = Some n }
with_line named (Id a) = record named { id = Some a }
with_line named (Shards n) = record named { shards = Some n }
with_line named (Hold n) = record named { hold = Some n }
with_line named (Area a) = record named { area = Some a }
with_line named (Router router id) = record named { members = named.members ++ record { router = router; bgp_id = id } ∷ [] }
with_line named (Link u v cost) =
    record named { links = named.links ++ record { from = u; to = v; cost = cost } ∷ record { from = v; to = u; cost = cost } ∷ [] }

-- what is named with one line more, or its fault
abbrev pub with_text : Named → List ℕ → Result Named RosterWhy
with_text named text = elim (line_of text) [
  | Ok line ↦ unless (line_fault named line) (with_line named line)
  | Err fault ↦ Err fault
]

abbrev pub with_any_text : Named → List ℕ → Result Named RosterWhy
with_any_text named text = if is_skipped text then Ok named else with_text named text

-- ---- the roster

-- the settings, the routers in the order of their lines, and two edges for each link line, forth and back
pub record RosterOf : Type 0 where
  pub as_number : ℕ
  pub id : ℕ
  pub shards : ℕ
  pub hold : ℕ
  pub area : ℕ
  pub members : List Member
  pub links : List Edge

-- a faulty line, counted from 1, and why it is one
pub record FaultyLine : Type 0 where
  pub line : ℕ
  pub why : RosterWhy

-- all settings are named
abbrev pub completed : Named → Option RosterOf
completed named =
    option_and_then (λ as_number. option_and_then (λ id. option_and_then (λ shards. option_and_then (λ hold. option_and_then (λ area.
    Some (record { as_number = as_number; id = id; shards = shards; hold = hold; area = area; members = named.members; links = named.links }))
    named.area) named.hold) named.shards) named.id) named.as_number

abbrev pub complete : ℕ → Option RosterOf → Result RosterOf FaultyLine
complete line None = Err (record { line = line; why = why.Missing })
complete line (Some roster) = Ok roster

-- the lines from this number on
abbrev pub roster_from : ℕ → Named → List (List ℕ) → Result RosterOf FaultyLine
roster_from line named [] = complete line (completed named)
roster_from line named (text ∷ texts) = elim (with_any_text named text) [
  | Ok more ↦ roster_from (line + 1) more texts
  | Err fault ↦ Err (record { line = line; why = fault })
]

abbrev pub roster_of : List ℕ → Result RosterOf FaultyLine
roster_of text = roster_from 1 nothing_named (lines_of text)

-- ---- slots

-- the slot of a router among members, of which the first has this slot
abbrev pub slot_from : ℕ → List Member → ℕ → Option ℕ
slot_from slot [] router = None
slot_from slot (member ∷ members) router = if member.router == router then Some slot else slot_from (slot + 1) members router
