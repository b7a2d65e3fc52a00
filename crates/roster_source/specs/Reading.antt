-- What is read of a source that holds the text of a roster.
use Rattle.std.specs.Prelude.{◌≡◌, ℕ, ◌<◌, List, [], ◌++◌, length, Option, Result, Ok, Err, IfSome, nat_lt, if◌then◌else◌}
use Rattle.rcp_base.specs.Roster.{RosterOf, FaultyLine, roster_of}
use Rattle.rcp_base.specs.declared.kinds.RosterWhy.TheVariants as why
use Rattle.feed_format.specs.declared.status.Status.{Status}
use Rattle.feed_format.specs.declared.status.Status.TheVariants as status
use Rattle.outside.specs.Told.{in_front}

-- the most octets that the text of a roster has
abbrev pub MOST : ℕ
MOST = 65536

-- the roster of a text or its first fault, which is TooMany at line 1 where the text is too long
abbrev pub roster_in : List ℕ → Result RosterOf FaultyLine
roster_in octets = if nat_lt MOST (length octets) then Err (record { line = 1; why = why.TooMany }) else roster_of octets

-- what reading these octets comes to, as far as it isn't a failed read or want of memory
abbrev pub IsReadOf : List ℕ → Result RosterOf Status → Type 0
IsReadOf octets (Ok roster) = roster_in octets ≡ Ok roster
IsReadOf octets (Err (status.Roster number line fault)) = (number ≡ 1) × (roster_in octets ≡ Err (record { line = line; why = fault }))
IsReadOf octets (Err status.Read) = Unit {0}
IsReadOf octets (Err status.NoMemory) = Unit {0}
IsReadOf octets (Err status.Done) = ⊥
IsReadOf octets (Err status.Usage) = ⊥
IsReadOf octets (Err (status.Feed number why)) = ⊥
IsReadOf octets (Err status.Write) = ⊥
IsReadOf octets (Err (status.NoPath refusal)) = ⊥
IsReadOf octets (Err status.NetFault) = ⊥

-- a faulty roster, which is the first, a failed read, or want of memory
abbrev pub IsRefusal : Status → Type 0
IsRefusal (status.Roster number line fault) = number ≡ 1
IsRefusal status.Read = Unit {0}
IsRefusal status.NoMemory = Unit {0}
IsRefusal status.Done = ⊥
IsRefusal status.Usage = ⊥
IsRefusal (status.Feed number why) = ⊥
IsRefusal status.Write = ⊥
IsRefusal (status.NoPath refusal) = ⊥
IsRefusal status.NetFault = ⊥

-- so many octets were taken from the source and stand after those of the text
pub record AddsPiece (count : ℕ) (before now : List ℕ) (left left_now : Option (List ℕ)) : Type 0 where
  pub piece : List ℕ
  pub count_is : length piece ≡ count
  pub text : now ≡ before ++ piece
  pub given : left ≡ in_front piece left_now
  pub end : count ≡ 0 → IfSome left_now (λ octets. octets ≡ [])

-- a text that is too long, a failed read, or want of memory
abbrev pub IsNoText : Option (List ℕ) → Status → Type 0
IsNoText left (status.Roster number line fault) = (number ≡ 1) × (line ≡ 1) × (fault ≡ why.TooMany) × IfSome left (λ octets. MOST < length octets)
IsNoText left status.Read = Unit {0}
IsNoText left status.NoMemory = Unit {0}
IsNoText left status.Done = ⊥
IsNoText left status.Usage = ⊥
IsNoText left (status.Feed number why) = ⊥
IsNoText left status.Write = ⊥
IsNoText left (status.NoPath refusal) = ⊥
IsNoText left status.NetFault = ⊥
