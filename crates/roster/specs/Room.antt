-- Where reading a text takes memory: at the lines that name a router or a link, which are kept in lists.
use Rattle.std.specs.Prelude.{◌≡◌, ℕ, ◌+◌, ◌<◌, Bool, true, false, List, ◌∷◌, ◌++◌, length, IsTrue, Result, Ok, Err}
use Rattle.rcp_base.specs.declared.kinds.RosterWhy.{RosterWhy}
use Rattle.rcp_base.specs.Roster.{Line, As, Id, Shards, Hold, Area, Router, Link, FaultyLine, lines_of, line_of, roster_of}

-- a router or a link
abbrev pub takes_room : Line → Bool
takes_room (As n) = false
takes_room (Id a) = false
takes_room (Shards n) = false
takes_room (Hold n) = false
takes_room (Area a) = false
takes_room (Router router id) = true
takes_room (Link from to cost) = true

-- the same of a line that is read
abbrev pub says_room : Result Line RosterWhy → Bool
says_room (Ok line) = takes_room line
says_room (Err fault) = false

-- a line of the text names a router or a link, and no line up to it is faulty
pub record NamesSome (text : List ℕ) : Type 0 where
  pub before : List (List ℕ)
  pub line : List ℕ
  pub after : List (List ℕ)
  pub parts : lines_of text ≡ before ++ line ∷ after
  pub names : IsTrue (says_room (line_of line))
  pub faultless : (fault : FaultyLine) → roster_of text ≡ Err fault → length before + 1 < fault.line
