-- What the commands that read nothing write, by their status.
use Rattle.std.specs.Prelude.{◌≡◌, ℕ, ◌≤◌, List, length, take, Option}
use Rattle.outside.specs.Told.{Rose, behind}
use Rattle.feed_format.specs.Writing.{WritesLess}
use Rattle.feed_format.specs.declared.status.Status.{Status}
use Rattle.feed_format.specs.declared.status.Status.TheVariants.{Done, Usage, Feed, Roster, Read, Write, NoMemory, NoPath, NetFault}

-- a front of the octets, or all of them
pub record WritesFrontOf (octets : List ℕ) (before after : Option (List ℕ)) : Type 0 where
  pub count : ℕ
  pub within : count ≤ length octets
  pub taken : after ≡ behind before (take count octets)

-- A text that is written once it is whole: on Done all of it, on Write a front and not all, and else nothing.
abbrev pub WroteText : List ℕ → Status → Option (List ℕ) → Option (List ℕ) → Type 0
WroteText text Done before after = after ≡ behind before text
WroteText text Write before after = WritesLess text before after
WroteText text status before after = after ≡ before

-- Octets that are written while they are made: without memory a front of them too.
abbrev pub WroteOctets : List ℕ → Status → Option (List ℕ) → Option (List ℕ) → Type 0
WroteOctets octets NoMemory before after = WritesFrontOf octets before after
WroteOctets octets status before after = WroteText octets status before after

-- Done and NoMemory are free, Write comes only where the sink's count of faults rose, and nothing else comes.
abbrev pub WritesCause : Status → (sink_before sink_now : ℕ) → Type 0
WritesCause Done a b = Unit {0}
WritesCause Usage a b = ⊥
WritesCause (Feed number why) a b = ⊥
WritesCause (Roster number line why) a b = ⊥
WritesCause Read a b = ⊥
WritesCause Write a b = Rose a b
WritesCause NoMemory a b = Unit {0}
WritesCause (NoPath refused) a b = ⊥
WritesCause NetFault a b = ⊥
