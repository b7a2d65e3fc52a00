-- Filling a buffer from a source.
use Rattle.std.specs.Prelude.{◌≡◌, ℕ, ◌<◌, ◌≤◌, List, length, Option}
use Rattle.outside.specs.Told.{in_front}
use Rattle.rcp_base.specs.declared.kinds.FeedWhy.TheVariants as why
use Rattle.feed_format.specs.declared.taking.Stop.{Stop}
use Rattle.feed_format.specs.declared.taking.Stop.TheVariants as stop

-- fewer than n octets were taken
pub record TakesFewer (n : ℕ) (before now : Option (List ℕ)) : Type 0 where
  pub taken : List ℕ
  pub fewer : length taken < n
  pub given : before ≡ in_front taken now

-- at most n were
pub record TakesUpTo (n : ℕ) (before now : Option (List ℕ)) : Type 0 where
  pub taken : List ℕ
  pub within : length taken ≤ n
  pub given : before ≡ in_front taken now

-- the input ended, or the source failed
abbrev pub IsShortOrRead : Stop → Type 0
IsShortOrRead (stop.Fault fault) = fault ≡ why.Truncated
IsShortOrRead stop.Read = Unit {0}
IsShortOrRead stop.NoMemory = ⊥

-- the same, or no memory was found
abbrev pub IsNoOtherFault : Stop → Type 0
IsNoOtherFault (stop.Fault fault) = fault ≡ why.Truncated
IsNoOtherFault stop.Read = Unit {0}
IsNoOtherFault stop.NoMemory = Unit {0}
