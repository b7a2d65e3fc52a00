-- The words, after the program's name, that stand for a command.
use Rattle.std.specs.Prelude.{◌≡◌, ◌^◌, ◌⊎◌, ℕ, Bool, true, false, List, [], ◌∷◌, Option, Some, None, nat_lt, if◌then◌else◌, option_and_then, codes}
use Rattle.rcp_base.specs.IpPrefix.{IpPrefix}
use Rattle.rcp_base.specs.Text.{address_of, number_of, prefix_of_text}
use Rattle.rcp_words.specs.declared.command.Command.{Command}
use Rattle.rcp_words.specs.declared.command.Command.TheVariants as command
use Rattle.rcp_words.specs.declared.command.Report.{Report}
use Rattle.rcp_words.specs.declared.command.Report.TheVariants as report

-- a decimal number of at most 4294967295
abbrev pub number_word : List ℕ → Option ℕ
number_word word = option_and_then (λ n. if nat_lt n (2 ^ 32) then Some n else None) (number_of word)

-- one of two words is `--threads`, and the other one this number
abbrev pub IsBesideThreads : (first second : List ℕ) → ℕ → Type 0
IsBesideThreads first second n = ((first ≡ codes "--threads") × (number_word second ≡ Some n)) ⊎ ((second ≡ codes "--threads") × (number_word first ≡ Some n))

-- `path`, the text of an address, and that of a prefix
pub record ArePathWords (words : List (List ℕ)) (router : ℕ) (prefix : IpPrefix) : Type 0 where
  pub first : List ℕ
  pub second : List ℕ
  pub parts : words ≡ codes "path" ∷ first ∷ second ∷ []
  pub address : address_of first ≡ Some router
  pub text : prefix_of_text second ≡ Some prefix

-- a word, and a number
pub record AreNumberWords (name : List ℕ) (words : List (List ℕ)) (number : ℕ) : Type 0 where
  pub word : List ℕ
  pub parts : words ≡ name ∷ word ∷ []
  pub value : number_word word ≡ Some number

-- `trial`, and a number with `--threads` in front of it or after it
pub record AreThreadsWords (words : List (List ℕ)) (number : ℕ) : Type 0 where
  pub first : List ℕ
  pub second : List ℕ
  pub parts : words ≡ codes "trial" ∷ first ∷ second ∷ []
  pub value : IsBesideThreads first second number

abbrev pub StandForReport : List (List ℕ) → Report → Type 0
StandForReport words report.Tables = words ≡ codes "tables" ∷ []
StandForReport words report.Agree = words ≡ codes "agree" ∷ []
StandForReport words (report.Path router prefix) = ArePathWords words router prefix

abbrev pub StandForTrial : List (List ℕ) → ℕ → Bool → Type 0
StandForTrial words number false = AreNumberWords (codes "trial") words number
StandForTrial words number true = AreThreadsWords words number

abbrev pub StandFor : List (List ℕ) → Command → Type 0
StandFor words command.Replay = words ≡ codes "replay" ∷ []
StandFor words (command.Report report) = StandForReport words report
StandFor words (command.Make number) = AreNumberWords (codes "make") words number
StandFor words (command.Trial number threads) = StandForTrial words number threads

abbrev pub StandForNone : List (List ℕ) → Type 0
StandForNone words = (command : Command) → StandFor words command → ⊥
