-- What a run of a task does to its input, with each outcome.
use Rattle.std.specs.Prelude.{ℕ, ◌-◌, ◌≤◌, ◌^◌, List, length, Option, Some, None, Bool, true, false}
use Rattle.feed_text.specs.Shown.{ShowsAll, WritesUpTo}
use Rattle.rcpfeed.specs.declared.words.Task.{Task}
use Rattle.rcpfeed.specs.declared.words.Task.TheVariants as task
use Rattle.rcpfeed.specs.declared.outcome.Outcome.{Outcome}
use Rattle.rcpfeed.specs.declared.outcome.Outcome.TheVariants as outcome

-- `show` refuses no input, and no task ends with Usage
abbrev pub Performs : Task → List ℕ → Option (List ℕ) → Option (List ℕ) → Outcome → Type 0
Performs (task.Show comments) octets before now outcome.Done = ShowsAll octets before now
Performs (task.Show comments) octets before now (outcome.Text why) = ⊥
Performs task.Write text before now outcome.Done = WritesUpTo None text before now
Performs task.Write text before now (outcome.Text why) = WritesUpTo (Some why) text before now
Performs any input before now outcome.TooLong = 2 ^ 64 - 1 ≤ length input
Performs any input before now outcome.Usage = ⊥
Performs any input before now other = Unit {0}

-- The outcome says that the output of all records or lines before was written.
abbrev pub says_all_written : Outcome → Bool
says_all_written outcome.Done = true
says_all_written (outcome.Text why) = true
says_all_written outcome.TooLong = true
says_all_written outcome.Read = true
says_all_written other = false
