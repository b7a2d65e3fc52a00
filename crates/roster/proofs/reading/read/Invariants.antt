-- What is left of the text, after what was named so far, gives what all of it gives. Each line has taken an octet.
use Rattle.std.proofs.Common.{◌≡◌, ℕ, ◌≤◌, ◌+◌, List, ◌++◌, length}
use Rattle.rcp_base.specs.Roster.{lines_of, roster_from, roster_of}
use Rattle.roster.specs.Form.{NamedInForm}
use Rattle.roster.proofs.reading.read.Given as goal

abbrev pub invariant-loop-front : goal.invariant-loop-front
invariant-loop-front l = record {
  same : roster_from l.line l.draft (lines_of l.rest) ≡ roster_of l.fn.text;
  form : NamedInForm l.draft;
  before : (lines : List (List ℕ)) × (lines ++ lines_of l.rest ≡ lines_of l.fn.text) × (length lines + 1 ≡ l.line);
  few : l.line + length l.rest ≤ 65537;
}

abbrev pub decreases-loop-front : goal.decreases-loop-front
decreases-loop-front l = length l.rest
