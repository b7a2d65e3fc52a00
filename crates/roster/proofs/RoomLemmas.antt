-- Memory is short only at a line that takes some.
use Rattle.std.proofs.Common.{◌≡◌, ℕ, ◌+◌, ◌≤◌, false, cond, List, [], ◌∷◌, ◌++◌, length, Option, Some, None, Result, Ok, Err, IsTrue, refl, sym, ap, subst, ◌∙◌, arith}
use Rattle.rcp_base.specs.declared.kinds.RosterWhy.{RosterWhy}
use Rattle.rcp_base.specs.Roster.{Line, RosterOf, FaultyLine, Named, lines_of, is_skipped, line_of, line_fault, with_line, with_text, with_any_text, completed, complete, roster_from, roster_of}
use Rattle.rcp_base.specs.Checks.{unless}
use Rattle.roster.specs.Room.{takes_room, says_room, NamesSome}
use Rattle.roster.specs.Drafts.{Takes, IsShort}
use Rattle.roster.specs.Rosters.{Reads, IsRefusal}
use Rattle.roster.specs.declared.refusal.Stop.{Stop}
use Rattle.roster.specs.declared.refusal.Stop.TheVariants as stop
use Rattle.roster.specs.declared.refusal.RosterRefusal.{RosterRefusal}

-- ---- at a line

abbrev taken : Named → Result Line RosterWhy → Result Named RosterWhy
taken named (Ok line) = unless (line_fault named line) (with_line named line)
taken named (Err fault) = Err fault

pub short_line : (named : Named) (text : List ℕ) (line : Line) → is_skipped text ≡ false → line_of text ≡ Ok line → line_fault named line ≡ None → IsTrue (takes_room line) → IsShort named text
short_line named text line read is none room = record {
  more = with_line named line;
  faultless = ap (λ t. cond t (Ok named) (with_text named text)) read ∙ ap (taken named) is ∙ ap (λ fault. unless fault (with_line named line)) none;
  names = ap says_room is ∙ room;
}

-- ---- in a text

abbrev step : ℕ → List (List ℕ) → Result Named RosterWhy → Result RosterOf FaultyLine
step line texts (Ok more) = roster_from (line + 1) more texts
step line texts (Err fault) = Err (record { line = line; why = fault })

-- no fault stands in front of the lines that are read
fault_later : (line : ℕ) (named : Named) (texts : List (List ℕ)) (fault : FaultyLine) → roster_from line named texts ≡ Err fault → line ≤ fault.line
fault_later line named [] fault is = at_end (completed named) is where
  at_end : (found : Option RosterOf) → complete line found ≡ Err fault → line ≤ fault.line
  at_end None is = let same : line ≡ fault.line = cc in omega arith
  at_end (Some roster) is = absurd cc
fault_later line named (text ∷ texts) fault is = at_line (with_any_text named text) (λ more. fault_later (line + 1) more texts fault) is where
  at_line : (taken : Result Named RosterWhy) → ((more : Named) → roster_from (line + 1) more texts ≡ Err fault → line + 1 ≤ fault.line) → step line texts taken ≡ Err fault → line ≤ fault.line
  at_line (Ok more) rest is = let later = rest more is in omega (arith, later)
  at_line (Err why) rest is = let same : line ≡ fault.line = cc in omega arith

pub names_some : (text : List ℕ) (line : ℕ) (named : Named) (before : List (List ℕ)) (front : List ℕ) (rest : List (List ℕ)) → before ++ front ∷ rest ≡ lines_of text → length before + 1 ≡ line
    → roster_from line named (front ∷ rest) ≡ roster_of text → IsShort named front → NamesSome text
names_some text line named before front rest parts place same short = record {
  before = before;
  line = front;
  after = rest;
  parts = sym parts;
  names = short.names;
  faultless = λ fault is.
      let further : step line rest (Ok short.more) ≡ Err fault = subst (λ taken. step line rest taken ≡ Err fault) short.faultless (same ∙ is) in
      let later = fault_later (line + 1) short.more rest fault further in
      omega (arith, later, place);
}

pub refused : (text : List ℕ) (line : ℕ) (named after : Named) (before : List (List ℕ)) (front : List ℕ) (rest : List (List ℕ)) → before ++ front ∷ rest ≡ lines_of text → length before + 1 ≡ line
    → roster_from line named (front ∷ rest) ≡ roster_of text → (stopped : Stop) → Takes (with_any_text named front) after (Err stopped) → (stopped ≡ stop.NoMemory → IsShort named front)
    → (r : RosterRefusal) → IsRefusal line stopped r → Reads text (Err r)
refused text line named after before front rest parts place same (stop.Fault why) takes short r is =
    subst (λ (r : RosterRefusal). Reads text (Err r)) (sym is) (sym same ∙ ap (step line rest) takes)
refused text line named after before front rest parts place same stop.NoMemory takes short r is =
    subst (λ (r : RosterRefusal). Reads text (Err r)) (sym is) (names_some text line named before front rest parts place same (short refl))
