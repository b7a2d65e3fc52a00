-- What the functions of lines answer, as the definitions'.
use Rattle.std.specs.Prelude.{◌≡◌, ℕ, List, Bool, Option, Some, None, Result, Ok, Err}
use denote.Ref.{Bor}
use Rattle.feed_words.specs.declared.fault.LineFault.{LineFault}
use Rattle.feed_words.specs.declared.fault.LineStop.{LineStop}
use Rattle.feed_words.specs.declared.fault.LineStop.TheVariants as line_stop

abbrev pub FailsLine : {Y : Type 0} → LineStop → Result Y LineFault → Type 0
FailsLine line_stop.NoMemory read = Unit {0}
FailsLine (line_stop.Fault f) read = read ≡ Err f

abbrev pub GivesLine : {X Y : Type 0} → (X → Y) → Result X LineStop → Result Y LineFault → Type 0
GivesLine view (Ok x) read = read ≡ Ok (view x)
GivesLine view (Err e) read = FailsLine e read

abbrev pub IsAfterBar : Option (Bor (List ℕ) × Bool) → Option (List ℕ × Bool) → Type 0
IsAfterBar None part = part ≡ None
IsAfterBar (Some found) part = part ≡ Some (found.0.now, found.1)
