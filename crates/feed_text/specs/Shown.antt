-- What showing and writing promise.
use Rattle.std.specs.Prelude.{◌≡◌, ℕ, ◌-◌, ◌≤◌, ◌^◌, List, length, Option, Some, None, Result, Ok, Err}
use Rattle.outside.specs.Told.{behind}
use Rattle.feed_words.specs.declared.fault.TextFault.{TextFault}
use Rattle.feed_words.specs.Texts.{reading_of, whole}
use Rattle.feed_text.specs.declared.writing.WriteFault.{WriteFault}
use Rattle.feed_text.specs.declared.writing.WriteFault.TheVariants as fault

-- a text that stands for exactly these octets was written
abbrev pub ShowsAll : List ℕ → Option (List ℕ) → Option (List ℕ) → Type 0
ShowsAll octets before now = (text : List ℕ) × (now ≡ behind before text) × (reading_of text ≡ whole octets)

-- the octets of all lines were written, or those of the lines before the first faulty one
abbrev pub WritesUpTo : Option TextFault → List ℕ → Option (List ℕ) → Option (List ℕ) → Type 0
WritesUpTo fault text before now = ((reading_of text).fault ≡ fault) × (now ≡ behind before (reading_of text).octets)

abbrev pub WritesText : List ℕ → Option (List ℕ) → Option (List ℕ) → Result (Unit {0}) WriteFault → Type 0
WritesText text before now (Ok done) = WritesUpTo None text before now
WritesText text before now (Err (fault.Text why)) = WritesUpTo (Some why) text before now
WritesText text before now (Err fault.TooLong) = 2 ^ 64 - 1 ≤ length text
WritesText text before now (Err other) = Unit {0}
