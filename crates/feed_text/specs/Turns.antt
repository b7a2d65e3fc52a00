-- What one turn of showing does.
use Rattle.std.specs.Prelude.{◌≡◌, ◌<◌, ℕ, List, [], length, Option, Result, Ok, Err, Bool, true, false}
use Rattle.outside.specs.Told.{in_front, behind}
use Rattle.feed_words.specs.Texts.{reading_of, whole}
use Rattle.feed_words.specs.Joining.{EndsLine}
use Rattle.feed_text.specs.Windows.{Held, IsEmptyRest}
use Rattle.feed_text.specs.declared.showing.ShowFault.{ShowFault}

-- a text stands for these octets, and ends a line
pub record Spells (text octets : List ℕ) : Type 0 where
  pub reads : reading_of text ≡ whole octets
  pub ends : EndsLine text

-- the octets in front were shown
pub record Shows (window : Held) (left : Option (List ℕ)) (taken : Option (List ℕ)) (window1 : Held) (left1 : Option (List ℕ)) (taken1 : Option (List ℕ)) : Type 0 where
  pub piece : List ℕ
  pub text : List ℕ
  pub given : in_front window.octets left ≡ in_front piece (in_front window1.octets left1)
  pub some : 0 < length piece
  pub written : taken1 ≡ behind taken text
  pub spells : Spells text piece

-- there were none
pub record IsDone (window : Held) (left : Option (List ℕ)) (taken : Option (List ℕ)) (left1 : Option (List ℕ)) (taken1 : Option (List ℕ)) : Type 0 where
  pub given : in_front window.octets left ≡ in_front [] left1
  pub empty : IsEmptyRest left1
  pub written : taken1 ≡ taken

abbrev pub Turns : Held → Option (List ℕ) → Option (List ℕ) → Held → Option (List ℕ) → Option (List ℕ) → Result Bool ShowFault → Type 0
Turns window left taken window1 left1 taken1 (Ok true) = Shows window left taken window1 left1 taken1
Turns window left taken window1 left1 taken1 (Ok false) = IsDone window left taken left1 taken1
Turns window left taken window1 left1 taken1 (Err why) = Unit {0}
