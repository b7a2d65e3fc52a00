-- Showing and writing over whole streams.
use Rattle.std.proofs.Common.{◌≡◌, ◌≢◌, ℕ, ◌+◌, ◌≤◌, List, [], ◌∷◌, ◌++◌, length, take, drop, Option, Some, None, Ok, refl, sym, ap, subst, ◌∙◌, append_assoc, append-nil, arith, inl, inr}
use Rattle.std.specs.Prelude.{IfSome}
use Rattle.std.proofs.lemmas.List.{length-append, length-take, take-append-drop}
use Rattle.outside.specs.Told.{in_front, behind, in_front-append, behind-append, in_front-nil, behind-nil}
use Rattle.feed_words.specs.declared.fault.TextFault.{TextFault}
use Rattle.line_words.specs.Words.{lines_of}
use Rattle.feed_words.specs.Texts.{closed, line_gives, lines_give, with_front, whole, Reading, reading_of}
use Rattle.feed_words.specs.Joining.{EndsLine}
use Rattle.feed_text.specs.Windows.{Held, IsEmptyRest}
use Rattle.feed_text.specs.Turns.{Spells, Shows, IsDone}
use Rattle.feed_text.specs.Shown.{ShowsAll, WritesUpTo}
use Rattle.feed_text.specs.Lines.{TakesWhole, TakesLast, Faulty}
use Rattle.feed_text.proofs.LineLemmas.{line_is}

abbrev Known : Type 0
Known = Option (List ℕ)

-- ---- showing

abbrev pub Joins : Type 0
Joins = (a b o p : List ℕ) → EndsLine a → reading_of a ≡ whole o → reading_of b ≡ whole p → reading_of (a ++ b) ≡ whole (o ++ p)

-- what was taken from the source has been shown
pub record HasShown (turns : ℕ) (start now : Known) (taken taken1 : Known) : Type 0 where
  pub octets : List ℕ
  pub text : List ℕ
  pub given : start ≡ in_front octets now
  pub written : taken1 ≡ behind taken text
  pub spells : Spells text octets
  pub long : turns ≤ length octets

pub nothing_shown : (start taken : Known) → reading_of [] ≡ whole [] → HasShown 0 start start taken taken
nothing_shown start taken empty = record {
  octets = [];
  text = [];
  given = sym (in_front-nil start);
  written = sym (behind-nil taken);
  spells = record { reads = empty; ends = inl refl };
  long = omega arith;
}

ends_both : (a b : List ℕ) → EndsLine a → EndsLine b → EndsLine (a ++ b)
ends_both a b h (inl none) = subst EndsLine (sym (ap (λ (x : List ℕ). a ++ x) none ∙ append-nil a)) h
ends_both a b h (inr ends) = inr (a ++ ends.0, ap (λ (x : List ℕ). a ++ x) ends.1 ∙ sym (append_assoc a ends.0 (10 ∷ [])))

pub one_more_shown : (n : ℕ) (start taken : Known) (w w1 : Held) (left left1 taken1 taken2 : Known) → Joins
    → HasShown n start (in_front w.octets left) taken taken1 → Shows w left taken1 w1 left1 taken2 → HasShown (n + 1) start (in_front w1.octets left1) taken taken2
one_more_shown n start taken w w1 left left1 taken1 taken2 join h s = record {
  octets = h.octets ++ s.piece;
  text = h.text ++ s.text;
  given = h.given ∙ ap (in_front h.octets) s.given ∙ in_front-append h.octets s.piece (in_front w1.octets left1);
  written = s.written ∙ ap (λ (t : Known). behind t s.text) h.written ∙ behind-append taken h.text s.text;
  spells = record {
    reads = join h.text s.text h.octets s.piece h.spells.ends h.spells.reads s.spells.reads;
    ends = ends_both h.text s.text h.spells.ends s.spells.ends;
  };
  long = omega (arith, length-append h.octets s.piece, h.long, s.some);
}

all_given : (octets : List ℕ) (left : Known) → IsEmptyRest left → IfSome (in_front octets left) (λ all. all ≡ octets)
all_given octets None h = tt
all_given octets (Some rest) h = ap (λ (x : List ℕ). octets ++ x) h ∙ append-nil octets

shown_all : (start taken taken1 : Known) (octets text : List ℕ) → IfSome start (λ all. all ≡ octets) → taken1 ≡ behind taken text → reading_of text ≡ whole octets → IfSome start (λ all. ShowsAll all taken taken1)
shown_all None taken taken1 octets text given written reads = tt
shown_all (Some all) taken taken1 octets text given written reads = (text, written, reads ∙ ap whole (sym given))

pub all_shown : (n : ℕ) (start taken : Known) (w : Held) (left left1 taken1 taken2 : Known) → HasShown n start (in_front w.octets left) taken taken1 → IsDone w left taken1 left1 taken2 → IfSome start (λ octets. ShowsAll octets taken taken2)
all_shown n start taken w left left1 taken1 taken2 h d =
    let given : start ≡ in_front h.octets left1 = h.given ∙ ap (in_front h.octets) (d.given ∙ in_front-nil left1) in
    shown_all start taken taken2 h.octets h.text
    (subst (λ (s : Known). IfSome s (λ all. all ≡ h.octets)) (sym given) (all_given h.octets left1 d.empty))
    (d.written ∙ h.written) h.spells.reads

long_input : (m : ℕ) (octets : List ℕ) (now : Known) → m ≤ length octets → IfSome (in_front octets now) (λ all. m ≤ length all)
long_input m octets None h = tt
long_input m octets (Some rest) h = omega (arith, length-append octets rest)

pub shown_long : (n : ℕ) (start now taken taken1 : Known) (m : ℕ) → HasShown n start now taken taken1 → m ≤ n → IfSome start (λ all. m ≤ length all)
shown_long n start now taken taken1 m h le = subst (λ (s : Known). IfSome s (λ all. m ≤ length all)) (sym h.given) (long_input m h.octets now (omega (arith, h.long)))

-- ---- writing

-- the lines that were taken from the source have been written
pub record HasWritten (n : ℕ) (start now : Known) (roster : Known) (taken taken1 : Known) : Type 0 where
  pub text : List ℕ
  pub octets : List ℕ
  pub given : start ≡ in_front text now
  pub then : (rest : List ℕ) → reading_of (text ++ rest) ≡ with_front octets (lines_give (n + 1) roster (lines_of rest))
  pub written : taken1 ≡ behind taken octets
  pub long : n ≤ length text

pub nothing_written : (start taken : Known) → HasWritten 0 start start None taken taken
nothing_written start taken = record {
  text = [];
  octets = [];
  given = sym (in_front-nil start);
  then = λ rest. refl;
  written = sym (behind-nil taken);
  long = omega arith;
}

abbrev reading : List ℕ → Option TextFault → Reading
reading octets fault = record { octets = octets; fault = fault }

front_twice : (a b : List ℕ) (r : Reading) → with_front a (with_front b r) ≡ with_front (a ++ b) r
front_twice a b r = ap (λ (o : List ℕ). reading o r.fault) (sym (append_assoc a b r.octets))

pub one_more_written : (n : ℕ) (start now now1 roster roster1 taken taken1 taken2 : Known) → HasWritten n start now roster taken taken1 → TakesWhole roster roster1 taken1 taken2 now now1 → HasWritten (n + 1) start now1 roster1 taken taken2
one_more_written n start now now1 roster roster1 taken taken1 taken2 h t =
    let end : List ℕ = 10 ∷ [] in
    record {
      text = h.text ++ (t.line ++ end);
      octets = h.octets ++ t.piece;
      given = h.given ∙ ap (in_front h.text) t.front ∙ in_front-append h.text (t.line ++ end) now1;
      then = λ rest.
          ap reading_of (append_assoc h.text (t.line ++ end) rest ∙ ap (λ (x : List ℕ). h.text ++ x) (append_assoc t.line end rest))
          ∙ h.then (t.line ++ 10 ∷ rest)
          ∙ ap (λ (ls : List (List ℕ)). with_front h.octets (lines_give (n + 1) roster ls)) (t.split rest)
          ∙ ap (with_front h.octets) (line_is (n + 1) roster t.line (lines_of rest) (Ok (roster1, t.piece)) t.gives)
          ∙ front_twice h.octets t.piece (lines_give (n + 1 + 1) roster1 (lines_of rest));
      written = t.written ∙ ap (λ (k : Known). behind k t.piece) h.written ∙ behind-append taken h.octets t.piece;
      long = omega (arith, length-append h.text (t.line ++ end), length-append t.line end, h.long);
    }

-- what is left gives these octets and this fault
written_up_to : (n : ℕ) (start now roster taken taken1 taken2 : Known) (more : List ℕ) (fault : Option TextFault) → HasWritten n start now roster taken taken1
    → IfSome now (λ rest. lines_give (n + 1) roster (lines_of rest) ≡ reading more fault) → taken2 ≡ behind taken1 more → IfSome start (λ text. WritesUpTo fault text taken taken2)
written_up_to n start None roster taken taken1 taken2 more fault h gives written = subst (λ (s : Known). IfSome s (λ text. WritesUpTo fault text taken taken2)) (sym h.given) tt
written_up_to n start (Some rest) roster taken taken1 taken2 more fault h gives written =
    let all : reading_of (h.text ++ rest) ≡ reading (h.octets ++ more) fault = h.then rest ∙ ap (with_front h.octets) gives in
    let out : taken2 ≡ behind taken (h.octets ++ more) = written ∙ ap (λ (k : Known). behind k more) h.written ∙ behind-append taken h.octets more in
    subst (λ (s : Known). IfSome s (λ text. WritesUpTo fault text taken taken2)) (sym h.given)
    (ap (λ (r : Reading). r.fault) all, out ∙ ap (λ (r : Reading). behind taken r.octets) (sym all))

pub written_to_fault : (n : ℕ) (start now roster taken taken1 taken2 : Known) (why : TextFault) → HasWritten n start now roster taken taken1 → Faulty (n + 1) roster taken1 taken2 now why → IfSome start (λ text. WritesUpTo (Some why) text taken taken2)
written_to_fault n start now roster taken taken1 taken2 why h f = written_up_to n start now roster taken taken1 taken2 [] (Some why) h f.first (f.written ∙ sym (behind-nil taken1))

last_lines : (n : ℕ) (now roster roster1 : Known) (line piece : List ℕ) → IfSome now (λ text. text ≡ line) → lines_of line ≡ line ∷ [] → line_gives roster line ≡ Ok (roster1, piece)
    → IfSome now (λ rest. lines_give n roster (lines_of rest) ≡ reading (piece ++ closed roster1) None)
unfolding lines_give
last_lines n None roster roster1 line piece is only gives = tt
last_lines n (Some rest) roster roster1 line piece is only gives =
    ap (λ (x : List ℕ). lines_give n roster (lines_of x)) is ∙ ap (lines_give n roster) only ∙ line_is n roster line [] (Ok (roster1, piece)) gives

pub written_to_end : (n : ℕ) (start now roster taken taken1 taken2 : Known) → HasWritten n start now roster taken taken1 → TakesLast roster taken1 taken2 now → IfSome start (λ text. WritesUpTo None text taken taken2)
written_to_end n start now roster taken taken1 taken2 h t =
    written_up_to n start now roster taken taken1 taken2 (t.piece ++ closed t.roster1) None h (last_lines (n + 1) now roster t.roster1 t.line t.piece t.all t.only t.gives) t.written

pub written_long : (n : ℕ) (start now roster taken taken1 : Known) (m : ℕ) → HasWritten n start now roster taken taken1 → m ≤ n → IfSome start (λ text. m ≤ length text)
written_long n start now roster taken taken1 m h le = subst (λ (s : Known). IfSome s (λ text. m ≤ length text)) (sym h.given) (long_input m h.text now (omega (arith, h.long)))

-- ---- before the first turn

empty_reads : reading_of [] ≡ whole []
unfolding lines_give line_gives
empty_reads = refl

held_front : (w : Held) (start : Known) → w.octets ≡ [] → start ≡ in_front w.octets start
held_front w start none = sym (ap (λ (o : List ℕ). in_front o start) none ∙ in_front-nil start)

pub shown_at_start : (w : Held) (start taken : Known) → w.octets ≡ [] → HasShown 0 start (in_front w.octets start) taken taken
shown_at_start w start taken none = subst (λ (now : Known). HasShown 0 start now taken taken) (held_front w start none) (nothing_shown start taken empty_reads)

pub written_at_start : (w : Held) (start roster taken : Known) → w.octets ≡ [] → roster ≡ None → HasWritten 0 start (in_front w.octets start) roster taken taken
written_at_start w start roster taken none closed =
    subst (λ (r : Known). HasWritten 0 start (in_front w.octets start) r taken taken) (sym closed)
    (subst (λ (now : Known). HasWritten 0 start now None taken taken) (held_front w start none) (nothing_written start taken))

-- ---- one turn of showing

pub shows_front : (w w1 w2 : Held) (left left1 taken taken1 : Known) (count : ℕ) (text : List ℕ) → in_front w.octets left ≡ in_front w1.octets left1 → w2 ≡ record { octets = drop count w1.octets; size = w1.size }
    → count ≢ 0 → count ≤ length w1.octets → taken1 ≡ behind taken text → Spells text (take count w1.octets) → Shows w left taken w2 left1 taken1
shows_front w w1 w2 left left1 taken taken1 count text same rest some within written spells = record {
  piece = take count w1.octets;
  text = text;
  given = same ∙ ap (λ (o : List ℕ). in_front o left1) (sym (take-append-drop count w1.octets)) ∙ sym (in_front-append (take count w1.octets) (drop count w1.octets) left1)
      ∙ ap (λ (w : Held). in_front (take count w1.octets) (in_front w.octets left1)) (sym rest);
  some = omega (arith, length-take count w1.octets);
  written = written;
  spells = spells;
}

pub shows_nothing : (w w1 : Held) (left left1 taken : Known) → in_front w.octets left ≡ in_front w1.octets left1 → w1.octets ≡ [] → IsEmptyRest left1 → IsDone w left taken left1 taken
shows_nothing w w1 left left1 taken same none empty = record {
  given = same ∙ ap (λ (o : List ℕ). in_front o left1) none;
  empty = empty;
  written = refl;
}
