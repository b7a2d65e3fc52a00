-- Each roster that a text has has a canonical text.
use Rattle.std.proofs.Common.{◌≡◌, ℕ, ◌+◌, ◌^◌, ◌<◌, Bool, false, cond, eqb, List, [], ◌∷◌, ◌++◌, Option, Some, None, Result, Ok, Err, IfOk, IfSome, refl, sym, ap, subst, ◌∙◌, bytes_eq, codes}
use Rattle.std.specs.List.{flat_map, list_any, AllByRecursion}
use Rattle.std.proofs.lemmas.Bool.{cond_both}
use Rattle.std.proofs.lemmas.Grind.{flat_map-append}
use Rattle.std.proofs.lemmas.Option.{IfSome_then}
use Rattle.rcp_base.specs.declared.kinds.RosterWhy.{RosterWhy}
use Rattle.rcp_base.specs.declared.kinds.RosterWhy.TheVariants as why
use Rattle.rcp_base.specs.declared.names.Edge.{Edge}
use Rattle.rcp_base.specs.Checks.{unless}
use Rattle.rcp_base.specs.Text.{address_of}
use Rattle.rcp_base.specs.Roster.{Line, As, Id, Shards, Hold, Area, Router, Link, number_within, except, as_value, hold_value, name_value, one, two, three, line_of_words, is_empty, words_of, line_of, is_skipped, lines_of, Named, nothing_named, has_identifier, line_fault, with_line, with_text, with_any_text, RosterOf, FaultyLine, complete, completed, roster_from, roster_of}
use Rattle.rcp_base.proofs.AddressLemmas.{address_of-Some}
use Rattle.rcp_model.proofs.AllLemmas.{all-append}
use Rattle.roster.specs.Form.{IsAsNumber, IsShardCount, IsHoldTime, NamedInForm}
use Rattle.roster.proofs.FormLemmas.{line_kept, none_named}
use Rattle.feed_laws.specs.RosterTexts.{both_ways, HasAddresses, IsRoster}

-- ---- lines

abbrev Fits : ℕ → Type 0
Fits a = a < 2 ^ 32

-- the addresses of a line have 32 bits
abbrev LineFits : Line → Type 0
LineFits (As n) = Unit {0}
LineFits (Id a) = Fits a
LineFits (Shards n) = Unit {0}
LineFits (Hold n) = Unit {0}
LineFits (Area a) = Fits a
LineFits (Router router id) = Fits router × Fits id
LineFits (Link u v cost) = Unit {0}

abbrev SaysFits : Result Line RosterWhy → Type 0
SaysFits said = IfOk said LineFits

address-fits : (text : List ℕ) → IfSome (address_of text) Fits
address-fits text = by (address_of text) refl where
  by : (found : Option ℕ) → address_of text ≡ found → IfSome found Fits
  by None is = tt
  by (Some a) is = (address_of-Some text a is).1

except-fits : (out : ℕ) (found : Option ℕ) → IfSome found Fits → IfSome (except out found) Fits
except-fits out None h = tt
except-fits out (Some n) h = cond_both (eqb n out) None (Some n) (λ o. IfSome o Fits) (λ _. tt) (λ _. h)

name-fits : (text : List ℕ) → IfSome (name_value text) Fits
name-fits text = except-fits 0 (address_of text) (address-fits text)

one-fits : (line : ℕ → Line) (found : Option ℕ) → IfSome found (λ n. LineFits (line n)) → SaysFits (one line found)
one-fits line None h = tt
one-fits line (Some n) h = h

any-fits : (line : ℕ → Line) (found : Option ℕ) → ((n : ℕ) → LineFits (line n)) → SaysFits (one line found)
any-fits line None h = tt
any-fits line (Some n) h = h n

router-fits : (a b : Option ℕ) → IfSome a Fits → IfSome b Fits → SaysFits (two Router a b)
router-fits None b h g = tt
router-fits (Some a) b h g = one-fits (Router a) b (IfSome_then b g (λ n fits. (h, fits)))

link-fits : (a b c : Option ℕ) → SaysFits (three Link a b c)
link-fits None b c = tt
link-fits (Some a) None c = tt
link-fits (Some a) (Some b) c = any-fits (Link a b) c (λ n. tt)

choice : (t : Bool) (a b : Result Line RosterWhy) → SaysFits a → SaysFits b → SaysFits (cond t a b)
choice t a b ha hb = cond_both t a b SaysFits (λ _. ha) (λ _. hb)

setting-fits : (word a : List ℕ) → SaysFits (line_of_words (word ∷ a ∷ []))
setting-fits word a =
    choice (bytes_eq word (codes "as")) _ _ (any-fits As (as_value a) (λ n. tt))
    (choice (bytes_eq word (codes "id")) _ _ (one-fits Id (address_of a) (address-fits a))
    (choice (bytes_eq word (codes "shards")) _ _ (any-fits Shards (number_within 1 64 a) (λ n. tt))
    (choice (bytes_eq word (codes "hold")) _ _ (any-fits Hold (hold_value a) (λ n. tt))
    (choice (bytes_eq word (codes "area")) _ (Err why.Word) (one-fits Area (address_of a) (address-fits a)) tt))))

words-fit : (words : List (List ℕ)) → SaysFits (line_of_words words)
words-fit [] = tt
words-fit (word ∷ []) = tt
words-fit (word ∷ a ∷ []) = setting-fits word a
words-fit (word ∷ a ∷ b ∷ []) = choice (bytes_eq word (codes "router")) _ (Err why.Word) (router-fits (name_value a) (name_value b) (name-fits a) (name-fits b)) tt
words-fit (word ∷ a ∷ b ∷ c ∷ []) = choice (bytes_eq word (codes "link")) _ (Err why.Word) (link-fits (address_of a) (address_of b) (number_within 1 65535 c)) tt
words-fit (word ∷ a ∷ b ∷ c ∷ d ∷ words) = tt

line-fits : (text : List ℕ) → SaysFits (line_of text)
line-fits text = choice (list_any is_empty (words_of text)) (Err why.Word) (line_of_words (words_of text)) tt (words-fit (words_of text))

-- ---- what is named

record NamedFits (named : Named) : Type 0 where
  id : IfSome named.id Fits
  area : IfSome named.area Fits
  addresses : AllByRecursion HasAddresses named.members
  lines : List Edge
  links : named.links ≡ flat_map both_ways lines

with-fits : (named : Named) (line : Line) → NamedFits named → LineFits line → NamedFits (with_line named line)
with-fits named (As n) h fits = record { id = h.id; area = h.area; addresses = h.addresses; lines = h.lines; links = h.links }
with-fits named (Id a) h fits = record { id = fits; area = h.area; addresses = h.addresses; lines = h.lines; links = h.links }
with-fits named (Shards n) h fits = record { id = h.id; area = h.area; addresses = h.addresses; lines = h.lines; links = h.links }
with-fits named (Hold n) h fits = record { id = h.id; area = h.area; addresses = h.addresses; lines = h.lines; links = h.links }
with-fits named (Area a) h fits = record { id = h.id; area = fits; addresses = h.addresses; lines = h.lines; links = h.links }
with-fits named (Router router id) h fits = record {
  id = h.id;
  area = h.area;
  addresses = all-append HasAddresses named.members (record { router = router; bgp_id = id } ∷ []) h.addresses (fits, tt);
  lines = h.lines;
  links = h.links;
}
with-fits named (Link u v cost) h fits =
    let link : Edge = record { from = u; to = v; cost = cost } in
    record {
      id = h.id;
      area = h.area;
      addresses = h.addresses;
      lines = h.lines ++ link ∷ [];
      links = ap (λ (links : List Edge). links ++ both_ways link) h.links ∙ sym (flat_map-append both_ways h.lines (link ∷ []));
    }

unless-fits : (named more : Named) (fault : Option RosterWhy) → NamedFits more → IfOk (unless fault more) NamedFits
unless-fits named more None h = h
unless-fits named more (Some fault) h = tt

said-fits : (named : Named) (said : Result Line RosterWhy) → NamedFits named → SaysFits said
    → IfOk (elim said as (λ _. Result Named RosterWhy) [ Ok line ↦ unless (line_fault named line) (with_line named line) | Err fault ↦ Err fault ]) NamedFits
said-fits named (Ok line) h fits = unless-fits named (with_line named line) (line_fault named line) (with-fits named line h fits)
said-fits named (Err fault) h fits = tt

text-fits : (named : Named) (text : List ℕ) → NamedFits named → IfOk (with_any_text named text) NamedFits
text-fits named text h =
    cond_both (is_skipped text) (Ok named) (with_text named text) (λ r. IfOk r NamedFits) (λ _. h) (λ _. said-fits named (line_of text) h (line-fits text))

-- ---- the roster

complete-form : (line : ℕ) (named : Named) → NamedInForm named → NamedFits named → IfOk (complete line (completed named)) IsRoster
complete-form line named form fits =
    at named.as_number named.id named.shards named.hold named.area form.as_number form.own form.shards form.hold fits.id fits.area where
      at : (as_number id shards hold area : Option ℕ) → IfSome as_number IsAsNumber → IfSome id (λ i. has_identifier named.members i ≡ false) → IfSome shards IsShardCount → IfSome hold IsHoldTime
          → IfSome id Fits → IfSome area Fits → IfOk (complete line (completed (record { as_number = as_number; id = id; shards = shards; hold = hold; area = area; members = named.members; links = named.links }))) IsRoster
      at None id shards hold area a b c d e f = tt
      at (Some n) None shards hold area a b c d e f = tt
      at (Some n) (Some i) None hold area a b c d e f = tt
      at (Some n) (Some i) (Some k) None area a b c d e f = tt
      at (Some n) (Some i) (Some k) (Some h) None a b c d e f = tt
      at (Some n) (Some i) (Some k) (Some h) (Some r) a b c d e f = record {
        form = record { as_number = a; shards = c; hold = d; members = form.members; own = b; links = form.links; two_way = form.two_way };
        id = e;
        area = f;
        addresses = fits.addresses;
        lines = fits.lines;
        links = fits.links;
      }

-- a line that is taken, and then the others
step-form : (line : ℕ) (lines : List (List ℕ)) (taken : Result Named RosterWhy) → IfOk taken NamedInForm → IfOk taken NamedFits
    → ((more : Named) → NamedInForm more → NamedFits more → IfOk (roster_from (line + 1) more lines) IsRoster)
    → IfOk (elim taken as (λ _. Result RosterOf FaultyLine) [ Ok more ↦ roster_from (line + 1) more lines | Err fault ↦ Err (record { line = line; why = fault }) ]) IsRoster
step-form line lines (Ok more) form fits later = later more form fits
step-form line lines (Err fault) form fits later = tt

lines-form : (line : ℕ) (named : Named) (lines : List (List ℕ)) → NamedInForm named → NamedFits named → IfOk (roster_from line named lines) IsRoster
lines-form line named [] form fits = complete-form line named form fits
lines-form line named (text ∷ lines) form fits =
    step-form line lines (with_any_text named text) (line_kept named text form) (text-fits named text fits) (λ more. lines-form (line + 1) more lines)

if_ok : {X E : Type 0} (P : X → Type 0) (result : Result X E) (x : X) → IfOk result P → result ≡ Ok x → P x
if_ok {X} {E} P result x holds is = subst (λ (r : Result X E). IfOk r P) is holds

pub read-form : (text : List ℕ) (roster : RosterOf) → roster_of text ≡ Ok roster → IsRoster roster
read-form text roster is =
    if_ok IsRoster (roster_of text) roster
    (lines-form 1 nothing_named (lines_of text) none_named (record { id = tt; area = tt; addresses = tt; lines = []; links = refl })) is
