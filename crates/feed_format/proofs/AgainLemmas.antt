-- The octets of a record that is valid are read as that record.
use Rattle.std.proofs.Common.{◌≡◌, ℕ, ◌+◌, ◌^◌, ◌<◌, Bool, true, false, ltb, leb, List, [], ◌∷◌, ◌++◌, length, drop, Option, Some, None, Result, Ok, refl, sym, ap, subst, ◌∙◌, append_assoc, arith}
use Rattle.std.specs.Prelude.{unwrap_or, is_none, not, ◌&&◌, ◌||◌, IsTrue, IfSome}
use Rattle.std.proofs.lemmas.Bool.{leb-false}
use Rattle.std.proofs.lemmas.List.{length-append, drop_at}
use Rattle.std.proofs.lemmas.Nat.{from_be_bytes-to_be_bytes_4}
use Rattle.std.proofs.lemmas.Option.{none-some}
use Rattle.rcp_base.specs.declared.kinds.Kind.TheVariants as kinds
use Rattle.rcp_base.specs.declared.kinds.FeedWhy.{FeedWhy}
use Rattle.rcp_base.specs.declared.kinds.FeedWhy.TheVariants as why
use Rattle.outside.specs.Told.{in_front}
use Rattle.rcp_base.specs.Checks.{first_failing, unless}
use Rattle.rcp_base.specs.Feed.{FeedState, FeedRecord, IsRecord, kind_of, kind_in, letter_of, source_at, length_at, frame_size, record_in, record_octets, is_roster, has_length, header_checks, frame_checks, body_checks, fault_in_front, fault_of, front}
use Rattle.feed_format.specs.Reading.{Gives}
use Rattle.feed_format.proofs.FrontLemmas.{passes_first, whole, record_of, record_front, header_octets, kind_of-letter_of, frame_size_front}

both_pass : (xs ys : List (Bool × FeedWhy)) → first_failing (xs ++ ys) ≡ None → (first_failing xs ≡ None) × (first_failing ys ≡ None)
both_pass [] ys e = (refl, e)
both_pass ((true, w) ∷ xs) ys e = absurd (none-some w (sym e))
both_pass ((false, w) ∷ xs) ys e = both_pass xs ys e

-- what it says of a record that it has no fault
pub record IsLawful (state : FeedState) (item : FeedRecord) : Type 0 where
  pub few : state.octets < 2 ^ 40
  pub header : first_failing (header_checks state item.kind (length item.body)) ≡ None
  pub body : first_failing (body_checks state item) ≡ None

pub lawful_parts : (state : FeedState) (item : FeedRecord) → fault_of state item ≡ None → IsLawful state item
unfolding fault_of
lawful_parts state item e =
    let first = passes_first (leb (2 ^ 40) state.octets) why.TooLong (header_checks state item.kind (length item.body) ++ body_checks state item) e in
    let parts = both_pass (header_checks state item.kind (length item.body)) (body_checks state item) first.1 in
    record { few = leb-false _ _ first.0; header = parts.0; body = parts.1 }

-- the header of a record says its parts
length_of_header : (item : FeedRecord) → IsRecord item → length_at (header_octets item) ≡ length item.body
length_of_header item form = from_be_bytes-to_be_bytes_4 (length item.body) (omega (arith, form.length))

source_of_header : (item : FeedRecord) → IsRecord item → source_at (header_octets item) ≡ item.source
source_of_header item form = from_be_bytes-to_be_bytes_4 item.source form.source

kind_of_header : (item : FeedRecord) → kind_in (header_octets item) ≡ item.kind
kind_of_header item = ap (λ (k : Option kinds.the_data). unwrap_or k kinds.Finish) (kind_of-letter_of item.kind)

item_of_header : (item : FeedRecord) → IsRecord item → record_of (header_octets item) item.body ≡ item
item_of_header item form = rw (kind_of_header item, source_of_header item form) refl

frame_passes : (state : FeedState) (item : FeedRecord) → IsRecord item → IsLawful state item → first_failing (frame_checks state (header_octets item)) ≡ None
frame_passes state item form lawful =
    let known : is_none (kind_of (letter_of item.kind)) ≡ false = ap is_none (kind_of-letter_of item.kind) in
    ap (λ (b : Bool). first_failing ((b, why.Kind) ∷ header_checks state (kind_in (header_octets item)) (length_at (header_octets item)))) known
    ∙ ap (λ (k : kinds.the_data). first_failing (header_checks state k (length_at (header_octets item)))) (kind_of_header item)
    ∙ ap (λ (n : ℕ). first_failing (header_checks state item.kind n)) (length_of_header item form)
    ∙ lawful.header

no_fault_in_front : (state : FeedState) (item : FeedRecord) (more : List ℕ) → IsRecord item → IsLawful state item → fault_in_front state (header_octets item ++ (item.body ++ more)) ≡ None
no_fault_in_front state item more form lawful =
    whole state (header_octets item) item.body more lawful.few refl (frame_passes state item form lawful) (sym (length_of_header item form))
    ∙ ap (λ (r : FeedRecord). first_failing (body_checks state r)) (item_of_header item form)
    ∙ lawful.body

behind_record : (item : FeedRecord) (more : List ℕ) → IsRecord item → drop (frame_size (header_octets item ++ (item.body ++ more))) (header_octets item ++ (item.body ++ more)) ≡ more
behind_record item more form =
    let octets = header_octets item ++ (item.body ++ more) in
    let size : frame_size (header_octets item ++ (item.body ++ more)) ≡ 9 + length_at (header_octets item) = frame_size_front (header_octets item) (item.body ++ more) refl in
    let count : length (header_octets item ++ item.body) ≡ 9 + length_at (header_octets item) = omega (arith, length-append (header_octets item) item.body, length_of_header item form) in
    ap (λ (n : ℕ). drop n octets) size
    ∙ ap (drop (9 + length_at (header_octets item))) (sym (append_assoc (header_octets item) item.body more))
    ∙ drop_at (header_octets item ++ item.body) more (9 + length_at (header_octets item)) count

abbrev unless_of : Option FeedWhy → FeedRecord → List ℕ → Result (FeedRecord × List ℕ) FeedWhy
unless_of fault r xs = unless fault (r, xs)

made_front : (fault : Option FeedWhy) (r item : FeedRecord) (xs more : List ℕ) → fault ≡ None → r ≡ item → xs ≡ more → unless_of fault r xs ≡ Ok (item, more)
made_front fault r item xs more e f g = rw (e, f, g) refl

pub front_again : (state : FeedState) (item : FeedRecord) (more : List ℕ) → IsRecord item → fault_of state item ≡ None → front state (record_octets item ++ more) ≡ Ok (item, more)
unfolding front
front_again state item more form no_fault =
    let lawful = lawful_parts state item no_fault in
    ap (front state) (append_assoc (header_octets item) item.body more)
    ∙ made_front (fault_in_front state (header_octets item ++ (item.body ++ more))) (record_in (header_octets item ++ (item.body ++ more))) item (drop (frame_size (header_octets item ++ (item.body ++ more))) (header_octets item ++ (item.body ++ more))) more
    (no_fault_in_front state item more form lawful)
    (record_front (header_octets item) item.body more refl (sym (length_of_header item form)) ∙ item_of_header item form)
    (behind_record item more form)

-- ---- what a valid record has

right_of : (a b : Bool) → (a || b) ≡ false → b ≡ false
right_of true b e = absurd cc
right_of false b e = e

of_not : (b : Bool) → not b ≡ false → b ≡ true
of_not true e = refl
of_not false e = absurd cc

pub lawful_length : (state : FeedState) (item : FeedRecord) → fault_of state item ≡ None → IsTrue (has_length item.kind (length item.body))
lawful_length state item e =
    let lawful = lawful_parts state item e in
    let len = length item.body in
    let one = passes_first (not state.started && not (is_roster item.kind)) why.NoRoster ((state.started && is_roster item.kind, why.Twice) ∷ (ltb 65536 len || not (has_length item.kind len), why.Length) ∷ []) lawful.header in
    let two = passes_first (state.started && is_roster item.kind) why.Twice ((ltb 65536 len || not (has_length item.kind len), why.Length) ∷ []) one.1 in
    let three = passes_first (ltb 65536 len || not (has_length item.kind len)) why.Length [] two.1 in
    of_not (has_length item.kind len) (right_of (ltb 65536 len) (not (has_length item.kind len)) three.0)

-- a record that was taken is the one in front, where the octets are known
pub gives_record : (state : FeedState) (item : FeedRecord) (before now : Option (List ℕ)) → IsRecord item → fault_of state item ≡ None → before ≡ in_front (record_octets item) now
    → IfSome before (λ octets. Gives state octets now (Ok item))
gives_record state item before None form lawful given = subst (λ (o : Option (List ℕ)). IfSome o (λ octets. Gives state octets None (Ok item))) (sym given) tt
gives_record state item before (Some rest) form lawful given =
    subst (λ (o : Option (List ℕ)). IfSome o (λ octets. Gives state octets (Some rest) (Ok item))) (sym given) (rest, front_again state item rest form lawful, refl)
