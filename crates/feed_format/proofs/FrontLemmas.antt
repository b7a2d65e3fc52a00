-- The first fault of what stands in front, as the reader comes to it.
use Rattle.std.proofs.Common.{◌≡◌, ℕ, ◌+◌, ◌^◌, ◌<◌, ◌≤◌, Bool, true, false, cond, eqb, leb, ltb, List, [], ◌∷◌, ◌++◌, length, get_or, take, drop, Option, Some, None, Result, refl, sym, ap, ◌∙◌, arith, inl, inr}
use Rattle.std.specs.Int.{w32, to_be_bytes, from_be_bytes}
use Rattle.std.specs.Prelude.{is_none, unwrap_or}
use Rattle.std.specs.Result.{result_err}
use Rattle.std.proofs.lemmas.Bool.{le-leb, lt-leb, lt-ltb, le-ltb, cases_lt, eqb-true}
use Rattle.std.proofs.lemmas.List.{get_or_append_left, length-append, length-take, length-drop, take-append-le, drop-append-le, drop_at, take_at, get_or-take, get_or-drop, get_or_past, take_more, take_all, take-append-drop, drop-drop}
use Rattle.std.proofs.lemmas.Nat.{be_bytes_4}
use Rattle.std.proofs.lemmas.Option.{none-some, same_Some}
use Rattle.rcp_base.specs.declared.kinds.Kind.{Kind}
use Rattle.rcp_base.specs.declared.kinds.Kind.TheVariants as kinds
use Rattle.rcp_base.specs.declared.kinds.FeedWhy.{FeedWhy}
use Rattle.rcp_base.specs.declared.kinds.FeedWhy.TheVariants as why
use Rattle.rcp_base.specs.Checks.{first_failing, unless}
use Rattle.rcp_base.specs.Feed.{FeedState, FeedRecord, kind_of, letter_of, kind_in, letter_at, source_at, length_at, body_at, record_in, frame_size, header_checks, frame_checks, body_checks, fault_in_front}

result_err-unless : {X : Type 0} (fault : Option FeedWhy) (x : X) → result_err (unless fault x) ≡ fault
result_err-unless None x = refl
result_err-unless (Some w) x = refl

pub frame_fault : {X : Type 0} (state : FeedState) (octets : List ℕ) (kind : Kind) (len : ℕ) (r : Result X FeedWhy) (x : X) → kind_of (letter_at octets) ≡ Some kind → len ≡ length_at octets
    → r ≡ unless (first_failing (header_checks state kind len)) x → result_err r ≡ first_failing (frame_checks state octets)
frame_fault state octets kind len r x known len-is is =
    ap result_err is ∙ result_err-unless (first_failing (header_checks state kind len)) x ∙ ap (λ (n : ℕ). first_failing (header_checks state kind n)) len-is
    ∙ sym (rw known refl)

-- ---- checks in a row

pub passes-append : (xs ys : List (Bool × FeedWhy)) → first_failing xs ≡ None → first_failing (xs ++ ys) ≡ first_failing ys
passes-append [] ys e = refl
passes-append ((true, w) ∷ xs) ys e = absurd (none-some w (sym e))
passes-append ((false, w) ∷ xs) ys e = passes-append xs ys e

pub passes_first : (b : Bool) (w : FeedWhy) (xs : List (Bool × FeedWhy)) → first_failing ((b, w) ∷ xs) ≡ None → (b ≡ false) × (first_failing xs ≡ None)
passes_first true w xs e = absurd (none-some w (sym e))
passes_first false w xs e = (refl, e)

pub fails-append : (xs ys : List (Bool × FeedWhy)) (w : FeedWhy) → first_failing xs ≡ Some w → first_failing (xs ++ ys) ≡ Some w
fails-append [] ys w e = absurd (none-some w e)
fails-append ((true, v) ∷ xs) ys w e = e
fails-append ((false, v) ∷ xs) ys w e = fails-append xs ys w e

two_pass : (a b : Bool) (v w : FeedWhy) (xs : List (Bool × FeedWhy)) → a ≡ false → b ≡ false → first_failing ((a, v) ∷ (b, w) ∷ xs) ≡ first_failing xs
two_pass a b v w xs e f = rw (e, f) refl

-- ---- the header in front

letter_front : (h rest : List ℕ) → length h ≡ 9 → letter_at (h ++ rest) ≡ letter_at h
letter_front h rest nine = get_or_append_left h rest 0 0 (omega arith)

source_front : (h rest : List ℕ) → length h ≡ 9 → source_at (h ++ rest) ≡ source_at h
source_front h rest nine =
    ap (λ (xs : List ℕ). from_be_bytes w32 (take 4 xs)) (drop-append-le 1 h rest (omega arith))
    ∙ ap (from_be_bytes w32) (take-append-le 4 (drop 1 h) rest (omega (arith, length-drop 1 h)))

pub length_front : (h rest : List ℕ) → length h ≡ 9 → length_at (h ++ rest) ≡ length_at h
length_front h rest nine =
    ap (λ (xs : List ℕ). from_be_bytes w32 (take 4 xs)) (drop-append-le 5 h rest (omega arith))
    ∙ ap (from_be_bytes w32) (take-append-le 4 (drop 5 h) rest (omega (arith, length-drop 5 h)))

-- the checks after the first two, by what they read
abbrev checks_of : FeedState → ℕ → ℕ → Bool → FeedRecord → List (Bool × FeedWhy)
checks_of state letter len short item =
    (is_none (kind_of letter), why.Kind) ∷ header_checks state (unwrap_or (kind_of letter) kinds.Finish) len ++ (short, why.Truncated) ∷ body_checks state item

pub too_long : (state : FeedState) (octets : List ℕ) → 2 ^ 40 ≤ state.octets → fault_in_front state octets ≡ Some why.TooLong
unfolding fault_in_front
too_long state octets le = let many = le-leb _ _ le in rw many refl

pub short_header : (state : FeedState) (octets : List ℕ) → state.octets < 2 ^ 40 → length octets < 9 → fault_in_front state octets ≡ Some why.Truncated
unfolding fault_in_front
short_header state octets few lt =
    let some : leb (2 ^ 40) state.octets ≡ false = lt-leb _ _ few in
    let short : ltb (length octets) 9 ≡ true = lt-ltb _ _ lt in
    rw (some, short) refl

behind_the_first : (state : FeedState) (octets : List ℕ) → state.octets < 2 ^ 40 → 9 ≤ length octets
    → fault_in_front state octets ≡ first_failing (checks_of state (letter_at octets) (length_at octets) (ltb (length octets) (frame_size octets)) (record_in octets))
unfolding fault_in_front
behind_the_first state octets few le =
    let some : leb (2 ^ 40) state.octets ≡ false = lt-leb _ _ few in
    let long : ltb (length octets) 9 ≡ false = le-ltb _ _ le in
    let step : first_failing ((leb (2 ^ 40) state.octets, why.TooLong) ∷ (ltb (length octets) 9, why.Truncated)
    ∷ checks_of state (letter_at octets) (length_at octets) (ltb (length octets) (frame_size octets)) (record_in octets))
    ≡ first_failing (checks_of state (letter_at octets) (length_at octets) (ltb (length octets) (frame_size octets)) (record_in octets)) = two_pass _ _ _ _ (checks_of state (letter_at octets) (length_at octets) (ltb (length octets) (frame_size octets)) (record_in octets)) some long in
    step

abbrev behind_header : FeedState → List ℕ → List ℕ → List (Bool × FeedWhy)
behind_header state h rest = (ltb (9 + length rest) (9 + length_at h), why.Truncated) ∷ body_checks state (record_in (h ++ rest))

pub frame_size_front : (h rest : List ℕ) → length h ≡ 9 → frame_size (h ++ rest) ≡ 9 + length_at h
frame_size_front h rest nine =
    let long : ltb (length (h ++ rest)) 9 ≡ false = le-ltb _ _ (omega (arith, length-append h rest)) in
    ap (λ (b : Bool). cond b 9 (9 + length_at (h ++ rest))) long ∙ ap (λ (n : ℕ). 9 + n) (length_front h rest nine)

-- then the fault is that of the checks from the header on
from_header : (state : FeedState) (h rest : List ℕ) → state.octets < 2 ^ 40 → length h ≡ 9
    → fault_in_front state (h ++ rest) ≡ first_failing (frame_checks state h ++ behind_header state h rest)
from_header state h rest few nine =
    let octets = h ++ rest in
    let count : length (h ++ rest) ≡ 9 + length rest = omega (arith, length-append h rest) in
    let size : frame_size (h ++ rest) ≡ 9 + length_at h = frame_size_front h rest nine in
    behind_the_first state (h ++ rest) few (omega (arith, count))
    ∙ ap (λ (letter : ℕ). first_failing (checks_of state letter (length_at octets) (ltb (length octets) (frame_size octets)) (record_in octets))) (letter_front h rest nine)
    ∙ ap (λ (len : ℕ). first_failing (checks_of state (letter_at h) len (ltb (length octets) (frame_size octets)) (record_in octets))) (length_front h rest nine)
    ∙ ap (λ (n : ℕ). first_failing (checks_of state (letter_at h) (length_at h) (ltb n (frame_size octets)) (record_in octets))) count
    ∙ ap (λ (n : ℕ). first_failing (checks_of state (letter_at h) (length_at h) (ltb (9 + length rest) n) (record_in octets))) size

pub faulty_header : (state : FeedState) (h rest : List ℕ) (w : FeedWhy) → state.octets < 2 ^ 40 → length h ≡ 9 → first_failing (frame_checks state h) ≡ Some w → fault_in_front state (h ++ rest) ≡ Some w
faulty_header state h rest w few nine faulty = from_header state h rest few nine ∙ fails-append (frame_checks state h) (behind_header state h rest) w faulty

pub short_body : (state : FeedState) (h rest : List ℕ) → state.octets < 2 ^ 40 → length h ≡ 9 → first_failing (frame_checks state h) ≡ None → length rest < length_at h → fault_in_front state (h ++ rest) ≡ Some why.Truncated
short_body state h rest few nine passed lt =
    let short : ltb (9 + length rest) (9 + length_at h) ≡ true = lt-ltb _ _ (omega arith) in
    from_header state h rest few nine ∙ passes-append (frame_checks state h) (behind_header state h rest) passed
    ∙ ap (λ (b : Bool). first_failing ((b, why.Truncated) ∷ body_checks state (record_in (h ++ rest)))) short

-- the record that a header and a body are
abbrev pub record_of : List ℕ → List ℕ → FeedRecord
record_of h body = record { kind = kind_in h; source = source_at h; body = body }

abbrev made_of : ℕ → ℕ → List ℕ → FeedRecord
made_of letter source body = record { kind = unwrap_or (kind_of letter) kinds.Finish; source = source; body = body }

pub record_front : (h body rest : List ℕ) → length h ≡ 9 → length body ≡ length_at h → record_in (h ++ (body ++ rest)) ≡ record_of h body
record_front h body rest nine len =
    let octets = h ++ (body ++ rest) in
    let behind : drop 9 (h ++ (body ++ rest)) ≡ body ++ rest = drop_at h (body ++ rest) 9 nine in
    ap (λ (letter : ℕ). made_of letter (source_at octets) (body_at octets)) (letter_front h (body ++ rest) nine)
    ∙ ap (λ (source : ℕ). made_of (letter_at h) source (body_at octets)) (source_front h (body ++ rest) nine)
    ∙ ap (λ (n : ℕ). made_of (letter_at h) (source_at h) (take n (drop 9 octets))) (length_front h (body ++ rest) nine)
    ∙ ap (λ (xs : List ℕ). made_of (letter_at h) (source_at h) (take (length_at h) xs)) behind
    ∙ ap (made_of (letter_at h) (source_at h)) (take_at body rest (length_at h) len)

pub whole : (state : FeedState) (h body rest : List ℕ) → state.octets < 2 ^ 40 → length h ≡ 9 → first_failing (frame_checks state h) ≡ None → length body ≡ length_at h
    → fault_in_front state (h ++ (body ++ rest)) ≡ first_failing (body_checks state (record_of h body))
whole state h body rest few nine passed len =
    let enough : ltb (9 + length (body ++ rest)) (9 + length_at h) ≡ false = le-ltb _ _ (omega (arith, length-append body rest)) in
    from_header state h (body ++ rest) few nine ∙ passes-append (frame_checks state h) (behind_header state h (body ++ rest)) passed
    ∙ ap (λ (b : Bool). first_failing ((b, why.Truncated) ∷ body_checks state (record_in (h ++ (body ++ rest))))) enough
    ∙ ap (λ (item : FeedRecord). first_failing (body_checks state item)) (record_front h body rest nine len)

-- ---- records

chosen_by : (b : Bool) (letter n : ℕ) (k kind : Kind) (rest : Option Kind) → eqb letter n ≡ b → letter_of k ≡ n → cond b (Some k) rest ≡ Some kind → (rest ≡ Some kind → letter_of kind ≡ letter) → letter_of kind ≡ letter
chosen_by true letter n k kind rest same row e next = ap letter_of (sym (same_Some k kind e)) ∙ row ∙ sym (eqb-true letter n same)
chosen_by false letter n k kind rest other row e next = next e

chosen : (letter n : ℕ) (k kind : Kind) (rest : Option Kind) → letter_of k ≡ n → cond (eqb letter n) (Some k) rest ≡ Some kind → (rest ≡ Some kind → letter_of kind ≡ letter) → letter_of kind ≡ letter
chosen letter n k kind rest row e next = chosen_by (eqb letter n) letter n k kind rest refl row e next

-- a letter of the table is its kind's
letter_of-kind_of : (letter : ℕ) (kind : Kind) → kind_of letter ≡ Some kind → letter_of kind ≡ letter
unfolding kind_of
letter_of-kind_of letter kind e =
    chosen letter 67 kinds.Roster kind _ refl e (λ e. chosen letter 69 kinds.Ready kind _ refl e (λ e. chosen letter 85 kinds.Raw kind _ refl e (λ e.
    chosen letter 66 kinds.Octets kind _ refl e (λ e. chosen letter 88 kinds.Closed kind _ refl e (λ e. chosen letter 76 kinds.Links kind _ refl e (λ e.
    chosen letter 84 kinds.Time kind _ refl e (λ e. chosen letter 87 kinds.Slice kind _ refl e (λ e. chosen letter 68 kinds.Drain kind _ refl e (λ e.
    chosen letter 90 kinds.Finish kind _ refl e (λ e. absurd (none-some kind e)))))))))))

pub kind_of-letter_of : (kind : Kind) → kind_of (letter_of kind) ≡ Some kind
unfolding kind_of
kind_of-letter_of kinds.Roster = refl
kind_of-letter_of kinds.Ready = refl
kind_of-letter_of kinds.Raw = refl
kind_of-letter_of kinds.Octets = refl
kind_of-letter_of kinds.Closed = refl
kind_of-letter_of kinds.Links = refl
kind_of-letter_of kinds.Time = refl
kind_of-letter_of kinds.Slice = refl
kind_of-letter_of kinds.Drain = refl
kind_of-letter_of kinds.Finish = refl

-- the nine octets before a body
abbrev pub header_octets : FeedRecord → List ℕ
header_octets item = letter_of item.kind ∷ to_be_bytes w32 item.source ++ to_be_bytes w32 (length item.body)

abbrev pub IsBytes : List ℕ → Type 0
IsBytes bytes = (i : ℕ) → get_or bytes i 0 < 256

IsBytes-drop : (n : ℕ) (bytes : List ℕ) → IsBytes bytes → IsBytes (drop n bytes)
IsBytes-drop n bytes h i = rw get_or-drop (h (n + i))

IsBytes-take : (n : ℕ) (bytes : List ℕ) → IsBytes bytes → IsBytes (take n bytes)
IsBytes-take n bytes h i =
    elim (cases_lt i n) [
      | inl lt ↦ rw (get_or-take n bytes i 0 lt) (h i)
      | inr le ↦ rw (get_or_past (take n bytes) i 0 (omega (arith, length-take n bytes))) (omega arith)
    ]

three_parts : (h : List ℕ) → length h ≡ 9 → h ≡ take 1 h ++ (take 4 (drop 1 h) ++ take 4 (drop 5 h))
three_parts h nine =
    let last : take 4 (drop 5 h) ≡ drop 5 h = take_all 4 (drop 5 h) (omega (arith, length-drop 5 h)) in
    let behind : drop 4 (drop 1 h) ≡ drop 5 h = drop-drop 4 1 h in
    sym (take-append-drop 1 h)
    ∙ ap (λ (xs : List ℕ). take 1 h ++ xs) (sym (take-append-drop 4 (drop 1 h)) ∙ ap (λ (xs : List ℕ). take 4 (drop 1 h) ++ xs) (behind ∙ sym last))

-- nine octets with their values are those of the record
pub header_is : (h : List ℕ) (item : FeedRecord) → length h ≡ 9 → ((i : ℕ) → get_or h i 0 < 256) → kind_of (letter_at h) ≡ Some item.kind → item.source ≡ source_at h → length item.body ≡ length_at h → h ≡ header_octets item
header_is h item nine fits kind source len =
    let letter : take 1 h ≡ letter_of item.kind ∷ [] = take_more h 0 0 (omega arith) ∙ ap (λ (n : ℕ). n ∷ []) (sym (letter_of-kind_of (letter_at h) item.kind kind)) in
    let front : take 4 (drop 1 h) ≡ to_be_bytes w32 item.source =
    sym (be_bytes_4 (take 4 (drop 1 h)) item.source (omega (arith, length-take 4 (drop 1 h), length-drop 1 h)) (IsBytes-take 4 (drop 1 h) (IsBytes-drop 1 h fits)) source) in
    let behind : take 4 (drop 5 h) ≡ to_be_bytes w32 (length item.body) =
    sym (be_bytes_4 (take 4 (drop 5 h)) (length item.body) (omega (arith, length-take 4 (drop 5 h), length-drop 5 h)) (IsBytes-take 4 (drop 5 h) (IsBytes-drop 5 h fits)) len) in
    three_parts h nine
    ∙ ap (λ (xs : List ℕ). xs ++ (take 4 (drop 1 h) ++ take 4 (drop 5 h))) letter
    ∙ ap (λ (xs : List ℕ). letter_of item.kind ∷ (xs ++ take 4 (drop 5 h))) front
    ∙ ap (λ (xs : List ℕ). letter_of item.kind ∷ (to_be_bytes w32 item.source ++ xs)) behind

pub source_bound : (h : List ℕ) → IsBytes h → source_at h < 2 ^ 32
source_bound h fits =
    let each = IsBytes-take 4 (drop 1 h) (IsBytes-drop 1 h fits) in
    omega (arith, each 0, each 1, each 2, each 3)
