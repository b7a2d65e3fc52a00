-- Messages: that a header is read from its octets alone, and that octets have one reading.
use Rattle.std.proofs.Common.{◌≡◌, ℕ, ◌+◌, ◌<◌, ◌≤◌, Bool, true, false, not, cond, ◌&&◌, inl, inr, ⊎_elim, List, [], ◌∷◌, ◌++◌, length, take, drop, Option, Some, None, refl, sym, ap, ◌∙◌, arith, ltb, leb, length-append, length-drop, append_assoc, append-nil, le-leb, le-ltb, leb-true, leb-false}
use Rattle.std.specs.Prelude.{is_none}
use Rattle.std.specs.List.{concat, AllByRecursion}
use Rattle.std.specs.Int.{w16, to_be_bytes, from_be_bytes}
use Rattle.std.proofs.lemmas.Bool.{and_parts, or_parts, or_from, ltb-false}
use Rattle.std.proofs.lemmas.List.{take-append-le, drop-append-le, get_or_append_left}
use Rattle.std.proofs.lemmas.Nat.{from_be_bytes-to_be_bytes_2}
use Rattle.std.proofs.lemmas.Option.{none-some, cond_some}
use Rattle.rcp_base.specs.Cut.{cut}
use Rattle.rcp_model.specs.Messages.{FaultOf, fault, marker, has_marker, length_octets, length_field, type_field, is_outside, least_length, greatest_length, header_fault, message_size, IsMessage, IsRest, IsReading, messages_in, rest_of, message_octets}
use Rattle.rcp_base.proofs.CutLemmas.{IsSize, IsLocal, IsFront, cut-stop, cut-whole, cut-pieces, cut-rest, cut-append, cut-concat, cut-later}
use Rattle.rcp_model.proofs.FaultLemmas.{HasPassed, all_passed, first_failing-None, is_none-true, is_none-false}

-- ---- the header stands in the first 19 octets

length_octets-append : (octets more : List ℕ) → 19 ≤ length octets → length_octets (octets ++ more) ≡ length_octets octets
length_octets-append octets more long =
    ap (take 2) (drop-append-le 16 octets more (omega arith)) ∙ take-append-le 2 (drop 16 octets) more (omega (arith, length-drop 16 octets))

pub length_field-append : (octets more : List ℕ) → 19 ≤ length octets → length_field (octets ++ more) ≡ length_field octets
length_field-append octets more long = ap (from_be_bytes w16) (length_octets-append octets more long)

pub type_field-append : (octets more : List ℕ) → 19 ≤ length octets → type_field (octets ++ more) ≡ type_field octets
type_field-append octets more long = get_or_append_left octets more 0 18 (omega arith)

pub header_fault-append : (octets more : List ℕ) → 19 ≤ length octets → header_fault (octets ++ more) ≡ header_fault octets
unfolding header_fault
header_fault-append octets more long =
    let first : take 16 (octets ++ more) ≡ take 16 octets = take-append-le 16 octets more (omega arith) in
    rw (first, length_octets-append octets more long, type_field-append octets more long) refl

-- the checks of a header, in their order
abbrev header_checks : List ℕ → List (Bool × FaultOf)
header_checks octets =
    (not (has_marker octets), fault 1 1 [])
    ∷ (is_outside 19 4096 (length_field octets), fault 1 2 (length_octets octets))
    ∷ (is_outside 1 4 (type_field octets), fault 1 3 (type_field octets ∷ []))
    ∷ (is_outside (least_length (type_field octets)) (greatest_length (type_field octets)) (length_field octets), fault 1 2 (length_octets octets))
    ∷ []

pub header_passes : (octets : List ℕ) → header_fault octets ≡ None → AllByRecursion HasPassed (header_checks octets)
unfolding header_fault
header_passes octets e = all_passed (header_checks octets) e

pub header_fault-None : (octets : List ℕ) → AllByRecursion HasPassed (header_checks octets) → header_fault octets ≡ None
unfolding header_fault
header_fault-None octets each = first_failing-None (header_checks octets) each

-- a header without a fault has a length of 19 to 4096
pub faultless_length : (octets : List ℕ) → header_fault octets ≡ None → (19 ≤ length_field octets) × (length_field octets ≤ 4096)
faultless_length octets e =
    let bounds = or_parts (ltb (length_field octets) 19) (ltb 4096 (length_field octets)) (header_passes octets e).1.0 in
    (ltb-false _ _ bounds.0, ltb-false _ _ bounds.1)

-- ---- the length in a header

pub message_size-from : (octets : List ℕ) → 19 ≤ length octets → header_fault octets ≡ None → length_field octets ≤ length octets → message_size octets ≡ Some (length_field octets)
unfolding message_size
message_size-from octets long faultless within =
    let header : leb 19 (length octets) ≡ true = le-leb _ _ long in
    let all : leb (length_field octets) (length octets) ≡ true = le-leb _ _ within in
    rw (header, faultless, all) refl

-- where a header gives a length, it is there and faultless, and so is all the message
pub record HasMessage (octets : List ℕ) (n : ℕ) : Type 0 where
  pub has_header : 19 ≤ length octets
  pub faultless : header_fault octets ≡ None
  pub is_length : n ≡ length_field octets
  pub within : n ≤ length octets

pub message_size-Some : (octets : List ℕ) (n : ℕ) → message_size octets ≡ Some n → HasMessage octets n
unfolding message_size
message_size-Some octets n e =
    let chosen = cond_some _ (length_field octets) n e in
    let tests = and_parts (leb 19 (length octets) && is_none (header_fault octets)) (leb (length_field octets) (length octets)) chosen.0 in
    let front = and_parts (leb 19 (length octets)) (is_none (header_fault octets)) tests.0 in
    record {
      has_header = leb-true _ _ front.0;
      faultless = is_none-true (header_fault octets) front.1;
      is_length = sym chosen.1;
      within = omega (arith, chosen.1, leb-true _ _ tests.1);
    }

pub IsSize-message_size : IsSize message_size
IsSize-message_size = record {
  positive = λ octets n e. let there = message_size-Some octets n e in omega (arith, faultless_length octets there.faultless);
  within = λ octets n e. (message_size-Some octets n e).within;
}

-- ---- whole messages are what the cutter takes off the front

pub IsMessage-seen : (message more : List ℕ) → message_size (message ++ more) ≡ Some (length message) → IsMessage message
IsMessage-seen message more e =
    let there = message_size-Some (message ++ more) (length message) e in
    let long : 19 ≤ length message = omega (arith, there.is_length, faultless_length (message ++ more) there.faultless) in
    record {
      has_header = long;
      faultless = sym (header_fault-append message more long) ∙ there.faultless;
      exact = there.is_length ∙ length_field-append message more long;
    }

pub IsFront-message : (message : List ℕ) → IsMessage message → IsFront message_size message
IsFront-message message whole = record {
  seen = λ more.
      let long : 19 ≤ length message = whole.has_header in
      let same : length_field (message ++ more) ≡ length message = length_field-append message more long ∙ sym whole.exact in
      message_size-from (message ++ more) (omega (arith, length-append message more)) (header_fault-append message more long ∙ whole.faultless) (omega (arith, same, length-append message more)) ∙ ap Some same;
}

pub IsLocal-message_size : IsLocal message_size
IsLocal-message_size = record { anyway = λ piece more other e. (IsFront-message piece (IsMessage-seen piece more e)).seen other }

all_messages : (pieces : List (List ℕ)) → AllByRecursion (λ piece. (more : List ℕ) × (message_size (piece ++ more) ≡ Some (length piece))) pieces → AllByRecursion IsMessage pieces
all_messages [] each = tt
all_messages (piece ∷ pieces) each = (IsMessage-seen piece each.0.0 each.0.1, all_messages pieces each.1)

pub all_fronts : (messages : List (List ℕ)) → AllByRecursion IsMessage messages → AllByRecursion (IsFront message_size) messages
all_fronts [] each = tt
all_fronts (message ∷ messages) each = (IsFront-message message each.0, all_fronts messages each.1)

-- ---- a rest is that in front of which no whole message stands

rest_from : (octets : List ℕ) (long whole within : Bool) → leb 19 (length octets) ≡ long → is_none (header_fault octets) ≡ whole → leb (length_field octets) (length octets) ≡ within
    → (long && whole && within) ≡ false → IsRest octets
rest_from octets false whole within e f g none = inl (leb-false _ _ e)
rest_from octets true false within e f g none = inr (inl (is_none-false (header_fault octets) f))
rest_from octets true true false e f g none = inr (inr (is_none-true (header_fault octets) f, leb-false _ _ g))
rest_from octets true true true e f g none = absurd (cc)

no_message : (octets : List ℕ) (t : Bool) (n : ℕ) → cond t (Some n) None ≡ None → t ≡ false
no_message octets true n e = absurd (none-some n (sym e))
no_message octets false n e = refl

pub IsRest-from : (octets : List ℕ) → message_size octets ≡ None → IsRest octets
unfolding message_size
IsRest-from octets e = rest_from octets _ _ _ refl refl refl (no_message octets _ (length_field octets) e)

pub message_size-None : (octets : List ℕ) → IsRest octets → message_size octets ≡ None
message_size-None octets rest = not_some (message_size octets) refl where
  refuted : (n : ℕ) → HasMessage octets n → IsRest octets → ⊥
  refuted n there r = ⊎_elim (λ (short : length octets < 19). omega (arith, there.has_header)) (λ s. ⊎_elim (λ faulty. faulty there.faultless) (λ part. omega (arith, there.is_length, there.within, part.1)) s) r

  not_some : (o : Option ℕ) → message_size octets ≡ o → message_size octets ≡ None
  not_some None e = e
  not_some (Some n) e = absurd (refuted n (message_size-Some octets n e) rest)

-- ---- the one reading

pub IsReading-cut : (octets : List ℕ) → IsReading octets (messages_in octets) (rest_of octets)
IsReading-cut octets = record {
  whole = cut-whole message_size IsSize-message_size octets;
  each = all_messages (messages_in octets) (cut-pieces message_size IsSize-message_size octets);
  partial = ⊎_elim (λ none. let short : length (rest_of octets) < 19 = rw none (omega arith) in inl short) (λ stops. IsRest-from (rest_of octets) stops) (cut-rest message_size IsSize-message_size octets);
}

cut-reading : (octets : List ℕ) (messages : List (List ℕ)) (rest : List ℕ) → IsReading octets messages rest → cut message_size octets ≡ (messages, rest)
cut-reading octets messages rest reading =
    let stops : cut message_size rest ≡ ([], rest) = cut-stop message_size rest (message_size-None rest reading.partial) in
    ap (cut message_size) reading.whole
    ∙ cut-concat message_size IsSize-message_size messages rest (all_fronts messages reading.each)
    ∙ rw (stops, append-nil messages) refl

pub reading_is_one : (octets : List ℕ) (messages : List (List ℕ)) (rest : List ℕ) → IsReading octets messages rest → (messages ≡ messages_in octets) × (rest ≡ rest_of octets)
reading_is_one octets messages rest reading =
    let same = cut-reading octets messages rest reading in
    (sym (ap (λ (r : List (List ℕ) × List ℕ). r.0) same), sym (ap (λ (r : List (List ℕ) × List ℕ). r.1) same))

-- a whole message comes first, and then what follows it is read
pub messages_in-cons : (message more : List ℕ) → IsMessage message → (messages_in (message ++ more) ≡ message ∷ messages_in more) × (rest_of (message ++ more) ≡ rest_of more)
messages_in-cons message more whole =
    let long : 0 < length message = omega (arith, whole.has_header) in
    let step = cut-append message_size message more ((IsFront-message message whole).seen more) long in
    (ap (λ (r : List (List ℕ) × List ℕ). r.0) step, ap (λ (r : List (List ℕ) × List ℕ). r.1) step)

pub messages_in-concat : (messages : List (List ℕ)) (more : List ℕ) → AllByRecursion IsMessage messages
    → (messages_in (concat messages ++ more) ≡ messages ++ messages_in more) × (rest_of (concat messages ++ more) ≡ rest_of more)
messages_in-concat messages more each =
    let all = cut-concat message_size IsSize-message_size messages more (all_fronts messages each) in
    (ap (λ (r : List (List ℕ) × List ℕ). r.0) all, ap (λ (r : List (List ℕ) × List ℕ). r.1) all)

-- octets that come later change no message that is whole
pub messages_in-later : (octets later : List ℕ) → (messages_in (octets ++ later) ≡ messages_in octets ++ messages_in (rest_of octets ++ later)) × (rest_of (octets ++ later) ≡ rest_of (rest_of octets ++ later))
messages_in-later octets later =
    let all = cut-later message_size IsSize-message_size IsLocal-message_size octets later in
    (ap (λ (r : List (List ℕ) × List ℕ). r.0) all, ap (λ (r : List (List ℕ) × List ℕ). r.1) all)

-- ---- messages that are written

regrouped : (body : List ℕ) (kind : ℕ) → message_octets kind body ≡ marker ++ (to_be_bytes w16 (19 + length body) ++ kind ∷ body)
regrouped body kind = append_assoc marker (to_be_bytes w16 (19 + length body)) (kind ∷ body)

pub length-message_octets : (kind : ℕ) (body : List ℕ) → length (message_octets kind body) ≡ 19 + length body
length-message_octets kind body = omega arith

pub type_field-message_octets : (kind : ℕ) (body : List ℕ) → type_field (message_octets kind body) ≡ kind
type_field-message_octets kind body = refl

pub body-message_octets : (kind : ℕ) (body : List ℕ) → drop 19 (message_octets kind body) ≡ body
body-message_octets kind body = refl

pub length_field-message_octets : (kind : ℕ) (body : List ℕ) → 19 + length body < 65536 → length_field (message_octets kind body) ≡ 19 + length body
length_field-message_octets kind body fits = from_be_bytes-to_be_bytes_2 (19 + length body) fits

-- what is written with a type and a body of a length that the type may have is a whole message
pub IsMessage-message_octets : (kind : ℕ) (body : List ℕ) → 19 + length body ≤ 4096 → is_outside 1 4 kind ≡ false
    → is_outside (least_length kind) (greatest_length kind) (19 + length body) ≡ false → IsMessage (message_octets kind body)
IsMessage-message_octets kind body fits known bounds =
    let field : length_field (message_octets kind body) ≡ 19 + length body = length_field-message_octets kind body (omega arith) in
    let whole : is_outside 19 4096 (19 + length body) ≡ false = or_from (ltb (19 + length body) 19) (ltb 4096 (19 + length body)) (le-ltb (19 + length body) 19 (omega arith)) (le-ltb 4096 (19 + length body) (omega arith)) in
    record {
      has_header = omega (arith, length-message_octets kind body);
      faultless = header_fault-None (message_octets kind body) (refl, (ap (is_outside 19 4096) field ∙ whole, (known, (ap (is_outside (least_length kind) (greatest_length kind)) field ∙ bounds, tt))));
      exact = length-message_octets kind body ∙ sym field;
    }
