-- What stands in front of octets: nothing yet, a faulty header, or a whole message.
use Rattle.std.proofs.Common.{◌≡◌, ℕ, ◌+◌, ◌<◌, ◌≤◌, inl, inr, List, ◌∷◌, ◌++◌, length, take, drop, Some, None, sym, ap, ◌∙◌, arith, length-drop, length-take-le, refl}
use Rattle.std.specs.Int.{w16, to_be_bytes}
use Rattle.std.proofs.Math.Seq.{drop-cons}
use Rattle.std.proofs.lemmas.Bool.{not-false}
use Rattle.std.proofs.lemmas.List.{take-append-drop, take-append-le, drop-append-le, drop-drop}
use Rattle.std.proofs.lemmas.Option.{none-some}
use Rattle.std.proofs.lemmas.Slice.Eq.{bytes_eq-Decides}
use Rattle.rcp_model.specs.Messages.{FaultOf, marker, has_marker, length_octets, length_field, type_field, header_fault, message_size, message_octets}
use Rattle.rcp_model.specs.Sessions.{fault_in_front}
use Rattle.rcp_model.proofs.ReadingLemmas.{type_field-append, header_fault-append, header_passes, message_size-from, message_size-None}
use Rattle.bgp_msg.specs.Cutting.{IsInFront}
use Rattle.bgp_msg.specs.HeaderFields.{IsHeader}
use Rattle.bgp_msg.proofs.Holding.{fault_in_front-short, fault_in_front-long}

-- shorter than a header
pub nothing-short : (octets : List ℕ) → length octets < 19 → (message_size octets ≡ None) × (fault_in_front octets ≡ None)
nothing-short octets short = (message_size-None octets (inl short), fault_in_front-short octets short)

-- shorter than its header says
pub nothing-part : (octets : List ℕ) → 19 ≤ length octets → header_fault octets ≡ None → length octets < length_field octets
    → (message_size octets ≡ None) × (fault_in_front octets ≡ None)
nothing-part octets long faultless part = (message_size-None octets (inr (inr (faultless, part))), fault_in_front-long octets long ∙ faultless)

-- a faulty header
pub faulty : (octets : List ℕ) (why : FaultOf) → 19 ≤ length octets → header_fault octets ≡ Some why
    → (message_size octets ≡ None) × (fault_in_front octets ≡ Some why)
faulty octets why long e = (message_size-None octets (inr (inl (λ none. none-some why (sym none ∙ e)))), fault_in_front-long octets long ∙ e)

-- ---- a whole message

-- the octets that a header counts, and those of them after the header
pub record IsCutOff (octets : List ℕ) (kind len : ℕ) (message body : List ℕ) : Type 0 where
  pub read : IsHeader octets kind len
  pub least : 19 ≤ len
  pub there : len ≤ length octets
  pub message_is : message ≡ take len octets
  pub body_is : body ≡ drop 19 message

module _ (octets : List ℕ) (faultless : header_fault octets ≡ None) (kind len : ℕ) (message body : List ℕ) (cut : IsCutOff octets kind len message body) where
  long_is : length message ≡ len
  long_is = ap length cut.message_is ∙ length-take-le len octets cut.there

  long : 19 ≤ length message
  long = omega (arith, long_is, cut.least)

  whole : octets ≡ message ++ drop len octets
  whole = sym (take-append-drop len octets) ∙ ap (λ (m : List ℕ). m ++ drop len octets) (sym cut.message_is)

  kind_is : kind ≡ type_field message
  kind_is = cut.read.kind_is ∙ ap type_field whole ∙ type_field-append message (drop len octets) long

  spelled : to_be_bytes w16 len ≡ length_octets message
  spelled =
      cut.read.spelled
      ∙ ap length_octets whole
      ∙ ap (take 2) (drop-append-le 16 message (drop len octets) (omega (arith, long)))
      ∙ take-append-le 2 (drop 16 message) (drop len octets) (omega (arith, long, length-drop 16 message))

  marked : take 16 message ≡ marker
  marked =
      let same : header_fault message ≡ None = sym (header_fault-append message (drop len octets) long) ∙ ap header_fault (sym whole) ∙ faultless in
      (bytes_eq-Decides (take 16 message) marker).0 (not-false (has_marker message) (header_passes message same).0)

  -- the header's octets and the body's
  parts : message ≡ take 16 message ++ (length_octets message ++ (type_field message ∷ drop 19 message))
  parts =
      sym (take-append-drop 16 message)
      ∙ ap (λ (xs : List ℕ). take 16 message ++ xs)
      (
      sym (take-append-drop 2 (drop 16 message))
      ∙ ap (λ (xs : List ℕ). length_octets message ++ xs) (drop-drop 2 16 message ∙ drop-cons message 18 0 (omega (arith, long)))
      )

  pub body_len : len ≡ 19 + length body
  body_len = omega (arith, ap length cut.body_is, length-drop 19 message, long_is, cut.least)

  spelled_out : message ≡ message_octets kind (drop 19 message)
  spelled_out =
      let told : 19 + length (drop 19 message) ≡ len = omega (arith, length-drop 19 message, long_is, cut.least) in
      parts
      ∙ rw (marked, ← spelled, ← kind_is, told) refl

  pub IsInFront-cut : IsInFront octets kind body
  IsInFront-cut = record {
    size = message_size-from octets (omega (arith, cut.least, cut.there)) faultless (omega (arith, cut.read.len_is, cut.there)) ∙ ap Some (sym cut.read.len_is ∙ body_len);
    message = ap (λ (n : ℕ). take n octets) (sym body_len) ∙ sym cut.message_is ∙ spelled_out ∙ ap (message_octets kind) (sym cut.body_is);
  }
