-- When something waits in front of the octets that a cutter holds.
use Rattle.std.proofs.Common.{◌≡◌, ℕ, ◌<◌, ◌≤◌, ◌⊎◌, inl, inr, ⊎_elim, Bool, true, false, leb, leb-true, leb-false, le-leb, List, length, Some, None, refl, sym, ◌∙◌}
use Rattle.std.proofs.lemmas.Bool.{lt-leb, false≢true}
use Rattle.std.proofs.lemmas.Option.{none-some}
use Rattle.rcp_model.specs.Messages.{FaultOf, header_fault, length_field, message_size}
use Rattle.rcp_model.specs.Sessions.{fault_in_front}
use Rattle.rcp_model.proofs.ReadingLemmas.{message_size-from, message_size-None}
use Rattle.bgp_msg.specs.Cutting.{is_waiting}

-- two numbers one way or the other

compared_as : (a n : ℕ) (b : Bool) → leb a n ≡ b → (n < a) ⊎ (a ≤ n)
compared_as a n true e = inr (leb-true a n e)
compared_as a n false e = inl (leb-false a n e)

pub compared : (a n : ℕ) → (n < a) ⊎ (a ≤ n)
compared a n = compared_as a n (leb a n) refl

module _ (octets : List ℕ) where
  -- ---- the fault that waits

  pub fault_in_front-short : length octets < 19 → fault_in_front octets ≡ None
  fault_in_front-short short = let e : leb 19 (length octets) ≡ false = lt-leb 19 (length octets) short in rw e refl

  pub fault_in_front-long : 19 ≤ length octets → fault_in_front octets ≡ header_fault octets
  fault_in_front-long long = let e : leb 19 (length octets) ≡ true = le-leb 19 (length octets) long in rw e refl

  -- ---- whether something waits

  pub waits_not : message_size octets ≡ None → fault_in_front octets ≡ None → is_waiting octets ≡ false
  waits_not size none = rw (size, none) refl

  -- less than a header
  pub is_waiting-short : length octets < 19 → is_waiting octets ≡ false
  is_waiting-short short = waits_not (message_size-None octets (inl short)) (fault_in_front-short short)

  module _ (long : 19 ≤ length octets) where
    -- a faulty header
    pub is_waiting-faulty : (f : FaultOf) → header_fault octets ≡ Some f → is_waiting octets ≡ true
    is_waiting-faulty f e =
        let size : message_size octets ≡ None = message_size-None octets (inr (inl (λ none. none-some f (sym none ∙ e)))) in
        let waits : fault_in_front octets ≡ Some f = fault_in_front-long long ∙ e in
        rw (size, waits) refl

    module _ (faultless : header_fault octets ≡ None) where
      -- less than the message
      pub is_waiting-part : length octets < length_field octets → is_waiting octets ≡ false
      is_waiting-part part = waits_not (message_size-None octets (inr (inr (faultless, part)))) (fault_in_front-long long ∙ faultless)

      -- a whole message
      pub is_waiting-whole : length_field octets ≤ length octets → is_waiting octets ≡ true
      is_waiting-whole whole = let size = message_size-from octets long faultless whole in rw size refl

  -- what waits has a header
  pub waits-long : is_waiting octets ≡ true → 19 ≤ length octets
  waits-long e = ⊎_elim (λ (short : length octets < 19). absurd (false≢true (sym (is_waiting-short short) ∙ e))) (λ (long : 19 ≤ length octets). long) (compared 19 (length octets))
