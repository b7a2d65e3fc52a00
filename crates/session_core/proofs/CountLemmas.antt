-- Messages are counted one by one.
use Rattle.std.proofs.Common.{◌≡◌, ℕ, suc, ◌+◌, ◌-◌, ◌≤◌, Bool, true, false, List, [], ◌∷◌, ◌++◌, length, take, drop, Some, None, inl, inr, refl, sym, ap, ◌∙◌, arith}
use Rattle.std.proofs.lemmas.Bool.{cases_Bool}
use Rattle.std.proofs.lemmas.List.{take-append-drop, length-take-le}
use Rattle.rcp_base.proofs.CutLemmas.{cut-stop}
use Rattle.rcp_base.specs.Roster.{RosterOf}
use Rattle.rcp_model.specs.Messages.{message_size, messages_in}
use Rattle.rcp_model.specs.Sessions.{Phase, OpenSent, Claiming, OpenConfirm, Established, Closed, is_closed, reads, handle, handle_all}
use Rattle.rcp_model.proofs.ReadingLemmas.{message_size-Some, IsMessage-seen, messages_in-cons}
use Rattle.session_core.specs.declared.state.Claim.{Claim}
use Rattle.session_core.specs.declared.state.State.{State}
use Rattle.session_core.specs.declared.state.State.TheVariants as state
use Rattle.session_core.specs.Shown.{phase_of}
use Rattle.session_core.specs.Counts.{handled_in, confirmed}

module _ (roster : RosterOf) (now : ℕ) where
  -- the messages of a list that are handled
  abbrev count : List (List ℕ) → Phase → ℕ
  count messages phase = length messages - length (handle_all roster now messages phase).unread

  unread-short : (messages : List (List ℕ)) (phase : Phase) → length (handle_all roster now messages phase).unread ≤ length messages
  unfolding handle_all
  unread-short [] phase = omega arith
  unread-short (message ∷ messages) phase = elim (cases_Bool (reads phase)) [
    | inl r ↦ rw (r) (omega (arith, unread-short messages (handle roster now message phase).phase))
    | inr r ↦ rw (r) (omega arith)
  ]

  count-cons : (message : List ℕ) (messages : List (List ℕ)) (phase : Phase) → reads phase ≡ true
      → count (message ∷ messages) phase ≡ 1 + count messages (handle roster now message phase).phase
  unfolding handle_all
  count-cons message messages phase is = rw (is) (omega (arith, unread-short messages (handle roster now message phase).phase))

  count-none : (messages : List (List ℕ)) (phase : Phase) → reads phase ≡ false → count messages phase ≡ 0
  unfolding handle_all
  count-none [] phase is = omega arith
  count-none (message ∷ messages) phase is = rw (is) (omega arith)

  -- a message is taken off the front
  pub handled-front : (octets : List ℕ) (n : ℕ) (phase : Phase) → message_size octets ≡ Some n → reads phase ≡ true
      → handled_in roster now octets phase ≡ 1 + handled_in roster now (drop n octets) (handle roster now (take n octets) phase).phase
  unfolding handled_in
  handled-front octets n phase front reading =
      let whole : take n octets ++ drop n octets ≡ octets = take-append-drop n octets in
      let told : message_size (take n octets ++ drop n octets) ≡ Some (length (take n octets)) =
      ap message_size whole ∙ front ∙ ap Some (sym (length-take-le n octets (message_size-Some octets n front).within)) in
      let messages : messages_in octets ≡ take n octets ∷ messages_in (drop n octets) =
      ap messages_in (sym whole) ∙ (messages_in-cons (take n octets) (drop n octets) (IsMessage-seen (take n octets) (drop n octets) told)).0 in
      ap (λ (ms : List (List ℕ)). count ms phase) messages ∙ count-cons (take n octets) (messages_in (drop n octets)) phase reading

  -- nothing whole is left
  pub handled-stop : (octets : List ℕ) (phase : Phase) → message_size octets ≡ None → handled_in roster now octets phase ≡ 0
  unfolding handled_in
  handled-stop octets phase stop = ap (λ (ms : List (List ℕ)). count ms phase) (ap (λ (r : List (List ℕ) × List ℕ). r.0) (cut-stop message_size octets stop)) ∙ nothing where
    nothing : count [] phase ≡ 0
    nothing = omega arith

  -- the session reads nothing
  pub handled-none : (octets : List ℕ) (phase : Phase) → reads phase ≡ false → handled_in roster now octets phase ≡ 0
  unfolding handled_in
  handled-none octets phase stopped = count-none (messages_in octets) phase stopped

-- a closed session reads nothing
pub closed-reads : (phase : Phase) → is_closed phase ≡ true → reads phase ≡ false
closed-reads (OpenSent since) closed = absurd (cc)
closed-reads (Claiming since slot terms) closed = refl
closed-reads (OpenConfirm peering) closed = absurd (cc)
closed-reads (Established peering) closed = absurd (cc)
closed-reads Closed closed = refl

-- no octets are read of those that were kept where no claim is answered, or the seat is out

pub out-handles : (roster : RosterOf) (now : ℕ) (kept : List ℕ) → handled_in roster now kept Closed ≡ 0
out-handles roster now kept = handled-none roster now kept Closed refl

pub closed-handles : (roster : RosterOf) (free : Bool) (now : ℕ) (kept : List ℕ) (phase : Phase) → is_closed phase ≡ true → handled_in roster now kept (confirmed free now phase) ≡ 0
closed-handles roster true now kept Closed closed = out-handles roster now kept
closed-handles roster false now kept Closed closed = out-handles roster now kept
closed-handles roster free now kept (OpenSent since) closed = absurd (cc)
closed-handles roster free now kept (Claiming since slot terms) closed = absurd (cc)
closed-handles roster free now kept (OpenConfirm peering) closed = absurd (cc)
closed-handles roster free now kept (Established peering) closed = absurd (cc)

pub unseated-handles : (roster : RosterOf) (free : Bool) (now : ℕ) (kept : List ℕ) (phase : Phase) → free ≡ false → handled_in roster now kept (confirmed free now phase) ≡ 0
unseated-handles roster free now kept phase out = ap (λ b. handled_in roster now kept (confirmed b now phase)) out ∙ by_phase phase where
  by_phase : (phase : Phase) → handled_in roster now kept (confirmed false now phase) ≡ 0
  by_phase (OpenSent since) = out-handles roster now kept
  by_phase (Claiming since slot terms) = out-handles roster now kept
  by_phase (OpenConfirm peering) = out-handles roster now kept
  by_phase (Established peering) = out-handles roster now kept
  by_phase Closed = out-handles roster now kept

pub unclaimed-handles : (roster : RosterOf) (free : Bool) (now : ℕ) (kept : List ℕ) (s : State) (phase : Phase) → phase_of s ≡ phase → ((x : Claim) → s ≡ state.Claiming x → ⊥)
    → handled_in roster now kept (confirmed free now phase) ≡ 0
unclaimed-handles roster free now kept s phase is other = ap (λ (p : Phase). handled_in roster now kept (confirmed free now p)) (sym is) ∙ by_state free s other where
  by_state : (free : Bool) (s : State) → ((x : Claim) → s ≡ state.Claiming x → ⊥) → handled_in roster now kept (confirmed free now (phase_of s)) ≡ 0
  by_state true (state.OpenSent since) other = out-handles roster now kept
  by_state false (state.OpenSent since) other = out-handles roster now kept
  by_state true (state.OpenConfirm peering) other = out-handles roster now kept
  by_state false (state.OpenConfirm peering) other = out-handles roster now kept
  by_state true (state.Established peering) other = out-handles roster now kept
  by_state false (state.Established peering) other = out-handles roster now kept
  by_state true state.Closed other = out-handles roster now kept
  by_state false state.Closed other = out-handles roster now kept
  by_state free (state.Claiming claim) other = absurd (other claim refl)
