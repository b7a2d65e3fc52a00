-- Octets read message by message run the course.
use Rattle.std.proofs.Common.{◌≡◌, ℕ, true, false, List, [], take, drop, Option, Some, None, refl, sym, ap, ◌∙◌}
use Rattle.rcp_base.specs.Roster.{RosterOf}
use Rattle.rcp_model.specs.Messages.{FaultOf, message_size}
use Rattle.rcp_model.specs.Sessions.{Phase, OpenSent, Claiming, OpenConfirm, Established, Closed, is_closed, reads, Doing, nothing, then_also, failed, handle, Course, fault_in_front, with_fault, course_of}
use Rattle.rcp_model.proofs.SessionLemmas.{preceded, preceded-twice, course-front, course-stop, course-claiming, course-closed, closed-is, then-nothing}
use Rattle.session_core.specs.declared.actions.Actions.{Actions}
use Rattle.session_core.specs.declared.state.State.{State}
use Rattle.session_core.specs.Shown.{phase_of, doing_of}
use Rattle.session_core.specs.Steps.{Takes, Runs}

module _ (roster : RosterOf) (now : ℕ) where
  -- what is done, and the course of what is left
  abbrev pub going : Actions → List ℕ → State → Course
  going actions octets state = preceded (doing_of actions) (course_of roster now octets (phase_of state))

  -- a message is taken off the front
  pub goes-on : (octets : List ℕ) (n : ℕ) (state next : State) (old new : Actions) → message_size octets ≡ Some n → reads (phase_of state) ≡ true
      → Takes (handle roster now (take n octets) (phase_of state)) old next new
      → going new (drop n octets) next ≡ going old octets state
  goes-on octets n state next old new front reading takes =
      let first = handle roster now (take n octets) (phase_of state) in
      ap (λ (d : Doing). preceded d (course_of roster now (drop n octets) (phase_of next))) takes.does
      ∙ ap (λ (p : Phase). preceded (then_also (doing_of old) first.does) (course_of roster now (drop n octets) p)) takes.phase
      ∙ sym (preceded-twice (doing_of old) first.does (course_of roster now (drop n octets) first.phase))
      ∙ ap (preceded (doing_of old)) (sym (course-front roster now octets n (phase_of state) front reading))

  faultless-stop : (octets : List ℕ) (phase : Phase) (found : Option FaultOf) → fault_in_front octets ≡ found → message_size octets ≡ None → reads phase ≡ true
      → course_of roster now octets phase ≡ with_fault octets found phase nothing
  faultless-stop octets (OpenSent since) found is stop reading = course-stop roster now octets (OpenSent since) stop ∙ ap (λ (f : Option FaultOf). with_fault octets f (OpenSent since) nothing) is
  faultless-stop octets (OpenConfirm peering) found is stop reading = course-stop roster now octets (OpenConfirm peering) stop ∙ ap (λ (f : Option FaultOf). with_fault octets f (OpenConfirm peering) nothing) is
  faultless-stop octets (Established peering) found is stop reading = course-stop roster now octets (Established peering) stop ∙ ap (λ (f : Option FaultOf). with_fault octets f (Established peering) nothing) is
  faultless-stop octets (Claiming since slot terms) found is stop reading = absurd (cc)
  faultless-stop octets Closed found is stop reading = absurd (cc)

  waits : (octets : List ℕ) (phase : Phase) → reads phase ≡ false → is_closed phase ≡ false → course_of roster now octets phase ≡ record { phase = phase; kept = octets; does = nothing }
  waits octets (Claiming since slot terms) stopped open_ = course-claiming roster now octets since slot terms
  waits octets Closed stopped open_ = absurd (cc)
  waits octets (OpenSent since) stopped open_ = absurd (cc)
  waits octets (OpenConfirm peering) stopped open_ = absurd (cc)
  waits octets (Established peering) stopped open_ = absurd (cc)

  module _ (octets : List ℕ) (taken : ℕ) (first state : State) (old new : Actions) (same : going new (drop taken octets) state ≡ going old octets first) where
    -- where this is the course of what is left, the course of all was run
    runs : (rest : Course) (gone : ℕ) (next : State) (newest : Actions) → course_of roster now (drop taken octets) (phase_of state) ≡ rest
        → phase_of next ≡ rest.phase → drop gone octets ≡ rest.kept → doing_of newest ≡ then_also (doing_of new) rest.does
        → Runs (course_of roster now octets (phase_of first)) old octets gone next newest
    runs rest gone next newest is phase kept does =
        let all : preceded (doing_of new) rest ≡ going old octets first = ap (preceded (doing_of new)) (sym is) ∙ same in
        record {
          phase = phase ∙ ap (λ (c : Course). c.phase) all;
          kept = kept ∙ ap (λ (c : Course). c.kept) all;
          does = does ∙ ap (λ (c : Course). c.does) all;
        }

    -- nothing whole is left
    pub runs-out : message_size (drop taken octets) ≡ None → fault_in_front (drop taken octets) ≡ None → reads (phase_of state) ≡ true
        → Runs (course_of roster now octets (phase_of first)) old octets taken state new
    runs-out stop none reading =
        runs (record { phase = phase_of state; kept = drop taken octets; does = nothing }) taken state new
        (faultless-stop (drop taken octets) (phase_of state) None none stop reading) refl refl (sym (then-nothing (doing_of new)))

    -- a header is faulty
    pub runs-into : (why : FaultOf) (gone : ℕ) (next : State) (newest : Actions) → message_size (drop taken octets) ≡ None → fault_in_front (drop taken octets) ≡ Some why → reads (phase_of state) ≡ true
        → phase_of next ≡ Closed → drop gone octets ≡ [] → doing_of newest ≡ then_also (doing_of new) (failed why).does
        → Runs (course_of roster now octets (phase_of first)) old octets gone next newest
    runs-into why gone next newest stop fault reading closed empty does =
        runs (with_fault (drop taken octets) (Some why) (phase_of state) nothing) gone next newest
        (faultless-stop (drop taken octets) (phase_of state) (Some why) fault stop reading) closed empty does

    -- the session is closed
    pub runs-closed : (gone : ℕ) → is_closed (phase_of state) ≡ true → drop gone octets ≡ [] → Runs (course_of roster now octets (phase_of first)) old octets gone state new
    runs-closed gone closed empty =
        runs (record { phase = Closed; kept = []; does = nothing }) gone state new
        (ap (course_of roster now (drop taken octets)) (closed-is (phase_of state) closed) ∙ course-closed roster now (drop taken octets))
        (closed-is (phase_of state) closed) empty (sym (then-nothing (doing_of new)))

    -- a claim waits
    pub runs-up : reads (phase_of state) ≡ false → is_closed (phase_of state) ≡ false → Runs (course_of roster now octets (phase_of first)) old octets taken state new
    runs-up stopped open_ =
        runs (record { phase = phase_of state; kept = drop taken octets; does = nothing }) taken state new
        (waits (drop taken octets) (phase_of state) stopped open_) refl refl (sym (then-nothing (doing_of new)))
