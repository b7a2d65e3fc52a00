use Rattle.std.proofs.Common.{◌≡◌, ◌+◌, List, [], ℕ, Option, None, Some, true, length, take, drop, refl, sym, ap, subst, ◌∙◌, arith, length-drop}
use Rattle.std.specs.Prelude.{MatchOption}
use Rattle.std.proofs.Math.Seq.{drop-length}
use Rattle.std.proofs.lemmas.List.{drop-drop}
use Rattle.rcp_model.specs.Messages.{message_size, message_octets}
use Rattle.rcp_base.specs.Roster.{RosterOf}
use Rattle.rcp_model.specs.Sessions.{Phase, fault_in_front, course_of, handle, reads}
use Rattle.session_core.specs.Counts.{handled_in}
use Rattle.session_core.proofs.CountLemmas.{handled-front, handled-stop, handled-none}
use Rattle.rcp_model.proofs.ReadingLemmas.{message_size-Some}
use Rattle.bgp_msg.specs.declared.framing.Message.{Message}
use Rattle.bgp_msg.specs.Cutting.{IsInFront}
use Rattle.path_attrs.specs.Refusals.{fault_in}
use Rattle.session_core.specs.declared.state.State.TheVariants as state
use Rattle.session_core.specs.Shown.{phase_of}
use Rattle.session_core.specs.Steps.{Takes, Runs}
use Rattle.session_core.proofs.RunLemmas.{going, goes-on, runs-out, runs-into, runs-closed, runs-up}
use Rattle.session_core.proofs.reading.read_on.Goals as goal
use Rattle.session_core.proofs.reading.read_on.Goals.{then-is_closed, else-is_closed}

-- what stands in front of octets
abbrev Stands : List ℕ → Option Message → Type 0
Stands octets found = MatchOption found
    ((message_size octets ≡ None) × (fault_in_front octets ≡ None))
    (λ message. IsInFront octets message.kind message.body.now)

-- a message more was handled
counted-on : (roster : RosterOf) (now : ℕ) (octets : List ℕ) (taken count handled : ℕ) (phase next : Phase) (all : ℕ) → message_size (drop taken octets) ≡ Some count → reads phase ≡ true
    → next ≡ (handle roster now (take count (drop taken octets)) phase).phase → handled + handled_in roster now (drop taken octets) phase ≡ all
    → (handled + 1) + handled_in roster now (drop (taken + count) octets) next ≡ all
counted-on roster now octets taken count handled phase next all size reading is so_far =
    let front = handled-front roster now (drop taken octets) count phase size reading in
    let rest : handled_in roster now (drop count (drop taken octets)) (handle roster now (take count (drop taken octets)) phase).phase ≡ handled_in roster now (drop (taken + count) octets) next =
    ap (λ (p : Phase). handled_in roster now (drop count (drop taken octets)) p) (sym is) ∙ ap (λ (o : List ℕ). handled_in roster now o next) (drop-drop count taken octets) in
    omega (arith, front, rest, so_far)

pub loop-reading-preserved : goal.loop-reading-preserved
loop-reading-preserved c =
    let octets = c.args.octets.now in
    let taken = c.loop-reading.taken in
    let back = c.split_at.ensures.back in
    let message = c.in-Ok-Some.message in
    let count = 19 + length message.body.now in
    let given = subst (Stands c.split_at.result.1.now) c.in-Ok-Some.field-0-is c.in-Ok-Some.ensures.given in
    let size = ap message_size (sym back) ∙ given.size in
    let takes = subst (λ (m : List ℕ). Takes (handle c.args.roster.now c.args.now m (phase_of c.loop-reading.state)) c.loop-reading.actions c.in_ok-state-in-Ok-Some.state c.handle.new.actions)
    (sym given.message ∙ ap (take count) back)
    (subst (λ (p : Phase). Takes (handle c.args.roster.now c.args.now (message_octets message.kind message.body.now) p) c.loop-reading.actions c.in_ok-state-in-Ok-Some.state c.handle.new.actions) c.in-Some.ensures.1 c.in_ok-state-in-Ok-Some.ensures) in
    record {
      within = omega (arith, c.loop-reading.invariant.within, (message_size-Some (drop taken octets) count size).within, length-drop taken octets);
      same =
          ap (λ (o : List ℕ). going c.args.roster.now c.args.now c.handle.new.actions o c.in_ok-state-in-Ok-Some.state) (sym (drop-drop count taken octets))
          ∙ goes-on c.args.roster.now c.args.now (drop taken octets) count c.loop-reading.state c.in_ok-state-in-Ok-Some.state c.loop-reading.actions c.handle.new.actions size c.in-Some.ensures.0 takes
          ∙ c.loop-reading.invariant.same;
      counted = counted-on c.args.roster.now c.args.now c.args.octets.now taken count c.loop-reading.handled (phase_of c.loop-reading.state) (phase_of c.in_ok-state-in-Ok-Some.state) _
          size c.in-Some.ensures.0 takes.phase c.loop-reading.invariant.counted;
      few = omega (arith, c.loop-reading.invariant.few);
    }

pub returns-in-Ok-None-clause-handled : goal.returns-in-Ok-None-clause-handled
returns-in-Ok-None-clause-handled c =
    let given = subst (Stands c.split_at.result.1.now) c.in-Ok-None.field-0-is c.in-Ok-None.ensures.given in
    let none = handled-stop c.args.roster.now c.args.now (drop c.loop-reading.taken c.args.octets.now) (phase_of c.loop-reading.state) (ap message_size (sym c.split_at.ensures.back) ∙ given.0) in
    omega (arith, none, c.loop-reading.invariant.counted)

pub returns-in-Err-clause-handled : goal.returns-in-Err-clause-handled
returns-in-Err-clause-handled c =
    let none = handled-stop c.args.roster.now c.args.now (drop c.loop-reading.taken c.args.octets.now) (phase_of c.loop-reading.state) (ap message_size (sym c.split_at.ensures.back) ∙ c.in-Err.ensures.given.0) in
    omega (arith, none, c.loop-reading.invariant.counted)

pub returns-clause-handled : goal.returns-clause-handled
returns-clause-handled c =
    let none = handled-none c.args.roster.now c.args.now (drop c.loop-reading.taken c.args.octets.now) (phase_of c.loop-reading.state) c.in_default.ensures in
    omega (arith, none, c.loop-reading.invariant.counted)

pub returns-in-Ok-None-clause-runs : goal.returns-in-Ok-None-clause-runs
returns-in-Ok-None-clause-runs c =
    let back = c.split_at.ensures.back in
    let given = subst (Stands c.split_at.result.1.now) c.in-Ok-None.field-0-is c.in-Ok-None.ensures.given in
    runs-out c.args.roster.now c.args.now c.args.octets.now c.loop-reading.taken c.args.state c.loop-reading.state c.args.actions.now c.loop-reading.actions c.loop-reading.invariant.same
    (ap message_size (sym back) ∙ given.0) (ap fault_in_front (sym back) ∙ given.1) c.in-Some.ensures.0

pub returns-in-Err-clause-runs : goal.returns-in-Err-clause-runs
returns-in-Err-clause-runs c =
    let back = c.split_at.ensures.back in
    runs-into c.args.roster.now c.args.now c.args.octets.now c.loop-reading.taken c.args.state c.loop-reading.state c.args.actions.now c.loop-reading.actions c.loop-reading.invariant.same
    (fault_in [] c.in-Err.fault) (length c.args.octets.now) state.Closed c.close_by.new.actions
    (ap message_size (sym back) ∙ c.in-Err.ensures.given.0) (ap fault_in_front (sym back) ∙ c.in-Err.ensures.given.1) c.in-Some.ensures.0
    refl (drop-length c.args.octets.now) c.in_ok-close_by-in-Err.ensures

pub returns-clause-runs : goal.returns-clause-runs
returns-clause-runs c = elim c.if-is_closed.branch [
  | then-is_closed w ↦
      subst (λ (n : ℕ). Runs (course_of c.args.roster.now c.args.now c.args.octets.now (phase_of c.args.state)) c.args.actions.now c.args.octets.now n c.loop-reading.state c.loop-reading.actions) (sym w.taken-is)
      (runs-closed c.args.roster.now c.args.now c.args.octets.now c.loop-reading.taken c.args.state c.loop-reading.state c.args.actions.now c.loop-reading.actions c.loop-reading.invariant.same
      (length c.args.octets.now) (sym c.is_closed.ensures ∙ w.if-is_closed.true) (drop-length c.args.octets.now))
  | else-is_closed w ↦
      subst (λ (n : ℕ). Runs (course_of c.args.roster.now c.args.now c.args.octets.now (phase_of c.args.state)) c.args.actions.now c.args.octets.now n c.loop-reading.state c.loop-reading.actions) (sym w.taken-is)
      (runs-up c.args.roster.now c.args.now c.args.octets.now c.loop-reading.taken c.args.state c.loop-reading.state c.args.actions.now c.loop-reading.actions c.loop-reading.invariant.same
      c.in_default.ensures (sym c.is_closed.ensures ∙ w.if-is_closed.false))
]
