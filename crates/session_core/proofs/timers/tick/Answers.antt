use Rattle.std.proofs.Common.{◌≢◌, [], sym, ap, subst, ◌∙◌, refl}
use Rattle.std.specs.Prelude.{IfOk}
use Rattle.rcp_model.specs.Sessions.{Step, OpenConfirm, Established, tick}
use Rattle.session_core.specs.declared.state.State.{State}
use Rattle.session_core.specs.declared.state.State.TheVariants as state
use Rattle.session_core.specs.Shown.{phase_of, peering_of}
use Rattle.session_core.specs.Steps.{Takes}
use Rattle.session_core.proofs.StepLemmas.{takes-nothing, after-error, is-sent, waited, still-waits, timed-overdue, takes-kept, due-sends}
use Rattle.session_core.proofs.timers.tick.Goals as goal

pub returns-then-is_expired-clause-taken : goal.returns-then-is_expired-clause-taken
unfolding tick
returns-then-is_expired-clause-taken c =
    let is = ap (λ (s : State). tick c.args.now (phase_of s)) c.in-OpenConfirm.is ∙ timed-overdue OpenConfirm c.args.now (peering_of c.in-OpenConfirm.peering) (sym c.is_expired.ensures ∙ c.if-is_expired.true) in
    subst (λ (s : Step). IfOk c.expire-then-is_expired.result (λ next. Takes s c.args.actions.now next c.expire-then-is_expired.new.actions)) (sym is) c.expire-then-is_expired.ensures

pub returns-then-is_expired-2-clause-taken : goal.returns-then-is_expired-2-clause-taken
unfolding tick
returns-then-is_expired-2-clause-taken c =
    let is = ap (λ (s : State). tick c.args.now (phase_of s)) c.in-Established.is ∙ timed-overdue Established c.args.now (peering_of c.in-Established.peering) (sym c.is_expired-in-Established.ensures ∙ c.if-is_expired-2.true) in
    subst (λ (s : Step). IfOk c.expire-then-is_expired-2.result (λ next. Takes s c.args.actions.now next c.expire-then-is_expired-2.new.actions)) (sym is) c.expire-then-is_expired-2.ensures

pub returns-in_ok-keep_alive-in-OpenConfirm-clause-taken : goal.returns-in_ok-keep_alive-in-OpenConfirm-clause-taken
unfolding tick
returns-in_ok-keep_alive-in-OpenConfirm-clause-taken c =
    subst (λ (s : State). Takes (tick c.args.now (phase_of s)) c.args.actions.now (state.OpenConfirm c.in_ok-keep_alive-in-OpenConfirm.field-0) c.keep_alive.new.actions) (sym c.in-OpenConfirm.is)
    (takes-kept OpenConfirm c.args.now (peering_of c.in-OpenConfirm.peering) _ _ _ _ (sym c.is_expired.ensures ∙ c.if-is_expired.false) c.in_ok-keep_alive-in-OpenConfirm.ensures.kept refl)

pub returns-in_ok-keep_alive-in-Established-clause-taken : goal.returns-in_ok-keep_alive-in-Established-clause-taken
unfolding tick
returns-in_ok-keep_alive-in-Established-clause-taken c =
    subst (λ (s : State). Takes (tick c.args.now (phase_of s)) c.args.actions.now (state.Established c.in_ok-keep_alive-in-Established.field-0) c.keep_alive-in-Established.new.actions) (sym c.in-Established.is)
    (takes-kept Established c.args.now (peering_of c.in-Established.peering) _ _ _ _ (sym c.is_expired-in-Established.ensures ∙ c.if-is_expired-2.false) c.in_ok-keep_alive-in-Established.ensures.kept refl)

pub returns-in-Closed-clause-taken : goal.returns-in-Closed-clause-taken
unfolding tick
returns-in-Closed-clause-taken c =
    subst (λ (s : State). Takes (tick c.args.now (phase_of s)) c.args.actions.now s c.args.actions.now) (sym c.in-Closed.is) (takes-nothing _ _ c.args.actions.now refl)

pub returns-then-has_passed-clause-taken : goal.returns-then-has_passed-clause-taken
unfolding tick
returns-then-has_passed-clause-taken c =
    let is = ap (λ (s : State). tick c.args.now (phase_of s)) c.in-OpenSent.is ∙ waited c.args.now c.in-OpenSent.since _ (sym c.has_passed.ensures ∙ c.if-has_passed.true) in
    subst (λ (s : Step). IfOk c.expire.result (λ next. Takes s c.args.actions.now next c.expire.new.actions)) (sym is) c.expire.ensures

pub returns-else-has_passed-clause-taken : goal.returns-else-has_passed-clause-taken
unfolding tick
returns-else-has_passed-clause-taken c =
    let is = ap (λ (s : State). tick c.args.now (phase_of s)) c.in-OpenSent.is ∙ still-waits c.args.now c.in-OpenSent.since _ (sym c.has_passed.ensures ∙ c.if-has_passed.false) in
    subst (λ (s : Step). Takes s c.args.actions.now (state.OpenSent c.in-OpenSent.since) c.args.actions.now) (sym is) (takes-nothing (state.OpenSent c.in-OpenSent.since) _ c.args.actions.now refl)

pub returns-then-has_passed-2-clause-taken : goal.returns-then-has_passed-2-clause-taken
unfolding tick
returns-then-has_passed-2-clause-taken c =
    let is = ap (λ (s : State). tick c.args.now (phase_of s)) c.in-Claiming.is ∙ waited c.args.now c.in-Claiming.claim.since _ (sym c.has_passed-in-Claiming.ensures ∙ c.if-has_passed-2.true) in
    subst (λ (s : Step). IfOk c.expire-then-has_passed-2.result (λ next. Takes s c.args.actions.now next c.expire-then-has_passed-2.new.actions)) (sym is) c.expire-then-has_passed-2.ensures

pub returns-else-has_passed-2-clause-taken : goal.returns-else-has_passed-2-clause-taken
unfolding tick
returns-else-has_passed-2-clause-taken c =
    let is = ap (λ (s : State). tick c.args.now (phase_of s)) c.in-Claiming.is ∙ still-waits c.args.now c.in-Claiming.claim.since _ (sym c.has_passed-in-Claiming.ensures ∙ c.if-has_passed-2.false) in
    subst (λ (s : Step). Takes s c.args.actions.now (state.Claiming c.in-Claiming.claim) c.args.actions.now) (sym is) (takes-nothing (state.Claiming c.in-Claiming.claim) _ c.args.actions.now refl)

pub returns-then-has_passed-clause-want : goal.returns-then-has_passed-clause-want
unfolding tick
returns-then-has_passed-clause-want c =
    let is = ap (λ (s : State). tick c.args.now (phase_of s)) c.in-OpenSent.is ∙ waited c.args.now c.in-OpenSent.since _ (sym c.has_passed.ensures ∙ c.if-has_passed.true) in
    after-error _ (is-sent _ [] _ (ap (λ (s : Step). s.does.sent) is))

pub returns-then-has_passed-2-clause-want : goal.returns-then-has_passed-2-clause-want
unfolding tick
returns-then-has_passed-2-clause-want c =
    let is = ap (λ (s : State). tick c.args.now (phase_of s)) c.in-Claiming.is ∙ waited c.args.now c.in-Claiming.claim.since _ (sym c.has_passed-in-Claiming.ensures ∙ c.if-has_passed-2.true) in
    after-error _ (is-sent _ [] _ (ap (λ (s : Step). s.does.sent) is))

pub returns-then-is_expired-clause-want : goal.returns-then-is_expired-clause-want
unfolding tick
returns-then-is_expired-clause-want c =
    let is = ap (λ (s : State). tick c.args.now (phase_of s)) c.in-OpenConfirm.is ∙ timed-overdue OpenConfirm c.args.now (peering_of c.in-OpenConfirm.peering) (sym c.is_expired.ensures ∙ c.if-is_expired.true) in
    after-error _ (is-sent _ [] _ (ap (λ (s : Step). s.does.sent) is))

pub returns-then-is_expired-2-clause-want : goal.returns-then-is_expired-2-clause-want
unfolding tick
returns-then-is_expired-2-clause-want c =
    let is = ap (λ (s : State). tick c.args.now (phase_of s)) c.in-Established.is ∙ timed-overdue Established c.args.now (peering_of c.in-Established.peering) (sym c.is_expired-in-Established.ensures ∙ c.if-is_expired-2.true) in
    after-error _ (is-sent _ [] _ (ap (λ (s : Step). s.does.sent) is))

pub returns-in_err-keep_alive-in-OpenConfirm-clause-want : goal.returns-in_err-keep_alive-in-OpenConfirm-clause-want
unfolding tick
returns-in_err-keep_alive-in-OpenConfirm-clause-want c =
    after-error _ (subst (λ (s : State). (tick c.args.now (phase_of s)).does.sent ≢ []) (sym c.in-OpenConfirm.is)
    (due-sends OpenConfirm c.args.now (peering_of c.in-OpenConfirm.peering) (sym c.is_expired.ensures ∙ c.if-is_expired.false) c.in_err-keep_alive-in-OpenConfirm.ensures.want))

pub returns-in_err-keep_alive-in-Established-clause-want : goal.returns-in_err-keep_alive-in-Established-clause-want
unfolding tick
returns-in_err-keep_alive-in-Established-clause-want c =
    after-error _ (subst (λ (s : State). (tick c.args.now (phase_of s)).does.sent ≢ []) (sym c.in-Established.is)
    (due-sends Established c.args.now (peering_of c.in-Established.peering) (sym c.is_expired-in-Established.ensures ∙ c.if-is_expired-2.false) c.in_err-keep_alive-in-Established.ensures.want))
