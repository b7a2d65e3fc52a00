-- Steps, by what was done.
use Rattle.std.proofs.Common.{◌≡◌, ◌≢◌, ℕ, Bool, true, false, not, ◌&&◌, ◌==◌, List, [], ◌∷◌, Result, Ok, Err, OnErr, refl, sym, ap, ◌∙◌}
use Rattle.std.specs.Prelude.{if◌then◌else◌}
use Rattle.rcp_model.specs.Sessions.{Phase, Peering, Step, step, nothing, sending, keepalive, LARGE_HOLD, expired, has_passed, timed}
use Rattle.rcp_model.proofs.SessionLemmas.{then-nothing}
use Rattle.session_core.specs.declared.actions.Actions.{Actions}
use Rattle.session_core.specs.declared.state.State.{State}
use Rattle.session_core.specs.Shown.{phase_of, doing_of}
use Rattle.session_core.specs.Steps.{Takes}
use Rattle.session_core.specs.Timers.{is_overdue, is_due, KeepsAlive}

-- nothing is done
pub takes-nothing : (state : State) (phase : Phase) (actions : Actions) → phase_of state ≡ phase → Takes (step phase nothing) actions state actions
takes-nothing state phase actions is = record { phase = is; does = sym (then-nothing (doing_of actions)) }

-- ---- want of memory

-- what holds anyway holds after an error
pub after-error : {T E P : Type 0} (r : Result T E) → P → OnErr r P
after-error (Ok x) p = tt
after-error (Err e) p = p

-- something is sent
pub is-sent : (message : List ℕ) (messages sent : List (List ℕ)) → sent ≡ message ∷ messages → sent ≢ []
is-sent message messages [] e = absurd (cc)
is-sent message messages (m ∷ ms) e = λ none. absurd (cc)

-- ---- timers

pub waited : (now since : ℕ) (other : Step) → has_passed LARGE_HOLD since now ≡ true → (if has_passed LARGE_HOLD since now then expired else other) ≡ expired
waited now since other late = rw (late) refl

pub still-waits : (now since : ℕ) (other : Step) → has_passed LARGE_HOLD since now ≡ false → (if has_passed LARGE_HOLD since now then expired else other) ≡ other
still-waits now since other early = rw (early) refl

module _ (phase : Peering → Phase) (now : ℕ) (p : Peering) where
  pub timed-overdue : is_overdue p now ≡ true → timed phase now p ≡ expired
  timed-overdue overdue = by (p.negotiated.hold == 0) (has_passed p.negotiated.hold p.read now) refl refl overdue where
    by : (none late : Bool) → (p.negotiated.hold == 0) ≡ none → has_passed p.negotiated.hold p.read now ≡ late → (not none && late) ≡ true → timed phase now p ≡ expired
    by true late e f t = absurd (cc)
    by false false e f t = absurd (cc)
    by false true e f t = rw (e, f) refl

  timed-kept : is_overdue p now ≡ false → timed phase now p ≡ (if is_due p now then step (phase (record p { sent = now })) (sending keepalive) else step (phase p) nothing)
  timed-kept kept = by (p.negotiated.hold == 0) (has_passed p.negotiated.hold p.read now) refl refl kept where
    by : (none late : Bool) → (p.negotiated.hold == 0) ≡ none → has_passed p.negotiated.hold p.read now ≡ late → (not none && late) ≡ false
        → timed phase now p ≡ (if is_due p now then step (phase (record p { sent = now })) (sending keepalive) else step (phase p) nothing)
    by true late e f t = rw (e) refl
    by false true e f t = absurd (cc)
    by false false e f t = rw (e, f) refl

  pub takes-kept : (next : Peering) (before after : Actions) (state : State) → is_overdue p now ≡ false → KeepsAlive p now before next after → phase_of state ≡ phase next → Takes (timed phase now p) before state after
  takes-kept next before after state kept keeps is = rw (timed-kept kept) (by (is_due p now) refl) where
    by : (due : Bool) → is_due p now ≡ due → Takes (if is_due p now then step (phase (record p { sent = now })) (sending keepalive) else step (phase p) nothing) before state after
    by true e = rw (e) (record { phase = is ∙ ap phase (keeps.peering ∙ rw (e) refl); does = keeps.does ∙ rw (e) refl })
    by false e = rw (e) (record { phase = is ∙ ap phase (keeps.peering ∙ rw (e) refl); does = keeps.does ∙ rw (e) refl })

  -- a KEEPALIVE that is due is sent
  pub due-sends : is_overdue p now ≡ false → is_due p now ≡ true → (timed phase now p).does.sent ≢ []
  due-sends kept due = is-sent keepalive [] _ (ap (λ (s : Step). s.does.sent) (timed-kept kept) ∙ rw (due) refl)
