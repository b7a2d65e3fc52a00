-- What the calls of a session come to.
use Rattle.std.proofs.Common.{◌≡◌, ◌≢◌, ℕ, Bool, true, false, List, [], ◌++◌, max, refl, sym, ap, subst, ◌∙◌}
use Rattle.std.specs.Prelude.{if◌then◌else◌}
use Rattle.rcp_base.specs.Roster.{RosterOf}
use Rattle.rcp_model.specs.Sessions.{Phase, OpenConfirm, Closed, Peering, Doing, nothing, then_also, sending, keepalive, SessionState, Course, Answer, Input, Octets, Seat, Moment, End, is_closed, moment_in, course_of, answered, stepped, claim_answered, seated, tick, shut, answer}
use Rattle.rcp_model.proofs.SessionLemmas.{nothing-then, then-nothing, then-assoc, answer-closed, answer-octets, answer-seat, answer-moment, answer-end}
use Rattle.session_core.specs.declared.actions.Actions.{Actions}
use Rattle.session_core.specs.declared.state.Claim.{Claim}
use Rattle.session_core.specs.declared.state.State.{State}
use Rattle.session_core.specs.declared.state.State.TheVariants as state
use Rattle.session_core.specs.Shown.{phase_of, doing_of}
use Rattle.session_core.specs.Steps.{Takes}
use Rattle.session_core.specs.Held.{Held, Answers, AnswersOn, RunsOn}

-- a closed session does nothing
pub closed-answers : (roster : RosterOf) (input : Input) (h : Held) (a : Actions) → h.spent ≡ false → is_closed h.state.phase ≡ true → doing_of a ≡ nothing → Answers (answer roster input h.state) h h a
closed-answers roster input h a unspent closed none = record {
  before = unspent;
  now = unspent;
  after = sym (ap (λ (r : Answer). r.after) (answer-closed roster input h.state closed));
  does = none ∙ sym (ap (λ (r : Answer). r.does) (answer-closed roster input h.state closed));
}

-- what was answered besides nothing
answers-from : (r s : Answer) (h ran new : Held) (a0 a1 : Actions) → r ≡ s → h.spent ≡ false → new.spent ≡ false → new.state ≡ ran.state → doing_of a0 ≡ nothing
    → ran.state ≡ s.after → doing_of a1 ≡ then_also (doing_of a0) s.does → Answers r h new a1
answers-from r s h ran new a0 a1 is unspent now same none state does = record {
  before = unspent;
  now = now;
  after = same ∙ state ∙ sym (ap (λ (q : Answer). q.after) is);
  does = does ∙ ap (λ (d : Doing). then_also d s.does) none ∙ nothing-then s.does ∙ sym (ap (λ (q : Answer). q.does) is);
}

pub bytes-answers : (roster : RosterOf) (piece : List ℕ) (now : ℕ) (h mid ran new : Held) (a0 a1 : Actions) → h.spent ≡ false → is_closed h.state.phase ≡ false
    → mid.state ≡ record { phase = h.state.phase; kept = h.state.kept; latest = max h.state.latest now }
    → doing_of a0 ≡ nothing → RunsOn (course_of roster mid.state.latest (mid.state.kept ++ piece) mid.state.phase) mid ran a0 a1
    → new.spent ≡ false → new.state ≡ ran.state → Answers (answer roster (Octets piece now) h.state) h new a1
bytes-answers roster piece now h mid ran new a0 a1 unspent open_ is none runs unspent' same =
    let m = moment_in h.state now in
    let course = course_of roster m (h.state.kept ++ piece) h.state.phase in
    let all : RunsOn course mid ran a0 a1 = subst (λ (s : SessionState). RunsOn (course_of roster s.latest (s.kept ++ piece) s.phase) mid ran a0 a1) is runs in
    answers-from (answer roster (Octets piece now) h.state) (answered m course) h ran new a0 a1 (answer-octets roster piece now h.state open_) unspent unspent' same none
    (all.state ∙ ap (λ (s : SessionState). let r : SessionState = record { phase = course.phase; kept = course.kept; latest = s.latest } in r) is) all.does

pub clock-answers : (roster : RosterOf) (now : ℕ) (h new : Held) (a0 a1 : Actions) (next : State) → h.spent ≡ false → is_closed h.state.phase ≡ false
    → doing_of a0 ≡ nothing → Takes (tick (max h.state.latest now) h.state.phase) a0 next a1 → new.spent ≡ false
    → new.state ≡ record { phase = phase_of next; kept = if is_closed (phase_of next) then [] else h.state.kept; latest = max h.state.latest now }
    → Answers (answer roster (Moment now) h.state) h new a1
clock-answers roster now h new a0 a1 next unspent open_ none takes unspent' is =
    let m = moment_in h.state now in
    let s = tick m h.state.phase in
    answers-from (answer roster (Moment now) h.state) (stepped m h.state.kept s) h new new a0 a1 (answer-moment roster now h.state open_) unspent unspent' refl none
    (is ∙ ap (λ (p : Phase). let r : SessionState = record { phase = p; kept = if is_closed p then [] else h.state.kept; latest = m } in r) takes.phase) takes.does

-- what is sent at a time is what the timers send
pub moment-sends : (roster : RosterOf) (now : ℕ) (h : Held) → is_closed h.state.phase ≡ false → (tick (max h.state.latest now) h.state.phase).does.sent ≢ []
    → (answer roster (Moment now) h.state).does.sent ≢ []
moment-sends roster now h open_ sends none = sends (sym (ap (λ (r : Answer). r.does.sent) (answer-moment roster now h.state open_)) ∙ none)

pub seat-answers : (roster : RosterOf) (free : Bool) (now : ℕ) (h mid ran new : Held) (a0 a1 : Actions) → h.spent ≡ false → is_closed h.state.phase ≡ false
    → mid.state ≡ record { phase = h.state.phase; kept = h.state.kept; latest = max h.state.latest now }
    → doing_of a0 ≡ nothing → AnswersOn (claim_answered roster free mid.state.latest mid.state.kept mid.state.phase) mid ran a0 a1
    → new.spent ≡ false → new.state ≡ ran.state → Answers (answer roster (Seat free now) h.state) h new a1
seat-answers roster free now h mid ran new a0 a1 unspent open_ is none on unspent' same =
    let all = subst (λ (s : SessionState). AnswersOn (claim_answered roster free s.latest s.kept s.phase) mid ran a0 a1) is on in
    answers-from (answer roster (Seat free now) h.state) _ h ran new a0 a1 (answer-seat roster free now h.state open_) unspent unspent' same none all.state all.does

pub end-answers : (roster : RosterOf) (h new : Held) (a : Actions) → h.spent ≡ false → is_closed h.state.phase ≡ false → new.spent ≡ false
    → new.state ≡ record { phase = Closed; kept = []; latest = h.state.latest } → doing_of a ≡ shut.does → Answers (answer roster End h.state) h new a
end-answers roster h new a unspent open_ unspent' is does = record {
  before = unspent;
  now = unspent';
  after = is ∙ sym (ap (λ (q : Answer). q.after) (answer-end roster h.state open_));
  does = does ∙ sym (ap (λ (q : Answer). q.does) (answer-end roster h.state open_));
}

-- actions that do the same

pub runs-as : (course : Course) (old new : Held) (before after counted : Actions) → doing_of counted ≡ doing_of after → RunsOn course old new before after → RunsOn course old new before counted
runs-as course old new before after counted same runs = record { state = runs.state; does = same ∙ runs.does }

pub answers-as : (r : Answer) (old new : Held) (before after counted : Actions) → doing_of counted ≡ doing_of after → AnswersOn r old new before after → AnswersOn r old new before counted
answers-as r old new before after counted same on = record { state = on.state; does = same ∙ on.does }

-- ---- the answer to a claim

-- a course that was run is what was answered
pub runs-answers : (course : Course) (h new : Held) (a0 a1 : Actions) (r : Answer) → RunsOn course h new a0 a1 → r ≡ answered h.state.latest course → AnswersOn r h new a0 a1
runs-answers course h new a0 a1 r runs is = record {
  state = runs.state ∙ sym (ap (λ (q : Answer). q.after) is);
  does = runs.does ∙ ap (λ (q : Answer). then_also (doing_of a0) q.does) (sym is);
}

-- a KEEPALIVE is sent, and then a course is run
pub seated-runs : (roster : RosterOf) (h mid new : Held) (a0 a1 a2 : Actions) (p : Peering) → mid.state ≡ record { phase = OpenConfirm p; kept = h.state.kept; latest = h.state.latest }
    → doing_of a1 ≡ then_also (doing_of a0) (sending keepalive) → RunsOn (course_of roster mid.state.latest mid.state.kept mid.state.phase) mid new a1 a2
    → RunsOn (seated roster h.state.latest h.state.kept p) h new a0 a2
seated-runs roster h mid new a0 a1 a2 p is does runs =
    let course = course_of roster h.state.latest h.state.kept (OpenConfirm p) in
    let all : RunsOn course mid new a1 a2 = subst (λ (s : SessionState). RunsOn (course_of roster s.latest s.kept s.phase) mid new a1 a2) is runs in
    record {
      state = all.state ∙ ap (λ (s : SessionState). let r : SessionState = record { phase = course.phase; kept = course.kept; latest = s.latest } in r) is;
      does = all.does ∙ ap (λ (d : Doing). then_also d course.does) does ∙ then-assoc (doing_of a0) (sending keepalive) course.does;
    }

pub true-false : true ≡ false → ⊥
true-false e = cc

-- where no claim waits nothing is done
nothing-answered : (roster : RosterOf) (free : Bool) (now : ℕ) (kept : List ℕ) (s : State) → ((x : Claim) → s ≡ state.Claiming x → ⊥) → is_closed (phase_of s) ≡ false
    → claim_answered roster free now kept (phase_of s) ≡ record { after = record { phase = phase_of s; kept = kept; latest = now }; does = nothing }
nothing-answered roster true now kept (state.OpenSent since) other open_ = refl
nothing-answered roster false now kept (state.OpenSent since) other open_ = refl
nothing-answered roster true now kept (state.OpenConfirm peering) other open_ = refl
nothing-answered roster false now kept (state.OpenConfirm peering) other open_ = refl
nothing-answered roster true now kept (state.Established peering) other open_ = refl
nothing-answered roster false now kept (state.Established peering) other open_ = refl
nothing-answered roster free now kept (state.Claiming claim) other open_ = absurd (other claim refl)
nothing-answered roster free now kept state.Closed other open_ = absurd (cc)

pub no-claim : (roster : RosterOf) (free : Bool) (s : State) (h : Held) (a : Actions) → phase_of s ≡ h.state.phase → ((x : Claim) → s ≡ state.Claiming x → ⊥) → is_closed h.state.phase ≡ false
    → AnswersOn (claim_answered roster free h.state.latest h.state.kept h.state.phase) h h a a
no-claim roster free s h a same other open_ =
    let is : claim_answered roster free h.state.latest h.state.kept h.state.phase ≡ record { after = h.state; does = nothing } =
    ap (claim_answered roster free h.state.latest h.state.kept) (sym same)
    ∙ nothing-answered roster free h.state.latest h.state.kept s other (ap is_closed same ∙ open_)
    ∙ ap (λ (p : Phase). let r : Answer = record { after = record { phase = p; kept = h.state.kept; latest = h.state.latest }; does = nothing } in r) same in
    record {
      state = sym (ap (λ (q : Answer). q.after) is);
      does = sym (ap (λ (q : Answer). then_also (doing_of a) q.does) is ∙ then-nothing (doing_of a));
    }

abbrev answer-with : SessionState → Doing → Answer
answer-with state does = record { after = state; does = does }

-- answers are the same where their parts are
pub both-are : (a b : SessionState) (d e : Doing) → a ≡ b → d ≡ e → answer-with a d ≡ answer-with b e
both-are a b d e is same = ap (λ (s : SessionState). answer-with s d) is ∙ ap (answer-with b) same
