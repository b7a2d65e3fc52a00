-- A session whose seat is out sends a Cease.
use Rattle.std.proofs.Common.{◌≡◌, ℕ, true, false, ◌⊎◌, inl, inr, List, [], ◌∷◌, ◌++◌, take, Some, refl, ap, sym, ◌∙◌, append_assoc}
use Rattle.std.specs.List.{concat}
use Rattle.rcp_base.specs.Roster.{RosterOf}
use Rattle.rcp_model.specs.Sessions.{Answer, Seat, is_closed, moment_in, claim_answered, answer}
use Rattle.rcp_model.proofs.SessionLemmas.{answer-seat}
use Rattle.session_core.specs.Held.{Held}
use Rattle.outside.specs.Told.{behind, Rose}
use Rattle.outbox.specs.Wires.{WireOf}
use Rattle.outbox.specs.Outs.{OutOf, WritesSome, IsDone, empty}
use Rattle.session_serve.specs.declared.ends.EndWhy.{EndWhy}
use Rattle.session_serve.specs.declared.ends.EndWhy.TheVariants as why
use Rattle.session_serve.specs.Ended.{HadMemory, IsWritten, WasSlow}
use Rattle.session_serve.specs.Served.{Claims}
use Rattle.session_run.specs.Sessions.{cease, IsOut, IsRefused}

pub refused-sends : (roster : RosterOf) (now slot : ℕ) (held : Held) → Claims slot held → (answer roster (Seat false now) held.state).does.sent ≡ cease ∷ []
refused-sends roster now slot held claim =
    ap (λ (a : Answer). a.does.sent) (answer-seat roster false now held.state (ap is_closed claim.claims) ∙ ap (claim_answered roster false (moment_in held.state now) held.state.kept) claim.claims)

-- an outbox of which no octet is written yet
abbrev pub waits_all : List (List ℕ) → OutOf
waits_all waiting = record empty { waiting = waiting }

-- The Cease was queued, or there was no memory for it, and what waits is written as far as the link takes it.
module _ (before after : WireOf) (waiting : List (List ℕ)) (queued out : OutOf) (queued_is : queued ≡ waits_all waiting) (writes : WritesSome queued out before after) (is_done : IsDone out before after) where
  -- the link failed, since the outbox hadn't seen it fail before
  fails : (queued.failed ≡ true) ⊎ Rose before.faults after.faults → Rose before.faults after.faults
  fails (inl failed) = let not : false ≡ true = ap (λ (o : OutOf). o.failed) (sym queued_is) ∙ failed in absurd cc
  fails (inr rose) = rose

  all-or-slow : IsDone out before after → (out.waiting ≡ []) ⊎ WasSlow before after
  all-or-slow (inl none) = inl none
  all-or-slow (inr (inl failed)) = inr (inl (fails (writes.2.failed failed)))
  all-or-slow (inr (inr rose)) = inr (inr rose)

  wrote-by : (end : EndWhy) → IsOut end → IsWritten writes.0 out.waiting before after end
  wrote-by (why.SeatOut seat) is_out = all-or-slow is_done
  wrote-by why.NoMemory is_out = tt
  wrote-by (why.Fault code sub) is_out = absurd is_out
  wrote-by (why.Received code sub) is_out = absurd is_out
  wrote-by why.PeerClosed is_out = absurd is_out
  wrote-by why.LinkFault is_out = absurd is_out
  wrote-by why.Stopped is_out = absurd is_out

  pub refused : (slot named : ℕ) → named ≡ slot → (end : EndWhy) (unqueued : List (List ℕ)) → waiting ++ unqueued ≡ cease ∷ [] → IsOut end → (HadMemory end → unqueued ≡ [])
      → IsRefused slot before after (record { why = end; slot = Some named; generation = 0; messages = 0; updates = 0 }) writes.0 unqueued out
  refused slot named same end unqueued all is_out complete = record {
    slot = ap (λ n. Some n) same;
    generation = refl;
    messages = refl;
    updates = refl;
    is_out = is_out;
    given = writes.2.wrote.given;
    queue =
        sym all
        ∙ ap (λ (o : OutOf). o.waiting ++ unqueued) (sym queued_is)
        ∙ ap (λ (ms : List (List ℕ)). ms ++ unqueued) writes.2.messages
        ∙ append_assoc writes.0 out.waiting unqueued;
    taken =
        writes.2.wrote.taken
        ∙ ap (λ (o : OutOf). behind before.taken (take o.written (concat o.waiting) ++ writes.1)) (sym queued_is)
        ∙ ap (behind before.taken) writes.2.stream;
    complete = complete;
    wrote = wrote-by end is_out;
  }
