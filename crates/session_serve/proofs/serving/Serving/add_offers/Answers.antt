-- Offers are taken where the session is up and no UPDATE waits for the link.
use Rattle.std.proofs.Common.{◌≡◌, ◌∙◌, ℕ, Bool, true, false, ◌⊎◌, inl, inr, List, ◌++◌, length, map, refl, sym, ap, nat_lt}
use Rattle.std.specs.Prelude.{◌&&◌, not}
use Rattle.outbox.specs.Outs.{OutOf}
use Rattle.shard_mail.specs.Batches.{own_offers, updates_of}
use Rattle.session_serve.proofs.GoesLemmas.{offers-kept, offers-added, ends-unpacked}
use Rattle.session_serve.proofs.serving.Serving.add_offers.Goals as goal

-- no offers are wanted: the session isn't up, or UPDATEs wait
not-wanted : (up some : Bool) → (up && not some) ≡ false → (up ≡ false) ⊎ (some ≡ true)
not-wanted true true is = inr refl
not-wanted true false is = absurd cc
not-wanted false some is = inl refl

are-wanted : (up some : Bool) → (up && not some) ≡ true → (up ≡ true) × (some ≡ false)
are-wanted true true is = absurd cc
are-wanted true false is = (refl, refl)
are-wanted false some is = absurd cc

pub returns-then-not-wants_offers-clause-goes : goal.returns-then-not-wants_offers-clause-goes
returns-then-not-wants_offers-clause-goes g c start deeds wire runs begun =
    let s = c.args.self.now in
    let no : (s.up && not (nat_lt 0 s.out.to_last_update)) ≡ false = sym c.wants_offers.ensures ∙ c.if-not-wants_offers.true in
    (deeds, runs, begun, offers-kept start deeds _ runs begun (not-wanted s.up (nat_lt 0 s.out.to_last_update) no))

pub returns-in-Err-clause-goes : goal.returns-in-Err-clause-goes
returns-in-Err-clause-goes g c start deeds wire runs begun =
    let t = c.in-Err.ensures in
    (_, ends-unpacked start deeds _ runs begun t.0 c.take_batch.new.seat t.1 c.args.self.now.out refl)

pub returns-in-Ok-push_updates-clause-goes : goal.returns-in-Ok-push_updates-clause-goes
returns-in-Ok-push_updates-clause-goes g c start deeds wire runs begun =
    let s = c.args.self.now in
    let t = c.in-Ok.ensures in
    let yes : (s.up && not (nat_lt 0 s.out.to_last_update)) ≡ true = sym c.wants_offers.ensures ∙ c.if-not-wants_offers.false in
    let wanted = are-wanted s.up (nat_lt 0 s.out.to_last_update) yes in
    let same : map (λ (m : _). m.items) c.in-Ok.messages.items ≡ updates_of (own_offers start.seat.generation t.0) = t.3 ∙ ap (λ n. updates_of (own_offers n t.0)) runs.done.same.generation in
    offers-added start deeds _ runs begun t.0 c.take_batch.new.seat t.1 c.push_updates.new.self wanted.0 wanted.1 t.2
    (c.in-Ok-push_updates.ensures.pushed ∙ ap (λ (ms : List (List ℕ)). let out : OutOf = record s.out { waiting = s.out.waiting ++ ms; to_last_update = length (s.out.waiting ++ ms) } in out) same)
    c.in-Ok-push_updates.ensures.same_front

pub returns-in-Err-push_updates-clause-goes : goal.returns-in-Err-push_updates-clause-goes
returns-in-Err-push_updates-clause-goes g c start deeds wire runs begun =
    let t = c.in-Ok.ensures in
    (_, ends-unpacked start deeds _ runs begun t.0 c.take_batch.new.seat t.1 c.push_updates.new.self c.in-Err-push_updates.ensures.refused)
