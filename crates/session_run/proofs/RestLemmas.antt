-- A seat that was served rests: its router is down at every shard, and no `Up` has a higher generation.
use Rattle.std.proofs.Common.{◌≡◌, ℕ, ◌<◌, Bool, true, false, cond, List, [], ◌∷◌, ◌++◌, length, fold, All, refl, sym, ap, ◌∙◌, subst, append-nil, eqb, arith}
use Rattle.std.proofs.lemmas.Grind.{fold-append}
use Rattle.std.proofs.lemmas.List.Elements.{All-nil, All-cons, All-append, All-weaker, All-from_get_or}
use Rattle.atomic_table.specs.Seated.{TableId}
use Rattle.rcp_base.specs.Roster.{RosterOf}
use Rattle.rcp_base.specs.IpPrefix.{shard_of_prefix}
use Rattle.rcp_model.specs.declared.rcs_mail.ShardMail.TheVariants as mail
use Rattle.rcp_model.specs.Sessions.{SessionState, SessionEvent, Up, Announce, Withdraw}
use Rattle.outbox.specs.Wires.{WireOf}
use Rattle.outbox.specs.Outs.{OutOf}
use Rattle.seats.specs.Mails.{Mail, up_after, is_up, IsWithin, IsBelow}
use Rattle.seats.specs.Ends.{SenderOf}
use Rattle.seats.specs.Seats.{SeatOf, no_sender, sent_at, IsClaimed, IsResting}
use Rattle.shard_mail.specs.Puts.{mail_of, mails_of, reached_up}
use Rattle.session_serve.specs.declared.ends.SessionEnd.{SessionEnd}
use Rattle.session_serve.specs.Deeds.{Deeds, doing, down_after}
use Rattle.session_serve.specs.Served.{IsServed}

-- ---- the router is down

-- a message to one shard, that is no `Up`
one-down : (here : Bool) (message : Mail) → up_after false message ≡ false → fold up_after false (cond here (message ∷ []) []) ≡ false
one-down true message down = down
one-down false message down = refl

events-down : (seat : SeatOf) (events : List SessionEvent) (shard : ℕ) → reached_up events ≡ false → is_up (mails_of seat events shard) ≡ false
events-down seat [] shard none = refl
events-down seat (Up ∷ events) shard none = let no : true ≡ false = none in absurd cc
events-down seat (Announce prefix route ∷ events) shard none =
    fold-append up_after false (mail_of seat (Announce prefix route) shard) (mails_of seat events shard)
    ∙ ap (λ up. fold up_after up (mails_of seat events shard)) (one-down (eqb shard (shard_of_prefix prefix (length seat.senders))) (mail.Announce seat.slot prefix route) refl)
    ∙ events-down seat events shard none
events-down seat (Withdraw prefix ∷ events) shard none =
    fold-append up_after false (mail_of seat (Withdraw prefix) shard) (mails_of seat events shard)
    ∙ ap (λ up. fold up_after up (mails_of seat events shard)) (one-down (eqb shard (shard_of_prefix prefix (length seat.senders))) (mail.Withdraw seat.slot prefix) refl)
    ∙ events-down seat events shard none

-- the router was down before the events, and is after the `Down` that follows an `Up`
sent-down : (seat : SeatOf) (events : List SessionEvent) (shard : ℕ) (sent : List Mail) → is_up sent ≡ false
    → is_up ((sent ++ mails_of seat events shard) ++ down_after seat events) ≡ false
sent-down seat events shard sent was = by_up (reached_up events) refl where
  mails : List Mail
  mails = mails_of seat events shard

  by_up : (up : Bool) → reached_up events ≡ up → is_up ((sent ++ mails) ++ cond up (mail.Down seat.slot ∷ []) []) ≡ false
  by_up true reached = fold-append up_after false (sent ++ mails) (mail.Down seat.slot ∷ [])
  by_up false none =
      ap is_up (append-nil (sent ++ mails))
      ∙ fold-append up_after false sent mails
      ∙ ap (λ up. fold up_after up mails) was
      ∙ events-down seat events shard none

-- ---- the generations

below-within : (most : ℕ) (message : Mail) → IsBelow most message → IsWithin most message
below-within most (mail.Up slot generation) below = omega arith
below-within most (mail.Down slot) below = tt
below-within most (mail.Announce slot prefix route) below = tt
below-within most (mail.Withdraw slot prefix) below = tt
below-within most (mail.View view) below = tt

one-within : (most : ℕ) (here : Bool) (message : Mail) → IsWithin most message → All (IsWithin most) (cond here (message ∷ []) [])
one-within most true message within = All-cons (IsWithin most) message [] within (All-nil (IsWithin most))
one-within most false message within = All-nil (IsWithin most)

event-within : (seat : SeatOf) (event : SessionEvent) (shard : ℕ) → All (IsWithin seat.generation) (mail_of seat event shard)
event-within seat Up shard = one-within seat.generation true (mail.Up seat.slot seat.generation) (omega arith)
event-within seat (Announce prefix route) shard = one-within seat.generation (eqb shard (shard_of_prefix prefix (length seat.senders))) (mail.Announce seat.slot prefix route) tt
event-within seat (Withdraw prefix) shard = one-within seat.generation (eqb shard (shard_of_prefix prefix (length seat.senders))) (mail.Withdraw seat.slot prefix) tt

events-within : (seat : SeatOf) (events : List SessionEvent) (shard : ℕ) → All (IsWithin seat.generation) (mails_of seat events shard)
events-within seat [] shard = All-nil (IsWithin seat.generation)
events-within seat (event ∷ events) shard =
    All-append (IsWithin seat.generation) (mail_of seat event shard) (mails_of seat events shard) (event-within seat event shard) (events-within seat events shard)

sent-within : (seat : SeatOf) (events : List SessionEvent) (shard : ℕ) (sent : List Mail) → All (IsBelow seat.generation) sent
    → All (IsWithin seat.generation) ((sent ++ mails_of seat events shard) ++ down_after seat events)
sent-within seat events shard sent below =
    All-append (IsWithin seat.generation) (sent ++ mails_of seat events shard) (down_after seat events)
    (All-append (IsWithin seat.generation) sent (mails_of seat events shard)
    (All-weaker (IsBelow seat.generation) (IsWithin seat.generation) (below-within seat.generation) sent below)
    (events-within seat events shard))
    (one-within seat.generation (reached_up events) (mail.Down seat.slot) tt)

-- ---- the seat

pub rests : (shards : ℕ → List TableId) (offers : ℕ → TableId) (slot : ℕ) (roster : RosterOf) (can_give : ℕ → Bool) (may_stop : Bool) (session : SessionState)
    (old new : SeatOf) (before after : WireOf) (end : SessionEnd) (deeds : Deeds) (out : OutOf)
    → IsClaimed shards offers slot old → IsServed roster can_give may_stop session old new before after end deeds out → IsResting shards offers new
rests shards offers slot roster can_give may_stop session old new before after end deeds out claimed served = record {
  named = record {
    each = served.same.mailboxes ∙ claimed.named.each ∙ ap shards (sym served.same.slot);
    receiver = served.same.receiver ∙ claimed.named.receiver ∙ ap offers (sym served.same.slot);
  };
  down = All-from_get_or (λ (s : SenderOf Mail). is_up s.sent ≡ false) new.senders no_sender down_at;
  latest = All-from_get_or (λ (s : SenderOf Mail). All (IsWithin new.generation) s.sent) new.senders no_sender latest_at;
} where
  events : List SessionEvent
  events = (doing roster session deeds).events

  down_at : (shard : ℕ) → shard < length new.senders → is_up (sent_at shard new) ≡ false
  down_at shard here =
      let there : shard < length old.senders = omega (arith, served.same.count) in
      ap is_up (served.put shard there) ∙ sent-down old events shard (sent_at shard old) (claimed.down shard no_sender there)

  latest_at : (shard : ℕ) → shard < length new.senders → All (IsWithin new.generation) (sent_at shard new)
  latest_at shard here =
      let there : shard < length old.senders = omega (arith, served.same.count) in
      subst (λ (most : ℕ). All (IsWithin most) (sent_at shard new)) (sym served.same.generation)
      (subst (All (IsWithin old.generation)) (sym (served.put shard there)) (sent-within old events shard (sent_at shard old) (claimed.later shard no_sender there)))
