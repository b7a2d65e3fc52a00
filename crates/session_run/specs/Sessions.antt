-- Whole sessions on a link.
use Rattle.std.specs.Prelude.{◌≡◌, ℕ, Bool, ◌⊎◌, List, [], ◌∷◌, ◌++◌, Some, Err}
use Rattle.std.specs.List.{concat}
use Rattle.atomic_table.specs.Seated.{TableId}
use Rattle.rcp_base.specs.Roster.{RosterOf}
use Rattle.rcp_model.specs.Messages.{fault, notification_octets}
use Rattle.session_core.specs.Held.{Held}
use Rattle.outside.specs.Told.{behind}
use Rattle.outside.specs.Links.{closing}
use Rattle.outbox.specs.Wires.{WireOf}
use Rattle.outbox.specs.Outs.{OutOf, front, counted_on}
use Rattle.seats.specs.Seats.{SeatOf, IsClaimed}
use Rattle.session_serve.specs.declared.ends.EndWhy.{EndWhy}
use Rattle.session_serve.specs.declared.ends.EndWhy.TheVariants as why
use Rattle.session_serve.specs.declared.ends.SessionEnd.{SessionEnd}
use Rattle.session_serve.specs.Deeds.{Deeds}
use Rattle.session_serve.specs.Ended.{HadMemory, IsWritten}
use Rattle.session_serve.specs.Served.{IsServed}
use Rattle.session_run.specs.Greeted.{Exchange, IsOpened, IsGreeted}

-- the Cease for a router whose seat is out (RFC 4271 section 6.7)
abbrev pub cease : List ℕ
cease = notification_octets (fault 6 0 [])

-- the seat was out, or there was no memory to say so
abbrev pub IsOut : EndWhy → Type 0
IsOut (why.SeatOut out) = Unit {0}
IsOut why.NoMemory = Unit {0}
IsOut (why.Fault code sub) = ⊥
IsOut (why.Received code sub) = ⊥
IsOut why.PeerClosed = ⊥
IsOut why.LinkFault = ⊥
IsOut why.Stopped = ⊥

-- The seat was out: a Cease is written, as far as the link takes it. Of it this waits still.
pub record IsRefused (claimed : ℕ) (before after : WireOf) (end : SessionEnd) (gone unqueued : List (List ℕ)) (out : OutOf) : Type 0 where
  pub slot : end.slot ≡ Some claimed
  pub generation : end.generation ≡ 0
  pub messages : end.messages ≡ 0
  pub updates : end.updates ≡ 0
  pub is_out : IsOut end.why
  pub given : after.given ≡ before.given
  pub queue : cease ∷ [] ≡ gone ++ (out.waiting ++ unqueued)
  pub taken : after.taken ≡ behind before.taken (concat gone ++ front out)
  pub complete : HadMemory end.why → unqueued ≡ []
  pub wrote : IsWritten gone out.waiting before after end.why

-- an end with the OPEN counted, which the greeting had handled
pub record IsWithOpen (served end : SessionEnd) : Type 0 where
  pub why : end.why ≡ served.why
  pub slot : end.slot ≡ served.slot
  pub generation : end.generation ≡ served.generation
  pub messages : end.messages ≡ counted_on served.messages 1
  pub updates : end.updates ≡ served.updates

-- The router was served with a seat that was just claimed, or refused since its seat was out.
abbrev pub IsAnswered : RosterOf → (ℕ → Bool) → Bool → (ℕ → List TableId) → (ℕ → TableId) → WireOf → WireOf → Held → ℕ → SessionEnd → Type 0
IsAnswered roster can_give may_stop shards offers before after session slot end =
    ((old : SeatOf) × (new : SeatOf) × (deeds : Deeds) × (out : OutOf)
    × IsClaimed shards offers slot old × IsServed roster can_give may_stop session.state old new before after end deeds out)
    ⊎ ((gone : List (List ℕ)) × (unqueued : List (List ℕ)) × (out : OutOf) × IsRefused slot before after end gone unqueued out)

-- OPENs were exchanged, the peer's claimed the seat of a router, and this was answered.
pub record IsClaimant (roster : RosterOf) (can_give : ℕ → Bool) (may_stop : Bool) (shards : ℕ → List TableId) (offers : ℕ → TableId) (before after : WireOf) (end : SessionEnd) : Type 0 where
  pub exchange : Exchange
  pub waiting : OutOf
  pub middle : WireOf
  pub session : Held
  pub slot : ℕ
  pub opened : IsOpened roster can_give before middle session slot exchange waiting
  pub served : SessionEnd
  pub answered : IsAnswered roster can_give may_stop shards offers middle after session slot served
  pub counted : IsWithOpen served end

-- what a session on a link comes to, before the link is closed
abbrev pub IsSession : RosterOf → (ℕ → Bool) → Bool → (ℕ → List TableId) → (ℕ → TableId) → WireOf → WireOf → SessionEnd → Type 0
IsSession roster can_give may_stop shards offers before after end =
    IsGreeted roster can_give may_stop before after (Err end)
    ⊎ IsClaimant roster can_give may_stop shards offers before after end

-- the link is closed, and else as it was
abbrev pub closed_wire : WireOf → WireOf
closed_wire wire = record wire { closed = closing wire.closed }
