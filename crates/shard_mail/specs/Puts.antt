-- What a session puts to the shards.
use Rattle.std.specs.Prelude.{◌≡◌, ℕ, ◌<◌, Bool, true, false, ◌==◌, List, [], ◌∷◌, ◌++◌, length, map, flat_map, if◌then◌else◌}
use Rattle.std.specs.List.{list_any}
use Rattle.rcp_base.specs.IpPrefix.{shard_of_prefix}
use Rattle.rcp_model.specs.declared.rcs_mail.ShardMail.TheVariants as mail
use Rattle.rcp_model.specs.Sessions.{SessionEvent, Up, Announce, Withdraw}
use Rattle.seats.specs.Mails.{Mail}
use Rattle.seats.specs.Ends.{SenderOf}
use Rattle.seats.specs.Seats.{SeatOf, sent_at}

-- the seat's slot, its generation and its mailboxes are the same
pub record IsSameSeat (old new : SeatOf) : Type 0 where
  pub slot : new.slot ≡ old.slot
  pub generation : new.generation ≡ old.generation
  pub count : length new.senders ≡ length old.senders
  pub mailboxes : map (λ (s : SenderOf Mail). s.mailbox) new.senders ≡ map (λ (s : SenderOf Mail). s.mailbox) old.senders
  pub receiver : new.offers.mailbox ≡ old.offers.mailbox

-- these messages were put to each shard by the seat, and no offer was taken
pub record Puts (mails : ℕ → List Mail) (old new : SeatOf) : Type 0 where
  pub same : IsSameSeat old new
  pub offers : new.offers ≡ old.offers
  pub each : (shard : ℕ) → shard < length old.senders → sent_at shard new ≡ sent_at shard old ++ mails shard

-- this message to this shard alone
abbrev pub alone : ℕ → Mail → ℕ → List Mail
alone to message shard = if shard == to then message ∷ [] else []

-- the message that the router of a slot is up or down
abbrev pub standing : Bool → ℕ → ℕ → Mail
standing true slot generation = mail.Up slot generation
standing false slot generation = mail.Down slot

-- what an event of the router of a seat is to a shard: `Up` goes to each, a change to that of its prefix
abbrev pub mail_of : SeatOf → SessionEvent → ℕ → List Mail
mail_of seat Up = λ shard. mail.Up seat.slot seat.generation ∷ []
mail_of seat (Announce prefix route) = alone (shard_of_prefix prefix (length seat.senders)) (mail.Announce seat.slot prefix route)
mail_of seat (Withdraw prefix) = alone (shard_of_prefix prefix (length seat.senders)) (mail.Withdraw seat.slot prefix)

abbrev pub mails_of : SeatOf → List SessionEvent → ℕ → List Mail
mails_of seat events shard = flat_map (λ event. mail_of seat event shard) events

abbrev pub is_up_event : SessionEvent → Bool
is_up_event Up = true
is_up_event (Announce prefix route) = false
is_up_event (Withdraw prefix) = false

-- the router is established by these events
abbrev pub reached_up : List SessionEvent → Bool
reached_up events = list_any is_up_event events
