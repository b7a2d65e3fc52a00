-- What contracts see of a worker's ends of mailboxes.
use Rattle.std.specs.Prelude.{ℕ, List}
use Rattle.atomic_table.specs.Seated.{TableId}
use Rattle.mailbox.specs.declared.ends.Sender.{Sender}
use Rattle.mailbox.specs.declared.ends.Receiver.{Receiver}
use Rattle.mailbox.specs.Boxes.{sent, mailbox_of, number_of, refusals_of, capacity_of, mailbox_at, empties_of, received, senders_of, finished, room_of}
use Rattle.rcp_model.specs.Routes.{OfferFields}
use Rattle.rcp_model.specs.declared.rcs_mail.ShardMail.{ShardMail}
use Rattle.cost_rows.specs.Views.{ViewOf}
use Rattle.shard_worker.specs.Runs.{Letter}

-- The shard's end of its mailbox: which mailbox it is, how many senders and how much room it has, the senders that were taken back;
-- what was taken, and how often nothing was found, a count of 64 bits that saturates.
pub record InboxOf : Type 0 where
  pub mailbox : TableId
  pub senders : ℕ
  pub room : ℕ
  pub finished : List (ℕ × List (ShardMail ViewOf))
  pub taken : List Letter
  pub empties : ℕ

abbrev pub inbox_of : Receiver (ShardMail ViewOf) → InboxOf
inbox_of receiver = record {
  mailbox = mailbox_at receiver;
  senders = senders_of receiver;
  room = room_of receiver;
  finished = finished receiver;
  taken = received receiver;
  empties = empties_of receiver;
}

-- The shard's end of a router's mailbox of offers: which mailbox it is, the sender's number, its room; what was put, and how often the
-- mailbox was full, a count of 64 bits that saturates.
pub record PortOf : Type 0 where
  pub mailbox : TableId
  pub number : ℕ
  pub room : ℕ
  pub put : List OfferFields
  pub refusals : ℕ

abbrev pub port_of : Sender OfferFields → PortOf
port_of sender = record {
  mailbox = mailbox_of sender;
  number = number_of sender;
  room = capacity_of sender;
  put = sent sender;
  refusals = refusals_of sender;
}
