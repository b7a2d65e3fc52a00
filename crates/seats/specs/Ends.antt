-- What contracts see of the ends of a mailbox.
use Rattle.std.specs.Prelude.{ℕ, List}
use Rattle.atomic_table.specs.Seated.{TableId}
use Rattle.mailbox.specs.declared.ends.Sender.{Sender}
use Rattle.mailbox.specs.declared.ends.Receiver.{Receiver}
use Rattle.mailbox.specs.Boxes.{mailbox_of, number_of, sent, refusals_of, capacity_of, mailbox_at, received, empties_of, senders_of, finished, room_of}

-- a sender: its mailbox and its number there, what it put, how often it was refused, and for how many messages there is room
pub record SenderOf (M : Type 0) : Type 0 where
  pub mailbox : TableId
  pub number : ℕ
  pub sent : List M
  pub refusals : ℕ
  pub room : ℕ

abbrev pub sender_of : {M : Type 0} → Sender M → SenderOf M
sender_of s = record {
  mailbox = mailbox_of s;
  number = number_of s;
  sent = sent s;
  refusals = refusals_of s;
  room = capacity_of s;
}

-- a receiver: its mailbox, what it took, how often it found nothing, how many senders there are, those that were taken
-- back, and for how many messages there is room
pub record ReceiverOf (M : Type 0) : Type 0 where
  pub mailbox : TableId
  pub received : List (ℕ × M)
  pub empties : ℕ
  pub senders : ℕ
  pub finished : List (ℕ × List M)
  pub room : ℕ

abbrev pub receiver_of : {M : Type 0} → Receiver M → ReceiverOf M
receiver_of r = record {
  mailbox = mailbox_at r;
  received = received r;
  empties = empties_of r;
  senders = senders_of r;
  finished = finished r;
  room = room_of r;
}
