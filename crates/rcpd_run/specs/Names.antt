-- Which mailboxes the seats of a book are named for.
use Rattle.std.specs.Prelude.{◌≡◌, ℕ, List, [], length, map, Option, Some, None, slice_get}
use Rattle.atomic_table.specs.Seated.{TableId}
use Rattle.mailbox.specs.Boxes.{mailbox_of, mailbox_at}
use Rattle.seats.specs.Names.{no_mailbox}
use Rattle.daemon_parts.specs.declared.parts.SeatEnds.{SeatEnds}

-- the mailboxes of the seat with these ends
abbrev pub shard_mailboxes_of : Option SeatEnds → List TableId
shard_mailboxes_of None = []
shard_mailboxes_of (Some ends) = map mailbox_of ends.shards.items

abbrev pub offer_mailbox_of : Option SeatEnds → TableId
offer_mailbox_of None = no_mailbox
offer_mailbox_of (Some ends) = mailbox_at ends.offers

-- the names are those of the mailboxes of these seats, in the order of slots
pub record AreNamed (places : ℕ) (shards : ℕ → List TableId) (offers : ℕ → TableId) (seats : List SeatEnds) : Type 0 where
  pub count : length seats ≡ places
  pub shards_are : (slot : ℕ) → shards slot ≡ shard_mailboxes_of (slice_get seats slot)
  pub offers_are : (slot : ℕ) → offers slot ≡ offer_mailbox_of (slice_get seats slot)
