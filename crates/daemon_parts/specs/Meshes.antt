-- Mailboxes that the same senders put to.
use Rattle.std.specs.Prelude.{◌≡◌, ℕ, ◌<◌, ◌≤◌, List, [], ◌∷◌, ◌++◌, length, slice_index_or}
use Rattle.mailbox.specs.declared.ends.Sender.{Sender}
use Rattle.mailbox.specs.declared.ends.Receiver.{Receiver}
use Rattle.mailbox.specs.Boxes.{IsNew, received, senders_of, room_of}

-- the first rows have one more value each, those of the column in order, and the others are as they were
pub record HasColumn {T : Type 0} (column : List T) (old new : List (List T)) : Type 0 where
  pub count : length new ≡ length old
  pub longer : (k : ℕ) (d : T) → k < length column → slice_index_or new k [] ≡ slice_index_or old k [] ++ slice_index_or column k d ∷ []
  pub same : (k : ℕ) → length column ≤ k → slice_index_or new k [] ≡ slice_index_or old k []

-- nothing was taken from the mailbox, which has so many senders and room for so many messages
pub record IsIdle {M : Type 0} (senders room : ℕ) (receiver : Receiver M) : Type 0 where
  pub nothing : received receiver ≡ []
  pub senders_are : senders_of receiver ≡ senders
  pub room_is : room_of receiver ≡ room

-- For each of the senders a row with its end at each mailbox, new and with the sender's number. Nothing was taken from the mailboxes.
pub record IsMesh {M : Type 0} (boxes senders room : ℕ) (rows : List (List (Sender M))) (receivers : List (Receiver M)) : Type 0 where
  pub rows_are : length rows ≡ senders
  pub receivers_are : length receivers ≡ boxes
  pub row_is : (k : ℕ) → k < senders → length (slice_index_or rows k []) ≡ boxes
  pub ends : (k box : ℕ) (s : Sender M) (r : Receiver M) → k < senders → box < boxes → IsNew (slice_index_or receivers box r) k (slice_index_or (slice_index_or rows k []) box s)
  pub idle : (box : ℕ) (r : Receiver M) → box < boxes → IsIdle senders room (slice_index_or receivers box r)
