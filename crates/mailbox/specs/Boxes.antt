-- What contracts see of the ends of a mailbox.
use Rattle.std.specs.Prelude.{◌≡◌, ◌+◌, ◌-◌, ◌^◌, min, ℕ, List, [], ◌++◌, All, length}
use Rattle.std.specs.Arc.{arc_value}
use Rattle.atomic_table.specs.Seated.{TableId}
use Rattle.crossbeam_queue.specs.Passes.{view, ruled_capacity}
use Rattle.mailbox.specs.declared.ends.Sender.{Sender}
use Rattle.mailbox.specs.declared.ends.Receiver.{Receiver}
use Rattle.mailbox.specs.Mail.{part, put_of}

-- one more, or the last value that a count of 64 bits has
abbrev pub counted : ℕ → ℕ
counted count = min (count + 1) (2 ^ 64 - 1)

module _ {M : Type 0} where
  -- what was put under the sender's number, in its order
  abbrev pub sent : Sender M → List M
  sent s = put_of (view s.pass)

  -- which mailbox it is
  abbrev pub mailbox_of : Sender M → TableId
  mailbox_of s = s.pass.table_id

  -- the sender's number
  abbrev pub number_of : Sender M → ℕ
  number_of s = s.number

  -- how often the sender was refused, a count of 64 bits that saturates
  abbrev pub refusals_of : Sender M → ℕ
  refusals_of s = s.refusals

  -- how many messages the mailbox has room for
  abbrev pub capacity_of : Sender M → ℕ
  capacity_of s = ruled_capacity (arc_value s.shared).line

  -- it is the same end of the same mailbox
  pub record IsSameSender (old new : Sender M) : Type 0 where
    pub mailbox : mailbox_of new ≡ mailbox_of old
    pub number : number_of new ≡ number_of old
    pub room : capacity_of new ≡ capacity_of old

  -- which mailbox it is
  abbrev pub mailbox_at : Receiver M → TableId
  mailbox_at r = r.pass.table_id

  -- how often the receiver found nothing, a count of 64 bits that saturates
  abbrev pub empties_of : Receiver M → ℕ
  empties_of r = r.empties

  -- what the receiver took, each message with its sender's number, in its order
  abbrev pub received : Receiver M → List (ℕ × M)
  received r = (view r.pass).taken

  -- how many sender numbers were given out
  abbrev pub senders_of : Receiver M → ℕ
  senders_of r = (view r.pass).made

  -- the numbers of the senders that were taken back, each with what was put under it
  abbrev pub finished : Receiver M → List (ℕ × List M)
  finished r = (view r.pass).held

  -- how many messages the receiver's mailbox has room for
  abbrev pub room_of : Receiver M → ℕ
  room_of r = ruled_capacity (arc_value r.shared).line

  -- it is the receiver of the same mailbox
  pub record IsSameReceiver (old new : Receiver M) : Type 0 where
    pub mailbox : mailbox_at new ≡ mailbox_at old
    pub senders : senders_of new ≡ senders_of old
    pub room : room_of new ≡ room_of old

  -- the sender belongs to the receiver's mailbox
  abbrev pub IsOf : Receiver M → Sender M → Type 0
  IsOf r s = mailbox_of s ≡ mailbox_at r

  -- the sender with this number, which has put nothing and was refused nothing
  pub record IsNew (r : Receiver M) (k : ℕ) (s : Sender M) : Type 0 where
    pub mailbox : IsOf r s
    pub number : number_of s ≡ k
    pub nothing : sent s ≡ []
    pub refusals : refusals_of s ≡ 0
    pub room : capacity_of s ≡ room_of r

  -- the sender's number, and what was put under it
  abbrev pub entry : Sender M → ℕ × List M
  entry s = (number_of s, sent s)

  -- with these messages queued, what was put under each number is what was taken of it and then what is queued of it
  abbrev pub Mail : List (ℕ × M) → List (ℕ × M) → List (ℕ × List M) → Type 0
  Mail taken queued lists = All (λ l. l.1 ≡ part l.0 (taken ++ queued)) lists

  -- so many messages were queued where this was put under the number; with those that were taken by then they have it all
  abbrev pub WasFull : ℕ → ℕ → List M → Type 0
  WasFull room k put = (queued : List (ℕ × M)) × (taken : List (ℕ × M)) × (length queued ≡ room) × (put ≡ part k (taken ++ queued))
