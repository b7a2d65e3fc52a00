-- The numbers below `number` were given out, each to a sender that has put nothing.
use Rattle.std.proofs.Common.{◌≡◌, ◌<◌, ℕ, length, slice_index_or}
use Rattle.mailbox.specs.Boxes.{received, empties_of, senders_of, room_of, finished, IsNew}
use Rattle.mailbox.proofs.making.enrol_all.Given as goal

abbrev pub invariant-loop-number : goal.invariant-loop-number
invariant-loop-number g l = record {
  senders : senders_of l.receiver ≡ l.number;
  count : length l.all.items ≡ l.number;
  each : (k : ℕ) (d : _) → k < length l.all.items → IsNew l.receiver k (slice_index_or l.all.items k d);
  room : room_of l.receiver ≡ room_of l.initial.receiver;
  taken : received l.receiver ≡ received l.initial.receiver;
  lists : finished l.receiver ≡ finished l.initial.receiver;
  empties : empties_of l.receiver ≡ empties_of l.initial.receiver;
}
