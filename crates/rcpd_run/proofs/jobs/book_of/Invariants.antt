-- The seats so far are those of their slots, and the ends of the others are left.
use Rattle.std.proofs.Common.{◌≡◌, ℕ, ◌+◌, length, Some, slice_get}
use Rattle.seats.specs.Seats.{SeatOf, IsOffered}
use Rattle.rcpd_run.proofs.jobs.book_of.Given as goal

abbrev pub invariant-loop-slot : goal.invariant-loop-slot
invariant-loop-slot g l = record {
  many : l.slot + length l.rest.items ≡ length l.fn.ends.items;
  rest : (k : ℕ) → slice_get l.rest.items k ≡ slice_get l.fn.ends.items (l.slot + k);
  count : length l.seats.items ≡ l.slot;
  offered : (slot : ℕ) (seat : SeatOf) → slice_get l.seats.items slot ≡ Some seat → IsOffered g.B.SeatNames.shard_mailboxes g.B.SeatNames.offer_mailbox slot seat;
}
