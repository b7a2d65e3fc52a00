-- The rows and the receivers that are left are enough, and those before are in the seats.
use Rattle.std.proofs.Common.{◌≡◌, ℕ, ◌+◌, ◌<◌, ◌≤◌, length, slice_index_or}
use Rattle.daemon_parts.specs.declared.parts.SeatEnds.{SeatEnds}
use Rattle.daemon_parts.proofs.parts.seats_of.Given as goal

abbrev pub invariant-loop : goal.invariant-loop
invariant-loop l = record {
  many_rows : l.slots ≤ l.counter + length l.rows.items;
  many_receivers : l.slots ≤ l.counter + length l.receivers.items;
  count : length l.seats.items ≡ l.counter;
  rest_rows : (k : ℕ) (d : _) → slice_index_or l.rows.items k d ≡ slice_index_or l.fn.rows.items (l.counter + k) d;
  rest_receivers : (k : ℕ) (d : _) → slice_index_or l.receivers.items k d ≡ slice_index_or l.fn.receivers.items (l.counter + k) d;
  rows : (slot : ℕ) (seat : SeatEnds) (row : _) → slot < l.counter → (slice_index_or l.seats.items slot seat).shards ≡ slice_index_or l.fn.rows.items slot row;
  receivers : (slot : ℕ) (seat : SeatEnds) (receiver : _) → slot < l.counter → (slice_index_or l.seats.items slot seat).offers ≡ slice_index_or l.fn.receivers.items slot receiver;
}
