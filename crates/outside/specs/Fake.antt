-- What a source or a sink in memory is.
use Rattle.std.specs.Prelude.{ℕ, Bool, false, List, [], ◌==◌}
use Rattle.std.specs.List.{list_any}

-- The octets still to come, or those taken; the count of faults; how many calls were made; the numbers of the calls,
-- from 1, that are to fail; and the most octets that a call gives.
pub record Fake : Type 0 where
  pub octets : List ℕ
  pub faults : ℕ
  pub calls : ℕ
  pub fails : List ℕ
  pub most : ℕ

-- the call of this number is to fail
abbrev pub is_to_fail : List ℕ → ℕ → Bool
is_to_fail fails call = list_any (λ number. number == call) fails

-- What a link in memory is: the octets that reads gave and those still to come, and those that writes took; the counts of
-- faults, of ends and of empty writes; how many reads and writes were made; the numbers of those that are to fail;
-- the most octets that a write takes; and whether it was closed.
pub record FakeLink : Type 0 where
  pub given : List ℕ
  pub left : List ℕ
  pub taken : List ℕ
  pub faults : ℕ
  pub ends : ℕ
  pub empties : ℕ
  pub reads : ℕ
  pub writes : ℕ
  pub read_fails : List ℕ
  pub write_fails : List ℕ
  pub most : ℕ
  pub closed : Bool

-- a link on which these octets wait to be read
abbrev pub new_link : List ℕ → List ℕ → List ℕ → ℕ → FakeLink
new_link octets read_fails write_fails most = record {
  given = [];
  left = octets;
  taken = [];
  faults = 0;
  ends = 0;
  empties = 0;
  reads = 0;
  writes = 0;
  read_fails = read_fails;
  write_fails = write_fails;
  most = most;
  closed = false;
}
