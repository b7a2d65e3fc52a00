-- What contracts see of a link: the octets that it gave and took, and its counts.
use Rattle.std.specs.Prelude.{◌≡◌, ℕ, ◌-◌, ◌^◌, ◌≤◌, min, Bool, List, Option}
use Rattle.outside.specs.Told.{behind}

pub record WireOf : Type 0 where
  pub given : Option (List ℕ)
  pub taken : Option (List ℕ)
  pub closed : Option Bool
  pub faults : ℕ
  pub ends : ℕ
  pub empties : ℕ

-- the record of what a link's trait says of it
abbrev pub wire_by : {A : Type 0} → (given taken : A → Option (List ℕ)) → (closed : A → Option Bool) → (faults ends empties : A → ℕ) → A → WireOf
wire_by given taken closed faults ends empties link = record {
  given = given link;
  taken = taken link;
  closed = closed link;
  faults = faults link;
  ends = ends link;
  empties = empties link;
}

-- a count of 64 bits that saturates didn't fall
abbrev pub HasNotFallen : ℕ → ℕ → Type 0
HasNotFallen before now = min before (2 ^ 64 - 1) ≤ now

-- no count fell
pub record HasRisen (old new : WireOf) : Type 0 where
  pub faults : HasNotFallen old.faults new.faults
  pub ends : HasNotFallen old.ends new.ends
  pub empties : HasNotFallen old.empties new.empties

-- these octets were written to the link, and nothing was read
pub record Wrote (octets : List ℕ) (old new : WireOf) : Type 0 where
  pub taken : new.taken ≡ behind old.taken octets
  pub given : new.given ≡ old.given
  pub closed : new.closed ≡ old.closed
  pub ends : new.ends ≡ old.ends
  pub risen : HasRisen old new
