-- Egresses: which of the tied slots a slot sends to.
use Rattle.std.specs.Prelude.{◌≡◌, ◌≢◌, ℕ, Bool, true, ◌==◌, ◌&&◌, ◌||◌, ◌⊎◌, ◌↔◌, List, slice_get, Contains, Option, Some, None, IsSome, nat_lt}
use Rattle.rcp_base.specs.declared.names.Member.{Member}
use Rattle.rcp_model.specs.Decision.{Contender, tied}
use Rattle.cost_rows.specs.Views.{identifier_at, is_nearer_slot}

-- whether a slot is marked, where there is a mark for each slot
abbrev pub IsMarked : List Bool → ℕ → Type 0
IsMarked marks slot = slice_get marks slot ≡ Some true

-- the lower cost, then the lower identifier
abbrev pub nearer_pair : ℕ → ℕ → ℕ → ℕ → Bool
nearer_pair m id n other_id = nat_lt m n || m == n && nat_lt id other_id

-- The egress of a slot among tied ones: itself where it is tied, else the one that is reached and nearer than each other. None where no tied slot is reached.
abbrev pub IsEgress : List Member → (ℕ → Option ℕ) → ℕ → (ℕ → Type 0) → Option ℕ → Type 0
IsEgress members cost slot IsTied None = (e : ℕ) → IsTied e → (e ≢ slot) × (cost e ≡ None)
IsEgress members cost slot IsTied (Some e) =
    IsTied e × ((e ≡ slot) ⊎ ((IsTied slot → ⊥) × IsSome (cost e) × ((other : ℕ) → IsTied other → other ≢ e → is_nearer_slot members cost e other)))

-- the tied slots are those of the candidates that the decision's filters leave of a list
abbrev pub AreTiedOf : List Contender → (ℕ → Type 0) → Type 0
AreTiedOf list IsTied = (e : ℕ) → IsTied e ↔ ((a : Contender) × Contains (tied list) a × (a.slot ≡ e))

-- candidates of members that are reached
abbrev pub AreReached : List Member → (ℕ → Option ℕ) → List Contender → Type 0
AreReached members cost list = (a : Contender) → Contains list a → (a.id ≡ identifier_at members a.slot) × IsSome (cost a.slot)
