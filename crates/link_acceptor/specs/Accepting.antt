-- How many links were handed out.
use Rattle.std.specs.Prelude.{◌≡◌, ◌⊎◌, ℕ, ◌+◌, ◌-◌, ◌^◌}
use Rattle.outside.specs.Told.{raised}

-- a count of links handed out rose by this number, or stands at its last value
abbrev pub RoseBy : ℕ → (before after : ℕ) → Type 0
RoseBy number before after = (after ≡ before + number) ⊎ (after ≡ 2 ^ 64 - 1)

-- no link was handed out, or one
abbrev pub RoseOnce : ℕ → (before after : ℕ) → Type 0
RoseOnce number before after = ((number ≡ 0) × (after ≡ before)) ⊎ ((number ≡ 1) × (after ≡ raised before))
