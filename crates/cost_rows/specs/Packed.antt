-- A cost or none as one number.
use Rattle.std.specs.Prelude.{◌≡◌, ℕ, Bool, true, false, ◌==◌, Option, Some, None, refl, if◌then◌else◌}
use Rattle.std.proofs.Common.{sym, ap, eqb-true}

-- what stands for no cost
abbrev pub no_cost : ℕ
no_cost = 4294967295

abbrev pub unpacked : ℕ → Option ℕ
unpacked number = if number == no_cost then None else Some number

abbrev pub packed : Option ℕ → ℕ
packed None = no_cost
packed (Some cost) = cost

pub packed-unpacked : {A : Type 0} (made : ℕ → A) (number : ℕ) → made (packed (unpacked number)) ≡ made number
packed-unpacked made number = ap made (at_test (number == no_cost) (eqb-true number no_cost)) where
  at_test : (t : Bool) → (t ≡ true → number ≡ no_cost) → packed (if t then None else Some number) ≡ number
  at_test true is = sym (is refl)
  at_test false is = refl
