-- The first of some checks that fails.
use Rattle.std.proofs.Common.{◌≡◌, Bool, true, false, cond, List, [], ◌∷◌, Option, Some, None, refl, sym}
use Rattle.std.specs.Prelude.{is_none}
use Rattle.std.specs.List.{AllByRecursion}
use Rattle.std.proofs.lemmas.Option.{none-some}
use Rattle.rcp_base.specs.Checks.{first_failing}
use Rattle.rcp_model.specs.Messages.{FaultOf}
use Rattle.rcp_model.specs.Attributes.{or_else}

cond-None : (b : Bool) (f : FaultOf) (o : Option FaultOf) → cond b (Some f) o ≡ None → (b ≡ false) × (o ≡ None)
cond-None true f o e = absurd (none-some f (sym e))
cond-None false f o e = (refl, e)

abbrev pub HasPassed : Bool × FaultOf → Type 0
HasPassed check = check.0 ≡ false

-- there is no fault exactly where all checks are passed
pub all_passed : (checks : List (Bool × FaultOf)) → first_failing checks ≡ None → AllByRecursion HasPassed checks
all_passed [] e = tt
all_passed (check ∷ checks) e = let first = cond-None check.0 check.1 (first_failing checks) e in (first.0, all_passed checks first.1)

pub first_failing-None : (checks : List (Bool × FaultOf)) → AllByRecursion HasPassed checks → first_failing checks ≡ None
first_failing-None [] each = refl
first_failing-None (check ∷ checks) each = let first : check.0 ≡ false = each.0 in rw first (first_failing-None checks each.1)

pub or_else-None : (a b : Option FaultOf) → or_else a b ≡ None → (a ≡ None) × (b ≡ None)
or_else-None None b e = (refl, e)
or_else-None (Some a) b e = absurd (none-some a (sym e))

pub is_none-true : {A : Type 0} (o : Option A) → is_none o ≡ true → o ≡ None
is_none-true None e = refl
is_none-true (Some a) e = cc

pub is_none-false : {A : Type 0} (o : Option A) → is_none o ≡ false → o ≡ None → ⊥
is_none-false None e none = cc
is_none-false (Some a) e none = none-some a (sym none)
