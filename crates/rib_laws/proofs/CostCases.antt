-- The costs of a roster of one router without links.
use Rattle.std.proofs.Common.{◌≡◌, ℕ, zero, suc, ◌<◌, ◌⊎◌, Bool, true, false, cond, eqb, [], ◌∷◌, Option, Some, None, refl, inl, inr, arith}
use Rattle.std.proofs.lemmas.Bool.{eq-eqb, false≢true}
use Rattle.rcp_base.specs.declared.names.Member.{Member}
use Rattle.rcp_model.specs.Costs.{cost_through}
use Rattle.rcp_model.specs.RouteServer.{slot_cost}

pub lone_cost : (member : Member) → slot_cost [] (member ∷ []) 0 0 ≡ Some 0
unfolding slot_cost cost_through
lone_cost member = at_test (eqb member.router member.router) (eq-eqb member.router member.router refl) where
  at_test : (b : Bool) → b ≡ true → cond {A = Option ℕ} b (Some 0) None ≡ Some 0
  at_test true e = refl
  at_test false e = absurd (false≢true e)

pub no_other_cost : (member : Member) (from to : ℕ) → (0 < from) ⊎ (0 < to) → slot_cost [] (member ∷ []) from to ≡ None
unfolding slot_cost
no_other_cost member zero zero (inl over) = absurd (omega (arith, over))
no_other_cost member zero zero (inr over) = absurd (omega (arith, over))
no_other_cost member zero (suc to) over = refl
no_other_cost member (suc from) to over = refl
