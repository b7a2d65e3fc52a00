use Rattle.std.proofs.Common.{◌≡◌, ℕ, zero, suc, ◌<◌, ◌⊎◌, List, [], ◌∷◌, Some, None, refl, sym, inl, inr, ◌∙◌, ap₂, arith}
use Rattle.rcp_base.specs.declared.names.Member.{Member}
use Rattle.rcp_model.specs.RouteServer.{slot_cost}
use Rattle.rcp_model.proofs.WalkLemmas.{cost-itself}
use Rattle.replica_law.proofs.tests.LoneCosts.cost.Goals as goal
use Rattle.replica_law.proofs.tests.LoneCosts.cost.Goals.{then-from-gt0-via-then-from-gt0, then-from-gt0-via-else-from-gt0+then-to-gt0}

abbrev lone : ℕ → List Member
lone id = record { router = 167772161; bgp_id = id } ∷ []

no_other : (id a b : ℕ) → (0 < a) ⊎ (0 < b) → slot_cost [] (lone id) a b ≡ None
unfolding slot_cost
no_other id zero zero (inl h) = absurd (omega (arith, h))
no_other id zero zero (inr h) = absurd (omega (arith, h))
no_other id zero (suc b) h = refl
no_other id (suc a) b h = refl

itself : (id : ℕ) → slot_cost [] (lone id) 0 0 ≡ Some 0
unfolding slot_cost
itself id = cost-itself [] 167772161

pub returns-then-from-gt0 : goal.returns-then-from-gt0
returns-then-from-gt0 c = elim c.then-from-gt0.branch [
  | then-from-gt0-via-then-from-gt0 w ↦ sym (no_other c.args.self.now.bgp_id c.args.from c.args.to (inl (omega (arith, w.if-from-gt0.true, c.from.view_is))))
  | then-from-gt0-via-else-from-gt0+then-to-gt0 w ↦ sym (no_other c.args.self.now.bgp_id c.args.from c.args.to (inr (omega (arith, w.if-to-gt0.true, c.to.view_is))))
]

pub returns : goal.returns
returns c =
    let from : c.args.from ≡ 0 = omega (arith, c.if-from-gt0.false, c.from.view_is) in
    let to : c.args.to ≡ 0 = omega (arith, c.if-to-gt0.false, c.to.view_is) in
    sym (ap₂ (λ a b. slot_cost [] (lone c.args.self.now.bgp_id) a b) from to ∙ itself c.args.self.now.bgp_id)
