use Rattle.std.proofs.Common.{◌≡◌, ℕ, zero, suc, ◌<◌, ◌≤◌, ◌⊎◌, List, [], ◌∷◌, Some, None, refl, sym, ap, inl, inr, ◌∙◌, arith}
use Rattle.rcp_base.specs.declared.names.Edge.{Edge}
use Rattle.rcp_base.specs.declared.names.Member.{Member}
use Rattle.rcp_model.specs.Costs.{cost_through}
use Rattle.rcp_model.specs.RouteServer.{slot_cost}
use Rattle.hop_walk.proofs.tests.pair.PairCosts.cost.Goals as goal
use Rattle.hop_walk.proofs.tests.pair.PairCosts.cost.Goals.{then-from-gt1-via-then-from-gt1, then-from-gt1-via-else-from-gt1+then-to-gt1}

abbrev edges : List Edge
edges = record { from = 1; to = 2; cost = 10 } ∷ record { from = 2; to = 1; cost = 10 } ∷ []

abbrev members : List Member
members = record { router = 1; bgp_id = 1 } ∷ record { router = 2; bgp_id = 2 } ∷ []

neither : {A : Type 0} (a b : ℕ) → a ≤ 1 → b ≤ 1 → (1 < a) ⊎ (1 < b) → A
neither a b low below (inl h) = absurd (omega (arith, h))
neither a b low below (inr h) = absurd (omega (arith, h))

no_other : (a b : ℕ) → (1 < a) ⊎ (1 < b) → slot_cost edges members a b ≡ None
unfolding slot_cost
no_other zero zero h = neither 0 0 (omega arith) (omega arith) h
no_other zero (suc zero) h = neither 0 1 (omega arith) (omega arith) h
no_other (suc zero) zero h = neither 1 0 (omega arith) (omega arith) h
no_other (suc zero) (suc zero) h = neither 1 1 (omega arith) (omega arith) h
no_other zero (suc (suc b)) h = refl
no_other (suc zero) (suc (suc b)) h = refl
no_other (suc (suc a)) b h = refl

itself : (a : ℕ) → a ≤ 1 → slot_cost edges members a a ≡ Some 0
unfolding slot_cost cost_through
itself zero low = refl
itself (suc zero) low = refl
itself (suc (suc a)) low = absurd (omega (arith, low))

between : (a b : ℕ) → a ≤ 1 → b ≤ 1 → (a ≡ b → ⊥) → slot_cost edges members a b ≡ Some 10
unfolding slot_cost cost_through
between zero zero low below apart = absurd (apart refl)
between zero (suc zero) low below apart = refl
between (suc zero) zero low below apart = refl
between (suc zero) (suc zero) low below apart = absurd (apart refl)
between zero (suc (suc b)) low below apart = absurd (omega (arith, below))
between (suc zero) (suc (suc b)) low below apart = absurd (omega (arith, below))
between (suc (suc a)) b low below apart = absurd (omega (arith, low))

pub returns-then-from-gt1 : goal.returns-then-from-gt1
returns-then-from-gt1 c = elim c.then-from-gt1.branch [
  | then-from-gt1-via-then-from-gt1 w ↦ sym (no_other c.args.from c.args.to (inl (omega (arith, w.if-from-gt1.true, c.from.view_is))))
  | then-from-gt1-via-else-from-gt1+then-to-gt1 w ↦ sym (no_other c.args.from c.args.to (inr (omega (arith, w.if-to-gt1.true, c.to.view_is))))
]

pub returns-then-from-to : goal.returns-then-from-to
returns-then-from-to c =
    let low : c.args.from ≤ 1 = omega (arith, c.if-from-gt1.false, c.from.view_is) in
    let same : c.args.to ≡ c.args.from = omega (arith, c.if-from-to.true, c.from.view_is, c.to.view_is) in
    sym (ap (slot_cost edges members c.args.from) same ∙ itself c.args.from low)

pub returns : goal.returns
returns c =
    let low : c.args.from ≤ 1 = omega (arith, c.if-from-gt1.false, c.from.view_is) in
    let below : c.args.to ≤ 1 = omega (arith, c.if-to-gt1.false, c.to.view_is) in
    sym (between c.args.from c.args.to low below (λ same. omega (arith, same, c.if-from-to.false, c.from.view_is, c.to.view_is)))
