use Rattle.std.proofs.Common.{◌≡◌, Bool, true, eqb, List, [], ◌∷◌, sym, ap, refl, ◌∙◌}
use Rattle.std.specs.Cmp.Lexicographic.{pointwise}
use Rattle.std.proofs.lemmas.Bool.{false≢true, and_parts, eqb-true}
use Rattle.rcp_base.specs.declared.names.Member.{Member}
use Rattle.rcp_base.specs.contracts.names.MemberPartialEq.TheImpl.{eq-value}
use Rattle.cost_rows.specs.Views.{ViewOf}
use Rattle.shard_cases.proofs.tests.change.Goals as goal

-- lists that a test finds equal, where it finds no two others so
lists_same : {X : Type 0} (E : X → X → Bool) → ((a b : X) → E a b ≡ true → a ≡ b) → (xs ys : List X) → pointwise E xs ys ≡ true → xs ≡ ys
lists_same E sound [] [] e = refl
lists_same E sound [] (y ∷ ys) e = absurd (false≢true e)
lists_same E sound (x ∷ xs) [] e = absurd (false≢true e)
lists_same E sound (x ∷ xs) (y ∷ ys) e = let both = and_parts (E x y) (pointwise E xs ys) e in λ i. sound x y both.0 i ∷ lists_same E sound xs ys both.1 i

members_same : (a b : Member) → eq-value.it a b ≡ true → a ≡ b
members_same a b e =
    let both = and_parts (eqb a.router b.router) (eqb a.bgp_id b.bgp_id) e in
    λ i. record { router = eqb-true a.router b.router both.0 i; bgp_id = eqb-true a.bgp_id b.bgp_id both.1 i }

pub view-requires : goal.view-requires
view-requires c =
    let same = lists_same eq-value.it members_same c.members.result.now c.members-2.result.now (sym c.eq.ensures ∙ c.if-eq.true) in
    ap (λ (v : ViewOf). v.members) (sym c.deref.ensures) ∙ sym c.members-2.ensures.members ∙ sym same ∙ c.members.ensures.members
