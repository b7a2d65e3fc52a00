use Rattle.std.proofs.Common.{◌≢◌, ◌∷◌, [], AllPairs, arith}
use Rattle.std.proofs.lemmas.List.Elements.{All-nil, All-cons}
use Rattle.std.proofs.lemmas.List.Kept.{AllPairs-cons}
use Rattle.cost_rows.proofs.tests.members.Goals as goal

three : {X : Type 0} (R : X → X → Type 0) (x y z : X) → R x y → R x z → R y z → AllPairs R (x ∷ y ∷ z ∷ [])
three R x y z xy xz yz =
    AllPairs-cons R x (y ∷ z ∷ []) (All-cons (R x) y (z ∷ []) xy (All-cons (R x) z [] xz (All-nil (R x))))
    (AllPairs-cons R y (z ∷ []) (All-cons (R y) z [] yz (All-nil (R y))) (AllPairs-cons R z [] (All-nil (R z)) (λ i j d less within. absurd (omega arith))))

pub returns : goal.returns
returns c = record {
  few = omega arith;
  routers = three (λ a b. a.router ≢ b.router) _ _ _ (λ e. omega arith) (λ e. omega arith) (λ e. omega arith);
  identifiers = three (λ a b. a.bgp_id ≢ b.bgp_id) _ _ _ (λ e. omega arith) (λ e. omega arith) (λ e. omega arith);
}
