use Rattle.std.proofs.Common.{◌≢◌, ◌∷◌, [], AllPairs, arith}
use Rattle.std.proofs.lemmas.List.Elements.{All-nil, All-cons}
use Rattle.std.proofs.lemmas.List.Kept.{AllPairs-cons}
use Rattle.replica_law.proofs.tests.recorded.members.Goals as goal

four : {X : Type 0} (R : X → X → Type 0) (w x y z : X) → R w x → R w y → R w z → R x y → R x z → R y z → AllPairs R (w ∷ x ∷ y ∷ z ∷ [])
four R w x y z wx wy wz xy xz yz =
    AllPairs-cons R w (x ∷ y ∷ z ∷ []) (All-cons (R w) x (y ∷ z ∷ []) wx (All-cons (R w) y (z ∷ []) wy (All-cons (R w) z [] wz (All-nil (R w)))))
    (AllPairs-cons R x (y ∷ z ∷ []) (All-cons (R x) y (z ∷ []) xy (All-cons (R x) z [] xz (All-nil (R x))))
    (AllPairs-cons R y (z ∷ []) (All-cons (R y) z [] yz (All-nil (R y))) (AllPairs-cons R z [] (All-nil (R z)) (λ i j d less within. absurd (omega (arith, less, within))))))

pub returns : goal.returns
returns c =
    let a = c.member.ensures in
    let b = c.member-2.ensures in
    let d = c.member-3.ensures in
    let e = c.member-4.ensures in
    record {
      few = omega arith;
      routers = four (λ m n. m.router ≢ n.router) c.member.result c.member-2.result c.member-3.result c.member-4.result (λ s. omega (arith, s, a, b)) (λ s. omega (arith, s, a, d)) (λ s. omega (arith, s, a, e))
          (λ s. omega (arith, s, b, d)) (λ s. omega (arith, s, b, e)) (λ s. omega (arith, s, d, e));
      identifiers = four (λ m n. m.bgp_id ≢ n.bgp_id) c.member.result c.member-2.result c.member-3.result c.member-4.result (λ s. omega (arith, s, a, b)) (λ s. omega (arith, s, a, d)) (λ s. omega (arith, s, a, e))
          (λ s. omega (arith, s, b, d)) (λ s. omega (arith, s, b, e)) (λ s. omega (arith, s, d, e));
    }
