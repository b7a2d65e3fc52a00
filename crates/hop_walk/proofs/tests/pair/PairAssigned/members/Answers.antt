use Rattle.std.proofs.Common.{◌≡◌, ℕ, zero, suc, ◌<◌, ◌≤◌, Bool, true, false, ltb, eqb, cond, ◌&&◌, List, [], ◌∷◌, Option, Some, None, refl, sym, ap, subst, ◌∙◌, inl, inr, arith}
use Rattle.std.specs.Prelude.{◌≢◌, AllPairs, IsTrue}
use Rattle.std.proofs.lemmas.Bool.{ltb-true}
use Rattle.std.proofs.lemmas.Bool.Decides.{nat_tests}
use Rattle.std.proofs.lemmas.List.Elements.{All-nil, All-cons}
use Rattle.std.proofs.lemmas.List.Kept.{AllPairs-cons}
use Rattle.rcp_base.specs.IpPrefix.{IpPrefix}
use Rattle.rcp_base.specs.Maps.{same_prefix}
use Rattle.rcp_base.specs.declared.names.Edge.{Edge}
use Rattle.rcp_base.specs.declared.names.Member.{Member}
use Rattle.rcp_model.specs.Attributes.{number_width}
use Rattle.rcp_model.specs.Costs.{IsTwoWay, cost_through}
use Rattle.rcp_model.specs.Edges.{is_edge_before}
use Rattle.rcp_model.specs.Decision.{Contender, tied, choice}
use Rattle.rcp_model.specs.Routes.{RouteFields, route_in, is_usable}
use Rattle.rcp_model.specs.RouteServer.{Domain, candidates, choice_of, offer, slot_cost}
use Rattle.rcp_model.proofs.MemberLemmas.{Contains-none, Contains-cases, Contains-head, Contains-tail}
use Rattle.rcp_model.proofs.OfferLemmas.{offer-none}
use Rattle.hop_walk.proofs.tests.pair.PairAssigned.members.Goals as goal

abbrev there : Edge
there = record { from = 1; to = 2; cost = 10 }

abbrev back : Edge
back = record { from = 2; to = 1; cost = 10 }

abbrev edges : List Edge
edges = there ∷ back ∷ []

abbrev first : Member
first = record { router = 1; bgp_id = 1 }

abbrev second : Member
second = record { router = 2; bgp_id = 2 }

abbrev domain : Domain
domain = record { as_number = 65000; members = first ∷ second ∷ [] }

same : (n : ℕ) → eqb n n ≡ true
same n = grind (arith, nat_tests)

not_less : (n : ℕ) → ltb n n ≡ false
not_less n = grind (arith, nat_tests)

-- one candidate alone is tied
tied_one : (a : Contender) → tied (a ∷ []) ≡ a ∷ []
unfolding tied
tied_one a = rw (not_less a.pref, not_less a.hops, not_less a.origin, same a.neighbour, not_less a.med) refl

-- what the two are offered where the first announces a usable route
offered : (attrs : List ℕ) → is_usable (route_in number_width 65000 attrs) ≡ true → (slot : ℕ) → slot < 2
    → offer domain (λ s. cond (eqb s 0) (Some attrs) None) edges slot ≡ cond (eqb slot 1) (Some attrs) None
unfolding offer choice_of candidates choice slot_cost cost_through
offered attrs usable zero low = rw (usable, tied_one _) refl
offered attrs usable (suc zero) low = rw (usable, tied_one _) refl
offered attrs usable (suc (suc slot)) low = absurd (omega (arith, low))

-- the same at the prefix and at others
offered_at : (here : Bool) (attrs : List ℕ) → is_usable (route_in number_width 65000 attrs) ≡ true → (slot : ℕ) → slot < 2
    → cond (here && eqb slot 1) (Some attrs) None ≡ offer domain (λ s. cond (here && eqb s 0) (Some attrs) None) edges slot
offered_at true attrs usable slot low = sym (offered attrs usable slot low)
offered_at false attrs usable slot low = sym (offer-none domain (λ _. None) edges slot (λ _. refl))

-- of two elements, each pair is the one
pair_of : {X : Type 0} (R : X → X → Type 0) (x y : X) → R x y → AllPairs R (x ∷ y ∷ [])
pair_of R x y xy =
    AllPairs-cons R x (y ∷ []) (All-cons (R x) y [] xy (All-nil (R x))) (AllPairs-cons R y [] (All-nil (R y)) (λ i j d less within. absurd (omega (arith, less, within))))

two_way : IsTwoWay edges
two_way edge member = elim (Contains-cases there (back ∷ []) edge member) [
  | inl same ↦ (back, Contains-tail there (back ∷ []) back (Contains-head back []), ap (λ (e : Edge). e.to) same, ap (λ (e : Edge). e.from) same)
  | inr rest ↦ elim (Contains-cases back [] edge rest) [
    | inl same ↦ (there, Contains-head there (back ∷ []), ap (λ (e : Edge). e.to) same, ap (λ (e : Edge). e.from) same)
    | inr none ↦ absurd (Contains-none edge none)
  ]
]

pub returns-clause-law : goal.returns-clause-law
returns-clause-law c =
    let same : c.self.inside.route ≡ c.args.self.now.1 = ap (λ (x : IpPrefix × RouteFields). x.1) c.self.view_is in
    let usable : is_usable (route_in number_width 65000 c.args.self.now.1.attrs) ≡ true =
    subst (λ (r : RouteFields). is_usable (route_in number_width 65000 r.attrs) ≡ true) same (ap is_usable (sym c.self.invariant.0) ∙ c.self.invariant.1) in
    record {
      members = record {
        few = omega arith;
        routers = pair_of (λ (a b : Member). a.router ≢ b.router) first second (λ same. omega (arith, same));
        identifiers = pair_of (λ (a b : Member). a.bgp_id ≢ b.bgp_id) first second (λ same. omega (arith, same));
      };
      graph = record {
        rising = pair_of (λ (a b : Edge). IsTrue (is_edge_before a b)) there back refl;
        few = omega arith;
        cheap = All-cons (λ (edge : Edge). edge.cost ≤ 65535) there (back ∷ []) (omega arith)
            (All-cons (λ (edge : Edge). edge.cost ≤ 65535) back [] (omega arith) (All-nil (λ (edge : Edge). edge.cost ≤ 65535)));
      };
      two_way = two_way;
      settled = λ slot p on pending. offered_at (same_prefix p c.args.self.now.0) c.args.self.now.1.attrs usable slot (ltb-true slot 2 on);
    }
