use Rattle.std.proofs.Common.{◌≤◌, [], ◌∷◌, None, refl, sym, arith}
use Rattle.rcp_base.specs.declared.names.Edge.{Edge}
use Rattle.rcp_model.proofs.GraphLemmas.{All-from_members}
use Rattle.rcp_model.proofs.MemberLemmas.{Contains-none}
use Rattle.rcp_model.proofs.OfferLemmas.{offer-none}
use Rattle.hop_walk.proofs.tests.LoneAssigned.members.Goals as goal

pub returns-clause-law : goal.returns-clause-law
returns-clause-law c = record {
  members = record {
    few = omega arith;
    routers = λ i j d less within. absurd (omega (arith, less, within));
    identifiers = λ i j d less within. absurd (omega (arith, less, within));
  };
  graph = record {
    rising = λ i j d less within. absurd (omega (arith, less, within));
    few = omega arith;
    cheap = All-from_members (λ (edge : Edge). edge.cost ≤ 65535) [] (λ edge member. absurd (Contains-none edge member));
  };
  two_way = λ edge member. absurd (Contains-none edge member);
  settled = λ slot p connected pending. sym (offer-none (record { as_number = 65000; members = record { router = 1; bgp_id = 1 } ∷ [] }) (λ _. None) [] slot (λ _. refl));
}
