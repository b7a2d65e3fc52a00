use Rattle.std.proofs.Common.{◌≤◌, [], ◌∷◌, None, refl, sym, arith}
use Rattle.rcp_base.specs.declared.names.Edge.{Edge}
use Rattle.rcp_model.proofs.GraphLemmas.{All-from_members}
use Rattle.rcp_model.proofs.MemberLemmas.{Contains-none}
use Rattle.rcp_model.proofs.OfferLemmas.{offer-none}
use Rattle.replica_law.proofs.tests.LoneAssigned.members.Goals as goal

pub returns-clause-law : goal.returns-clause-law
returns-clause-law c = record {
  members = record {
    few = omega arith;
    routers = λ i j d less within. absurd (omega (arith, less, within));
    identifiers = λ i j d less within. absurd (omega (arith, less, within));
  };
  graph = record {
    rising = λ i j d less within. absurd (omega (arith, less, within));
    few = omega arith;
    cheap = All-from_members (λ (edge : Edge). edge.cost ≤ 65535) [] (λ edge member. absurd (Contains-none edge member));
  };
  two_way = λ edge member. absurd (Contains-none edge member);
  settled = λ slot p connected pending. sym (offer-none (record { as_number = c.args.self.now.as_number; members = record { router = 167772161; bgp_id = c.args.self.now.bgp_id } ∷ [] }) (λ _. None) [] slot (λ _. refl));
}
