use Rattle.std.proofs.Common.{◌≡◌, List, Some, IsSome, sym, ap, subst, ◌∙◌}
use Rattle.rcp_base.specs.declared.names.Edge.{Edge}
use Rattle.rcp_model.specs.Costs.{cost}
use Rattle.rcp_model.specs.RouteServer.{router_at}
use Rattle.hop_walk.specs.Hops.{IsPath}
use Rattle.hop_walk.specs.Ways.{WaysOf, IsFreeTo, IsLeastFreeTo}
use Rattle.hop_walk.proofs.CandidateSteps.{domain_of}
use Rattle.hop_walk.proofs.StepLemmas.{router-get}
use Rattle.hop_walk.proofs.AnswerLemmas.{hop_law, chosen_is, egress_within, egress_reached, positive_from, least_from, path-few}
use Rattle.hop_walk.proofs.walking.walk.Goals as goal

pub returns-in_default-choose-clause-refused : goal.returns-in_default-choose-clause-refused
returns-in_default-choose-clause-refused g c =
    let members = g.X.Costs.members c.args.platform.now in
    let domain = domain_of (g.X.Assigned.as_number c.args.platform.now) members in
    let announced = g.X.Assigned.announced c.args.platform.now c.args.prefix in
    rw c.refused-in_default-choose.ensures (
      c.in-Some.slot,
      record { seat = c.in-Some.ensures.found.1; session = c.in-Some.ensures.found.2 },
      sym c.is_pending.ensures ∙ c.if-is_pending.false,
      chosen_is domain announced (g.X.Costs.edges c.args.platform.now) c.in-Some.slot c.as_slice.result.now c.choose.result (c.as_slice.ensures.value ∙ c.in_ok-list.ensures) c.choose.ensures.chosen ∙ c.in_default-choose.is,
    )

pub router-end-requires : goal.router-end-requires
router-end-requires g c =
    let members = g.X.Costs.members c.args.platform.now in
    let edges = g.X.Costs.edges c.args.platform.now in
    let domain = domain_of (g.X.Assigned.as_number c.args.platform.now) members in
    let announced = g.X.Assigned.announced c.args.platform.now c.args.prefix in
    let slot = c.in-Some.slot in
    let egress = c.in-Some-choose.egress in
    let chosen = chosen_is domain announced edges slot c.as_slice.result.now c.choose.result (c.as_slice.ensures.value ∙ c.in_ok-list.ensures) c.choose.ensures.chosen ∙ c.in-Some-choose.is in
    egress_within domain announced edges slot egress chosen

pub returns-in-Some-least_free-clause-refused : goal.returns-in-Some-least_free-clause-refused
returns-in-Some-least_free-clause-refused g c =
    let members = g.X.Costs.members c.args.platform.now in
    let edges = g.X.Costs.edges c.args.platform.now in
    let domain = domain_of (g.X.Assigned.as_number c.args.platform.now) members in
    let announced = g.X.Assigned.announced c.args.platform.now c.args.prefix in
    let slot = c.in-Some.slot in
    let egress = c.in-Some-choose.egress in
    let chosen = chosen_is domain announced edges slot c.as_slice.result.now c.choose.result (c.as_slice.ensures.value ∙ c.in_ok-list.ensures) c.choose.ensures.chosen ∙ c.in-Some-choose.is in
    let end = c.router-end.result in
    let at : router_at members egress ≡ Some end = router-get members egress ∙ c.router-end.ensures in
    let reached = egress_reached domain announced edges slot egress c.args.router end chosen c.in-Some.ensures.found.1 at in
    let ways_are : c.in_ok-ways.ways ≡ record { edges = edges; end = end } = c.in_ok-ways.ensures ∙ ap (λ (es : List Edge). record { edges = es; end = end }) c.in_ok-graph.ensures in
    let least = subst (λ (w : WaysOf). IsLeastFreeTo w.edges w.end c.in-Some-least_free.edge) ways_are c.in-Some-least_free.ensures in
    rw c.refused-in-Some-least_free.ensures (
      slot,
      egress,
      record {
        connected = record { seat = c.in-Some.ensures.found.1; session = c.in-Some.ensures.found.2 };
        settled = sym c.is_pending.ensures ∙ c.if-is_pending.false;
        chooses = chosen;
      },
      least_from edges c.members-law.ensures.law.two_way c.args.router end reached c.in-Some-least_free.edge least,
    )

pub path_from-requires-clause-reached : goal.path_from-requires-clause-reached
path_from-requires-clause-reached g c =
    let members = g.X.Costs.members c.args.platform.now in
    let edges = g.X.Costs.edges c.args.platform.now in
    let domain = domain_of (g.X.Assigned.as_number c.args.platform.now) members in
    let announced = g.X.Assigned.announced c.args.platform.now c.args.prefix in
    let slot = c.in-Some.slot in
    let egress = c.in-Some-choose.egress in
    let chosen = chosen_is domain announced edges slot c.as_slice.result.now c.choose.result (c.as_slice.ensures.value ∙ c.in_ok-list.ensures) c.choose.ensures.chosen ∙ c.in-Some-choose.is in
    let end = c.router-end.result in
    let at : router_at members egress ≡ Some end = router-get members egress ∙ c.router-end.ensures in
    let reached = egress_reached domain announced edges slot egress c.args.router end chosen c.in-Some.ensures.found.1 at in
    let ways_are : c.in_ok-ways.ways ≡ record { edges = edges; end = end } = c.in_ok-ways.ensures ∙ ap (λ (es : List Edge). record { edges = es; end = end }) c.in_ok-graph.ensures in
    subst (λ (w : WaysOf). IsSome (cost w.edges c.args.router w.end)) (sym ways_are) reached

pub returns-clause-path : goal.returns-clause-path
returns-clause-path g c =
    let members = g.X.Costs.members c.args.platform.now in
    let edges = g.X.Costs.edges c.args.platform.now in
    let domain = domain_of (g.X.Assigned.as_number c.args.platform.now) members in
    let announced = g.X.Assigned.announced c.args.platform.now c.args.prefix in
    let slot = c.in-Some.slot in
    let egress = c.in-Some-choose.egress in
    let chosen = chosen_is domain announced edges slot c.as_slice.result.now c.choose.result (c.as_slice.ensures.value ∙ c.in_ok-list.ensures) c.choose.ensures.chosen ∙ c.in-Some-choose.is in
    let end = c.router-end.result in
    let at : router_at members egress ≡ Some end = router-get members egress ∙ c.router-end.ensures in
    let reached = egress_reached domain announced edges slot egress c.args.router end chosen c.in-Some.ensures.found.1 at in
    let ways_are : c.in_ok-ways.ways ≡ record { edges = edges; end = end } = c.in_ok-ways.ensures ∙ ap (λ (es : List Edge). record { edges = es; end = end }) c.in_ok-graph.ensures in
    let law = c.members-law.ensures.law in
    let none = subst (λ (w : WaysOf). (edge : Edge) → IsFreeTo w.edges w.end edge → ⊥) ways_are c.in_default-least_free.ensures in
    let path = c.in_ok-path_from.field-0.items in
    let is_path = subst (λ (w : WaysOf). IsPath w.edges w.end c.args.router path) ways_are c.in_ok-path_from.ensures in
    let positive = positive_from edges law.two_way c.args.router end reached none in
    record {
      slot = slot;
      egress = egress;
      end = end;
      chosen = record {
        connected = record { seat = c.in-Some.ensures.found.1; session = c.in-Some.ensures.found.2 };
        settled = sym c.is_pending.ensures ∙ c.if-is_pending.false;
        chooses = chosen;
      };
      seat = at;
      positive = positive;
      is_path = is_path;
      few = path-few edges c.args.router end path none is_path;
      led = hop_law domain edges (g.X.Assigned.connected c.args.platform.now) (g.X.Assigned.announced c.args.platform.now) (g.X.Assigned.given c.args.platform.now)
          (g.X.Assigned.pending c.args.platform.now) c.args.prefix law c.args.router slot egress record {
            connected = record { seat = c.in-Some.ensures.found.1; session = c.in-Some.ensures.found.2 };
            settled = sym c.is_pending.ensures ∙ c.if-is_pending.false;
            chooses = chosen;
          } positive;
    }
