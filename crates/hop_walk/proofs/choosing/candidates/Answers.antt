use Rattle.std.proofs.Common.{◌≡◌, ◌++◌, ◌+◌, ◌<◌, List, length, drop, sym, ap, ◌∙◌, subst, arith}
use Rattle.rcp_model.specs.Decision.{Contender}
use Rattle.rcp_model.specs.RouteServer.{slot_cost, candidates_from, candidates}
use Rattle.hop_walk.proofs.CandidateSteps.{domain_of, passed_none, passed_some, passed_all}
use Rattle.hop_walk.proofs.choosing.candidates.Goals as goal
use Rattle.hop_walk.proofs.choosing.candidates.Goals.{in-Some+in_ok-push, in_default}

pub loop-place-preserved : goal.loop-place-preserved
loop-place-preserved g c =
    let members = g.X.Costs.members c.args.platform.now in
    let domain = domain_of (g.X.Assigned.as_number c.args.platform.now) members in
    let announced = g.X.Assigned.announced c.args.platform.now c.args.prefix in
    let costs = slot_cost (g.X.Costs.edges c.args.platform.now) members c.args.from in
    let all = candidates_from domain announced costs 0 members in
    let within : c.loop-place.place < length members = omega (arith, c.members-place-end.ensures.count, c.loop-place-test.true) in
    elim c.match-candidate_at.branch [
      | in-Some+in_ok-push w ↦
          passed_some domain announced costs members c.loop-place.place within c.candidate_at.result c.candidate_at.ensures c.loop-place.list.items c.match-candidate_at.list.items all
          w.in-Some.candidate w.in-Some.is (ap (λ (v : _). v.items) w.list-is ∙ w.in_ok-push.ensures.items) c.loop-place.invariant
      | in_default w ↦
          subst (λ (l : List Contender). l ++ candidates_from domain announced costs (c.loop-place.place + 1) (drop (c.loop-place.place + 1) members) ≡ all)
          (ap (λ (v : _). v.items) (sym w.list-is))
          (passed_none domain announced costs members c.loop-place.place within c.candidate_at.result c.candidate_at.ensures c.loop-place.list.items all w.in_default.is c.loop-place.invariant)
    ]

pub returns : goal.returns
unfolding candidates
returns g c =
    let members = g.X.Costs.members c.args.platform.now in
    let domain = domain_of (g.X.Assigned.as_number c.args.platform.now) members in
    let announced = g.X.Assigned.announced c.args.platform.now c.args.prefix in
    let costs = slot_cost (g.X.Costs.edges c.args.platform.now) members c.args.from in
    passed_all domain announced costs members c.loop-place.place c.loop-place.list.items (candidates_from domain announced costs 0 members)
    (omega (arith, c.members-place-end.ensures.count, c.loop-place-test.false)) c.loop-place.invariant
