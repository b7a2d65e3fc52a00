use Rattle.std.proofs.Common.{◌≡◌, ◌+◌, ℕ, ◌++◌, ◌∷◌, [], List, take, refl, sym, ap, subst, ◌∙◌}
use Rattle.std.specs.List.Sorted.{IsStrictlyIncreasing}
use Rattle.std.proofs.lemmas.List.{take_more, take_all}
use Rattle.replica_law.specs.Replicas.{Replica, replica_of}
use Rattle.replica_law.specs.Steps.{AreLeastOfRoster}
use Rattle.replica_law.proofs.DifferenceLemmas.{AreAnswersTo, answer_is, answers_none, answers_more, answers_all, least_listed}
use Rattle.replica_law.proofs.agreeing.agree.Goals as goal

pub loop-least-init : goal.loop-least-init
loop-least-init g c =
    let first : Replica = replica_of (g.X.Assigned.as_number c.args.first.now) (g.X.Costs.members c.args.first.now) (g.X.Costs.edges c.args.first.now) (g.X.Assigned.connected c.args.first.now)
    (g.X.Assigned.announced c.args.first.now) (g.X.Assigned.given c.args.first.now) (g.X.Assigned.pending c.args.first.now) in
    let second : Replica = replica_of (g.Y.Assigned.as_number c.args.second.now) (g.Y.Costs.members c.args.second.now) (g.Y.Costs.edges c.args.second.now) (g.Y.Assigned.connected c.args.second.now)
    (g.Y.Assigned.announced c.args.second.now) (g.Y.Assigned.given c.args.second.now) (g.Y.Assigned.pending c.args.second.now) in
    answers_none first second [] c.new-answers.result.items refl c.new-answers.ensures.items

pub difference_at-requires-clause-least : goal.difference_at-requires-clause-least
difference_at-requires-clause-least g c =
    least_listed (g.X.Costs.edges c.args.first.now) (g.X.Costs.members c.args.first.now) c.in_ok-leasts.leasts.items c.loop-least.least-index c.least-item.result c.members-first_law.ensures.law.two_way
    (rw (c.in_ok-found.ensures.first_edges, c.in_ok-found.ensures.first_members) at c.in_ok-leasts.ensures.exact)
    (rw c.as_slice-least-items.ensures.value at c.loop-least-test.true) (rw c.as_slice-least-items.ensures.value at c.least-item.is)

pub loop-least-preserved : goal.loop-least-preserved
loop-least-preserved g c =
    let first : Replica = replica_of (g.X.Assigned.as_number c.args.first.now) (g.X.Costs.members c.args.first.now) (g.X.Costs.edges c.args.first.now) (g.X.Assigned.connected c.args.first.now)
    (g.X.Assigned.announced c.args.first.now) (g.X.Assigned.given c.args.first.now) (g.X.Assigned.pending c.args.first.now) in
    let second : Replica = replica_of (g.Y.Assigned.as_number c.args.second.now) (g.Y.Costs.members c.args.second.now) (g.Y.Costs.edges c.args.second.now) (g.Y.Assigned.connected c.args.second.now)
    (g.Y.Assigned.announced c.args.second.now) (g.Y.Assigned.given c.args.second.now) (g.Y.Assigned.pending c.args.second.now) in
    let items = c.as_slice-least-items.result.now in
    answers_more first second (take c.loop-least.least-index items) (take (c.loop-least.least-index + 1) items) c.least-item.result c.loop-least.answers.items c.push.new.self.items
    (record { least = c.least-item.result; difference = c.in_ok-difference.difference }) c.loop-least.invariant
    (take_more items c.loop-least.least-index c.least-item.result c.loop-least-test.true ∙ ap (λ (l : ℕ). take c.loop-least.least-index items ++ l ∷ []) (sym c.least-item.is)) refl
    (answer_is first second c.least-item.result c.in_ok-difference.difference c.members-first_law.ensures.law c.members-second_law.ensures.law c.in_ok-difference.ensures)
    c.in_ok-push.ensures.items

pub returns : goal.returns
returns g c =
    let first : Replica = replica_of (g.X.Assigned.as_number c.args.first.now) (g.X.Costs.members c.args.first.now) (g.X.Costs.edges c.args.first.now) (g.X.Assigned.connected c.args.first.now)
    (g.X.Assigned.announced c.args.first.now) (g.X.Assigned.given c.args.first.now) (g.X.Assigned.pending c.args.first.now) in
    let second : Replica = replica_of (g.Y.Assigned.as_number c.args.second.now) (g.Y.Costs.members c.args.second.now) (g.Y.Costs.edges c.args.second.now) (g.Y.Assigned.connected c.args.second.now)
    (g.Y.Assigned.announced c.args.second.now) (g.Y.Assigned.given c.args.second.now) (g.Y.Assigned.pending c.args.second.now) in
    let items = c.as_slice-least-items.result.now in
    let all : take c.loop-least.least-index items ≡ c.in_ok-leasts.leasts.items = take_all c.loop-least.least-index items c.loop-least-test.false ∙ c.as_slice-least-items.ensures.value in
    answers_all first second c.in_ok-leasts.leasts.items c.loop-least.answers.items c.members-first_law.ensures.law.two_way c.in_ok-leasts.ensures.rising
    (rw (c.in_ok-found.ensures.first_edges, c.in_ok-found.ensures.first_members) at c.in_ok-leasts.ensures.exact)
    (subst (λ (ls : List ℕ). AreAnswersTo first second ls c.loop-least.answers.items) all c.loop-least.invariant)
