use Rattle.std.proofs.Common.{◌≤◌, Bool, not, List, length, filter, Contains, ◌∙◌, refl, sym, ap, subst, inl, arith}
use Rattle.std.proofs.lemmas.Bool.{false≢true}
use Rattle.std.proofs.lemmas.List.Sums.{length-filter, count_by-le-length}
use Rattle.rcp_model.specs.Edges.{same_edge, include_edge}
use Rattle.rcp_model.proofs.GraphLemmas.{include-member, length-include, length-routers}
use Rattle.cost_rows.proofs.PlaceLemmas.{exclude_absent}
use Rattle.spf_incr.proofs.EdgeLemmas.{included_again, excluded_again, not_excluded}
use Rattle.spf_incr.proofs.tests.turn.Goals as goal

-- taking an edge out leaves no more
fewer : {X : Type 0} (p : X → Bool) (xs : List X) → length (filter p xs) ≤ length xs
fewer p xs = subst (λ n. n ≤ length xs) (sym (length-filter p xs)) (count_by-le-length p xs)

pub returns-then-remove-clause-before : goal.returns-then-remove-clause-before
returns-then-remove-clause-before c = rw c.remove.ensures.after (included_again c.args.edge.now c.args.graph.now c.edges-edges.ensures.kept (c.remove.ensures.found.0 c.if-remove.true))

pub returns-then-remove-clause-there : goal.returns-then-remove-clause-there
returns-then-remove-clause-there c = (λ is. absurd (false≢true is), λ member. absurd (not_excluded c.args.edge.now c.args.graph.now (subst (λ edges. Contains edges c.args.edge.now) c.remove.ensures.after member)))

pub returns-then-remove-clause-few : goal.returns-then-remove-clause-few
returns-then-remove-clause-few c =
    let few = fewer (λ b. not (same_edge c.args.edge.now b)) c.args.graph.now in let len = ap length c.remove.ensures.after in omega arith

pub add-requires-clause-few : goal.add-requires-clause-few
add-requires-clause-few c =
    let few = fewer (λ b. not (same_edge c.args.edge.now b)) c.args.graph.now in
    let len = ap length c.remove.ensures.after in
    let most = c.requires.few in
    omega (arith, length-routers (include_edge c.args.edge.now c.remove.new.self), length-include c.args.edge.now c.remove.new.self)

pub returns-clause-before : goal.returns-clause-before
returns-clause-before c =
    let absent : Contains c.args.graph.now c.args.edge.now → ⊥ = λ member. false≢true (sym c.if-remove.false ∙ c.remove.ensures.found.1 member) in
    let same = c.remove.ensures.after ∙ exclude_absent c.args.edge.now c.args.graph.now absent in
    rw (c.in_ok-add.ensures.ok, same) (excluded_again c.args.edge.now c.args.graph.now c.edges-edges.ensures.kept absent)

pub returns-clause-there : goal.returns-clause-there
returns-clause-there c = (λ is. subst (λ edges. Contains edges c.args.edge.now) (sym c.in_ok-add.ensures.ok) (include-member c.args.edge.now c.remove.new.self c.args.edge.now (inl refl)), λ member. refl)

pub returns-clause-few : goal.returns-clause-few
returns-clause-few c =
    let few = fewer (λ b. not (same_edge c.args.edge.now b)) c.args.graph.now in
    let len = ap length c.remove.ensures.after in
    let len' = ap length c.in_ok-add.ensures.ok in
    let more = length-include c.args.edge.now c.remove.new.self in
    omega arith
