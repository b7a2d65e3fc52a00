use Rattle.std.proofs.Common.{◌≡◌, length, true, false, is_some, sym, ap, ◌∙◌, rules, tests, eqb-true, eq-eqb}
use Rattle.std.proofs.lemmas.Bool.{false≢true, ltb-false}
use Rattle.std.proofs.lemmas.List.Sorted.{IsPartitionPoint-from_clause}
use Rattle.std.specs.List.Sorted.{IsPartitionPoint}
use Rattle.lsdb.proofs.Places.{is_pair_before, pairs_partition, least-at, least-not_at, least-past}
use Rattle.lsdb.proofs.links.least_between.Goals as goal
use Rattle.lsdb.proofs.links.least_between.Goals.{After-get}

point : (c : After-get) → IsPartitionPoint (λ edge. is_pair_before c.args.from c.args.to edge ≡ true) (λ edge. is_pair_before c.args.from c.args.to edge ≡ false) c.args.links.now c.partition_point-place.result
point c = IsPartitionPoint-from_clause (is_pair_before c.args.from c.args.to) c.args.links.now c.partition_point-place.result c.partition_point-place.ensures.partitioned
    (pairs_partition c.args.from c.args.to c.args.links.now c.requires) (λ a r f' k. search (rules, tests))

pub returns-in-Some : goal.returns-in-Some
returns-in-Some c =
    let at = point (goal.at.returns-in-Some c).After-get in
    least-at c.args.from c.args.to c.args.links.now c.requires c.partition_point-place.result at.0 at.1 c.in-Some.link.now c.in-Some.ensures.lookup.3.0 c.in-Some.ensures.lookup.1
    (eqb-true c.in-Some.link.now.from c.args.from (sym c.eq.ensures ∙ c.if-eq.true)) (eqb-true c.in-Some.link.now.to c.args.to (sym c.eq-then-eq.ensures ∙ c.if-eq-2.true))

pub returns-in_default : goal.returns-in_default
returns-in_default c =
    let at = point (goal.at.returns-in_default c).After-get in
    least-not_at c.args.from c.args.to c.args.links.now c.requires c.partition_point-place.result at.0 at.1 c.in-Some.link.now c.in-Some.ensures.lookup.3.0 c.in-Some.ensures.lookup.1
    (λ from to. false≢true (sym c.if-eq-2.false ∙ c.eq-then-eq.ensures ∙ eq-eqb c.in-Some.link.now.to c.args.to to))

pub returns-in_default-2 : goal.returns-in_default-2
returns-in_default-2 c =
    let at = point (goal.at.returns-in_default-2 c).After-get in
    least-not_at c.args.from c.args.to c.args.links.now c.requires c.partition_point-place.result at.0 at.1 c.in-Some.link.now c.in-Some.ensures.lookup.3.0 c.in-Some.ensures.lookup.1
    (λ from to. false≢true (sym c.if-eq.false ∙ c.eq.ensures ∙ eq-eqb c.in-Some.link.now.from c.args.from from))

pub returns-in_default-3 : goal.returns-in_default-3
returns-in_default-3 c =
    let at = point (goal.at.returns-in_default-3 c).After-get in
    least-past c.args.from c.args.to c.args.links.now c.requires c.partition_point-place.result at.0 at.1
    (ltb-false c.partition_point-place.result (length c.args.links.now) (sym c.get.ensures.lookup.0 ∙ ap is_some c.in_default.is))
