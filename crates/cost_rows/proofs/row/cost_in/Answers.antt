use Rattle.std.proofs.Common.{◌≡◌, nat_lt, Some, None, slice_get, true, false, cond, refl, sym, ◌∙◌, ap, rules, tests}
use Rattle.std.specs.List.Sorted.{IsPartitionPoint}
use Rattle.std.proofs.lemmas.List.Sorted.{IsPartitionPoint-from_clause}
use Rattle.std.proofs.lemmas.Option.{slice_get_past, slice_get_read}
use Rattle.rcp_base.specs.Maps.{get_at}
use Rattle.rcp_model.specs.LinkState.{same_number}
use Rattle.cost_rows.proofs.LookupLemmas.{routers_partition, get_at_place, cost_of_pair}
use Rattle.cost_rows.proofs.row.cost_in.Goals as goal
use Rattle.cost_rows.proofs.row.cost_in.Goals.{After-partition_point-place}

-- the cost is that of the pair at the place
at_place : (c : After-partition_point-place) → get_at same_number c.args.router c.args.pairs.now ≡ cost_of_pair c.args.router (slice_get c.args.pairs.now c.partition_point-place.result)
at_place c =
    let point : IsPartitionPoint (λ (pair : _). nat_lt pair.0 c.args.router ≡ true) (λ (pair : _). nat_lt pair.0 c.args.router ≡ false) c.args.pairs.now c.partition_point-place.result =
    IsPartitionPoint-from_clause (λ (pair : _). nat_lt pair.0 c.args.router) c.args.pairs.now c.partition_point-place.result c.partition_point-place.ensures.partitioned
    (routers_partition c.args.pairs.now c.requires c.args.router) (λ a r f' k. search (rules, tests)) in
    get_at_place c.args.router c.args.pairs.now c.partition_point-place.result c.requires point.0 point.1

pub returns-in_err-pair : goal.returns-in_err-pair
returns-in_err-pair c =
    c.from_residual.ensures ∙ sym (at_place (goal.at.returns-in_err-pair c).After-partition_point-place
    ∙ ap (cost_of_pair c.args.router) (slice_get_past c.args.pairs.now c.partition_point-place.result c.in_err-pair.ensures.lookup.3))

pub returns-then-eq : goal.returns-then-eq
returns-then-eq c =
    sym (at_place (goal.at.returns-then-eq c).After-partition_point-place
    ∙ ap (cost_of_pair c.args.router) (slice_get_read c.args.pairs.now _ c.partition_point-place.result c.in_ok-pair.pair.now refl c.in_ok-pair.ensures.lookup.3.0 c.in_ok-pair.ensures.lookup.1)
    ∙ ap (λ t. cond t (Some c.in_ok-pair.pair.now.1) None) (sym c.eq.ensures ∙ c.if-eq.true))

pub returns-else-eq : goal.returns-else-eq
returns-else-eq c =
    sym (at_place (goal.at.returns-else-eq c).After-partition_point-place
    ∙ ap (cost_of_pair c.args.router) (slice_get_read c.args.pairs.now _ c.partition_point-place.result c.in_ok-pair.pair.now refl c.in_ok-pair.ensures.lookup.3.0 c.in_ok-pair.ensures.lookup.1)
    ∙ ap (λ t. cond t (Some c.in_ok-pair.pair.now.1) None) (sym c.eq.ensures ∙ c.if-eq.false))
