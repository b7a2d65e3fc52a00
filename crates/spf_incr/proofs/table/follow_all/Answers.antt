use Rattle.std.proofs.Common.{map, length, set, ap, ◌∙◌, sym, subst, arith}
use Rattle.std.proofs.lemmas.List.{length-map, map-set}
use Rattle.cost_rows.specs.Search.{IsFound}
use Rattle.spf_incr.proofs.TableLemmas.{item_row, router_item}
use Rattle.spf_incr.proofs.FollowLemmas.{following_next, following_ends}
use Rattle.spf_incr.proofs.table.follow_all.Goals as goal

pub follow-requires-clause-root : goal.follow-requires-clause-root
follow-requires-clause-root c = c.requires.way.4.named c.loop-slot.slot c.index-members-slot.result.router (router_item c.args.members.now c.loop-slot.slot c.index-members-slot.result c.loop-slot-test.true c.index-members-slot.is)

pub follow-requires-clause-way : goal.follow-requires-clause-way
follow-requires-clause-way c =
    let rows = c.requires.way.4 in
    let len = length-map c.loop-slot.rows (λ row. row.items) in
    let count = c.loop-slot.invariant.count in
    let less = c.loop-slot-test.true in
    let seat = router_item c.args.members.now c.loop-slot.slot c.index-members-slot.result less c.index-members-slot.is in
    let read = sym (c.loop-slot.invariant.rest c.loop-slot.slot (omega arith)) ∙ item_row (λ row. row.items) c.loop-slot.rows c.loop-slot.slot c.index-rows-slot.result (omega arith) c.index-rows-slot.is ∙ ap (λ row. row.items) c.index-rows-slot.is in (
      c.requires.way.0,
      c.requires.way.1,
      c.requires.way.2,
      c.requires.way.3,
      subst (IsFound c.requires.way.0 c.args.places.now.names.items c.index-members-slot.result.router) read (rows.exact c.loop-slot.slot c.index-members-slot.result.router seat),
    )

pub loop-slot-preserved : goal.loop-slot-preserved
loop-slot-preserved c =
    let rows = c.requires.way.4 in
    let len = length-map c.loop-slot.rows (λ row. row.items) in
    let count = c.loop-slot.invariant.count in
    let less = c.loop-slot-test.true in
    let seat = router_item c.args.members.now c.loop-slot.slot c.index-members-slot.result less c.index-members-slot.is in
    let here = item_row (λ row. row.items) c.loop-slot.rows c.loop-slot.slot c.index-rows-slot.result (omega arith) c.index-rows-slot.is ∙ ap (λ row. row.items) c.index-rows-slot.is in
    let read = sym (c.loop-slot.invariant.rest c.loop-slot.slot (omega arith)) ∙ here in
    following_next c.args.graph.now c.args.places.now.names.items c.args.members.now (map (λ row. row.items) c.args.rows.now) (map (λ row. row.items) c.loop-slot.rows)
    (map (λ row. row.items) (set c.loop-slot.rows c.loop-slot.slot c.follow.new.row)) c.loop-slot.pairs.items c.follow.new.pairs.items c.loop-slot.slot c.index-members-slot.result.router
    _ c.follow.new.row.items c.requires.indexed.named.rising less seat here
    (ap length (sym read) ∙ (rows.exact c.loop-slot.slot c.index-members-slot.result.router seat).places)
    c.in_ok-follow.ensures.row (map-set (λ row. row.items) c.loop-slot.rows c.loop-slot.slot c.follow.new.row) c.in_ok-follow.ensures.pairs c.loop-slot.invariant

pub returns-clause-rows : goal.returns-clause-rows
returns-clause-rows c =
    following_ends c.args.graph.now c.args.places.now.names.items c.args.members.now (map (λ row. row.items) c.args.rows.now) (map (λ row. row.items) c.loop-slot.rows) c.loop-slot.pairs.items c.loop-slot.slot
    c.loop-slot-test.false c.requires.way.4.named c.loop-slot.invariant
