use Rattle.std.proofs.Common.{◌+◌, map, ap, ◌∙◌, ◌∷◌, [], sym, subst}
use Rattle.std.proofs.lemmas.List.{map-append}
use Rattle.spf_incr.proofs.TableLemmas.{Made, router_item, made_step, made_all}
use Rattle.spf_incr.proofs.table.rows_over.Goals as goal

pub least_costs_by-requires-clause-root : goal.least_costs_by-requires-clause-root
least_costs_by-requires-clause-root c =
    c.requires.named c.loop-member.member-index c.member-item.result.router (router_item c.args.members.now c.loop-member.member-index c.member-item.result c.loop-member-test.true c.member-item.is)

pub loop-member-preserved : goal.loop-member-preserved
loop-member-preserved c =
    subst (λ rows. Made c.args.graph.now c.args.places.now.names.items c.args.members.now rows (c.loop-member.member-index + 1))
    (sym (ap (map (λ row. row.items)) c.in_ok-push.ensures.items ∙ map-append (λ row. row.items) c.loop-member.rows.items (c.in_ok-least_costs_by.field-0 ∷ [])))
    (made_step c.args.graph.now c.args.places.now.names.items c.args.members.now (map (λ row. row.items) c.loop-member.rows.items) c.loop-member.member-index c.member-item.result.router c.in_ok-least_costs_by.field-0.items
    (router_item c.args.members.now c.loop-member.member-index c.member-item.result c.loop-member-test.true c.member-item.is) c.in_ok-least_costs_by.ensures c.loop-member.invariant)

pub returns : goal.returns
returns c =
    made_all c.args.graph.now c.args.places.now.names.items c.args.members.now (map (λ row. row.items) c.loop-member.rows.items) c.loop-member.member-index c.loop-member-test.false c.loop-member.auto.member-index-end c.requires.named c.loop-member.invariant
