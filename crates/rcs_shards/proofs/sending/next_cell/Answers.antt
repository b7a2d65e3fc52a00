-- The least of the next cells is the next of all, and the shard that it is of goes on after it.
use Rattle.std.proofs.Common.{◌<◌, length, get_or, Some, None, refl, sym, ap, subst, ◌∙◌, rules}
use Rattle.std.proofs.lemmas.List.{get_or_read}
use Rattle.std.proofs.lemmas.Option.{slice_get-get_or}
use Rattle.rcp_base.specs.IpPrefix.{shard_of_prefix}
use Rattle.rcp_model.specs.Assigned.{IsLeast}
use Rattle.rcs_shard.specs.Shards.{ShardOf}
use Rattle.rcs_shards.specs.Fronts.{IsLeft}
use Rattle.update_pack.specs.Shown.{offered_cell}
use Rattle.rcs_shards.proofs.FrontLemmas.{are-least, least-busy, no-next, some-front, usable-route, next-cell, fronts-after, front-at}
use Rattle.rcs_shards.proofs.sending.next_cell.Goals as goal

pub returns-in_default-clause-next : goal.returns-in_default-clause-next
returns-in_default-clause-next c =
    let roster = c.args.roster.now in
    let shards = c.args.shards.now in
    let busy = c.args.busy.now in
    let after = c.args.cursors.now.last in
    no-next roster shards c.args.slot after after
    (subst (IsLeast (IsLeft roster shards c.args.slot after)) c.in_default.is
    (least-busy roster shards c.requires.ready c.args.slot busy c.requires.busy after c.least.result
    (c.least.ensures shards c.args.slot after (are-least shards busy c.args.slot after c.args.cursors.now.prefixes.items c.deref.result.now c.args.cursors.now.routes.items c.requires.fronts c.deref.ensures.value))))

pub returns-in_default-index-clause-next : goal.returns-in_default-index-clause-next
returns-in_default-index-clause-next c =
    let roster = c.args.roster.now in
    let shards = c.args.shards.now in
    let busy = c.args.busy.now in
    let after = c.args.cursors.now.last in
    let prefixes = c.args.cursors.now.prefixes.items in
    let routes = c.args.cursors.now.routes.items in
    let are = c.requires.fronts in
    let least = least-busy roster shards c.requires.ready c.args.slot busy c.requires.busy after (Some c.in-Some.p)
    (c.in-Some.ensures shards c.args.slot after (are-least shards busy c.args.slot after prefixes c.deref.result.now routes are c.deref.ensures.value)) in
    let n = c.from-number.result in
    let at = c.from-number.ensures ∙ c.shard_of.ensures ∙ ap (shard_of_prefix c.in-Some.p) c.shards.ensures.value in
    let low : n < length shards = search rules in
    let low_prefixes : n < length prefixes = search rules in
    absurd (some-front roster shards c.requires.ready c.args.slot busy c.requires.busy after prefixes routes are c.in-Some.p least n at c.index.result.now (get_or_read prefixes n c.index.result.now low_prefixes c.index.ensures None) c.in_default-index.is)

pub cell_of-cell-requires : goal.cell_of-cell-requires
cell_of-cell-requires c =
    let roster = c.args.roster.now in
    let shards = c.args.shards.now in
    let busy = c.args.busy.now in
    let after = c.args.cursors.now.last in
    let prefixes = c.args.cursors.now.prefixes.items in
    let routes = c.args.cursors.now.routes.items in
    let are = c.requires.fronts in
    let least = least-busy roster shards c.requires.ready c.args.slot busy c.requires.busy after (Some c.in-Some.p)
    (c.in-Some.ensures shards c.args.slot after (are-least shards busy c.args.slot after prefixes c.deref.result.now routes are c.deref.ensures.value)) in
    let n = c.from-number.result in
    let at = c.from-number.ensures ∙ c.shard_of.ensures ∙ ap (shard_of_prefix c.in-Some.p) c.shards.ensures.value in
    let low : n < length shards = search rules in
    let low_prefixes : n < length prefixes = search rules in
    let low_routes : n < length routes = search rules in
    let read = sym c.in-Some-index.is ∙ get_or_read prefixes n c.index.result.now low_prefixes c.index.ensures None in
    let route_read = get_or_read routes n c.index-2.result.now low_routes c.index-2.ensures None in
    usable-route roster shards c.requires.ready c.args.slot busy c.requires.busy after prefixes routes are c.in-Some.p least n at c.in-Some-index.first c.index-2.result.now read route_read

pub next_front-prefix-requires : goal.next_front-prefix-requires
next_front-prefix-requires c =
    let shards = c.args.shards.now in
    let n = c.from-number.result in
    let low : n < length shards = search rules in
    subst (λ m. c.args.slot < length m) (sym (ap (λ (s : ShardOf). s.members) c.index-shards-number.is
    ∙ (c.requires.ready.each n (get_or shards n c.index-shards-number.result) (slice_get-get_or shards n c.index-shards-number.result low)).members)) c.requires.member

pub returns-clause-next : goal.returns-clause-next
returns-clause-next c =
    let roster = c.args.roster.now in
    let shards = c.args.shards.now in
    let busy = c.args.busy.now in
    let after = c.args.cursors.now.last in
    let prefixes = c.args.cursors.now.prefixes.items in
    let routes = c.args.cursors.now.routes.items in
    let are = c.requires.fronts in
    let least = least-busy roster shards c.requires.ready c.args.slot busy c.requires.busy after (Some c.in-Some.p)
    (c.in-Some.ensures shards c.args.slot after (are-least shards busy c.args.slot after prefixes c.deref.result.now routes are c.deref.ensures.value)) in
    let n = c.from-number.result in
    let at = c.from-number.ensures ∙ c.shard_of.ensures ∙ ap (shard_of_prefix c.in-Some.p) c.shards.ensures.value in
    let low : n < length shards = search rules in
    let low_prefixes : n < length prefixes = search rules in
    let low_routes : n < length routes = search rules in
    let read = sym c.in-Some-index.is ∙ get_or_read prefixes n c.index.result.now low_prefixes c.index.ensures None in
    let route_read = get_or_read routes n c.index-2.result.now low_routes c.index-2.ensures None in
    next-cell roster shards c.requires.ready c.args.slot busy c.requires.busy after prefixes routes are c.in-Some.p least n at c.in-Some-index.first c.index-2.result.now read route_read (offered_cell c.cell_of-cell.result) (Some c.in-Some-index.first) c.cell_of-cell.ensures.cell c.cell_of-cell.ensures.sendable refl

pub returns-clause-fronts : goal.returns-clause-fronts
returns-clause-fronts c =
    let roster = c.args.roster.now in
    let shards = c.args.shards.now in
    let busy = c.args.busy.now in
    let after = c.args.cursors.now.last in
    let prefixes = c.args.cursors.now.prefixes.items in
    let routes = c.args.cursors.now.routes.items in
    let are = c.requires.fronts in
    let least = least-busy roster shards c.requires.ready c.args.slot busy c.requires.busy after (Some c.in-Some.p)
    (c.in-Some.ensures shards c.args.slot after (are-least shards busy c.args.slot after prefixes c.deref.result.now routes are c.deref.ensures.value)) in
    let n = c.from-number.result in
    let at = c.from-number.ensures ∙ c.shard_of.ensures ∙ ap (shard_of_prefix c.in-Some.p) c.shards.ensures.value in
    let low : n < length shards = search rules in
    let low_prefixes : n < length prefixes = search rules in
    let low_routes : n < length routes = search rules in
    let read = sym c.in-Some-index.is ∙ get_or_read prefixes n c.index.result.now low_prefixes c.index.ensures None in
    let route_read = get_or_read routes n c.index-2.result.now low_routes c.index-2.ensures None in
    fronts-after roster shards c.requires.ready c.args.slot busy c.requires.busy after prefixes routes are c.in-Some.p least n at c.in-Some-index.first c.index-2.result.now read route_read c.next_front-prefix.result.0 c.next_front-prefix.result.1 low
    (front-at shards c.args.slot n (Some c.in-Some-index.first) c.index-shards-number.result c.next_front-prefix.result.0 c.next_front-prefix.result.1 low c.index-shards-number.is
    c.next_front-prefix.ensures.next c.next_front-prefix.ensures.route c.next_front-prefix.ensures.usable)
