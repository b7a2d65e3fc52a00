use Rattle.std.proofs.Common.{arith}
use Rattle.daemon_parts.proofs.MeshLemmas.{rows_unused}
use Rattle.daemon_parts.proofs.PartsLemmas.{counted_rows, seat_ends, viewer_ends, wired}
use Rattle.daemon_parts.proofs.parts.Parts.new.Goals as goal

pub workers_of-requires-clause-offers : goal.workers_of-requires-clause-offers
workers_of-requires-clause-offers g c = rows_unused _ _ _ _ _ _ _ c.in_ok-to_routers.ensures (grind (arith, c.from-routers.ensures, c.len.ensures.len)) (grind (arith, c.from-2.ensures, c.shards-2.ensures.value))

pub returns-clause-ends : goal.returns-clause-ends
returns-clause-ends g c slot seat within =
    seat_ends _ _ _ _ _ _ _ _ c.in_ok-to_shards.ensures c.in-Some.ensures.items (grind (arith, c.from-shards.ensures, c.shards.ensures.value)) slot _
    (omega (arith, counted_rows _ _ _ c.args.roster.now.shards _ _ _ _ c.in_ok-to_shards.ensures c.in-Some.ensures.items, within, c.in_ok-seats_of.ensures.count, c.len-3.ensures.len, c.len-2.ensures.len, c.from.ensures))
    (c.in_ok-seats_of.ensures.rows slot seat _ (omega (arith, within, c.in_ok-seats_of.ensures.count)))

pub returns-clause-viewer : goal.returns-clause-viewer
returns-clause-viewer g c = viewer_ends _ _ _ _ _ _ _ _ c.in_ok-to_shards.ensures c.in-Some.ensures.items (grind (arith, c.from-shards.ensures, c.shards.ensures.value))

pub returns-clause-wired : goal.returns-clause-wired
returns-clause-wired g c =
    wired _ _ _ _ _ _ _ _ _ _ _ _ _ _ _ _ c.in_ok-to_shards.ensures c.in-Some.ensures.items c.in_ok-to_routers.ensures
    (grind (arith, c.from-shards.ensures, c.shards.ensures.value)) (grind (arith, c.from.ensures, c.len-2.ensures.len)) (grind (arith, c.from-routers.ensures, c.len.ensures.len)) (grind (arith, c.from-2.ensures, c.shards-2.ensures.value))
    c.in_ok-workers_of.ensures.numbers c.in_ok-workers_of.ensures.mails c.in_ok-workers_of.ensures.offers
    (λ slot seat row within. c.in_ok-seats_of.ensures.rows slot seat row (omega (arith, within, c.len-3.ensures.len)))
    (λ slot seat receiver within. c.in_ok-seats_of.ensures.receivers slot seat receiver (omega (arith, within, c.len-3.ensures.len)))
