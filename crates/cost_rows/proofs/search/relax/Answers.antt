use Rattle.std.proofs.Common.{get_or, inl, refl}
use Rattle.cost_rows.proofs.NameLemmas.{apart, found-place}
use Rattle.cost_rows.proofs.search.relax.Goals as goal

pub returns-else-is_lower : goal.returns-else-is_lower
returns-else-is_lower c =
    let end = rw (← c.as_slice-ends.ensures.value) at c.requires.end in
    let at = found-place c.args.places.now.names.items c.args.least.now (get_or c.as_slice-ends.result.now c.args.at 0) c.args.edge.now.to (apart c.args.places.now.names.items c.requires.rising) c.requires.places end in
    inl (rw at c.if-is_lower.ensures.as_low, refl, refl)
