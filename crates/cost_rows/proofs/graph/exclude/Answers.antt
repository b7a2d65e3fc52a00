use Rattle.std.proofs.Common.{refl, sym, ◌∙◌, arith}
use Rattle.std.proofs.lemmas.Option.{slice_get_within}
use Rattle.cost_rows.proofs.PlaceLemmas.{exclude_absent, exclude_found, found_member}
use Rattle.cost_rows.proofs.graph.exclude.Goals as goal

pub returns-in_default-clause-after : goal.returns-in_default-clause-after
returns-in_default-clause-after c = sym (exclude_absent c.args.edge.now c.args.edges.now.items (rw c.as_slice.ensures.value at c.in_default.ensures.absent))

pub remove-requires : goal.remove-requires
remove-requires c = omega (arith, slice_get_within c.as_slice.result.now c.in-Ok.place c.args.edge.now c.in-Ok.ensures.found, c.as_slice.ensures.len)

pub returns-clause-found : goal.returns-clause-found
returns-clause-found c = (λ _. found_member c.args.edge.now c.in-Ok.place c.args.edges.now.items (rw c.as_slice.ensures.value at c.in-Ok.ensures.found), λ _. refl)

pub returns-clause-after : goal.returns-clause-after
returns-clause-after c =
    c.remove.ensures.items ∙ sym (exclude_found c.args.edge.now c.in-Ok.place c.args.edges.now.items c.requires (rw c.as_slice.ensures.value at c.in-Ok.ensures.found))
