use Rattle.out_table.proofs.FoundLemmas.{found_here}
use Rattle.out_table.proofs.table.place_of.Goals as goal

pub returns-then-eq : goal.returns-then-eq
returns-then-eq c =
    let found = c.in-Some.ensures.lookup in
    found_here c.args.places.now.entries c.args.prefixes.now c.args.last c.in-Some.q.now c.args.p.now c.requires found.0 found.1 c.if-eq.ensures
