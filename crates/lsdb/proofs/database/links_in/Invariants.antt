-- What is collected, and the links of the routers that are left.
use Rattle.std.proofs.Common.{◌≡◌, ◌++◌, All}
use Rattle.lsdb.specs.Links.{links_in, IsCheap}
use Rattle.lsdb.proofs.database.links_in.Given as goal

abbrev pub invariant-loop-router : goal.invariant-loop-router
invariant-loop-router l = record {
  links : l.links.items ++ links_in l.router-iterator ≡ links_in l.routers.entries;
  cheap : All IsCheap l.links.items;
}
