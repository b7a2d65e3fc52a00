-- What is collected, and that it costs little where all before does.
use Rattle.std.proofs.Common.{◌≡◌, ◌++◌, take, All}
use Rattle.lsdb.specs.Links.{links_from, IsCheap}
use Rattle.lsdb.proofs.links.add_links.Given as goal

abbrev pub invariant-loop-link : goal.invariant-loop-link
invariant-loop-link l = record {
  edges : l.edges.items ≡ l.initial.edges.items ++ links_from l.router (take l.link-index l.links);
  cheap : All IsCheap l.initial.edges.items → All IsCheap l.edges.items;
}
