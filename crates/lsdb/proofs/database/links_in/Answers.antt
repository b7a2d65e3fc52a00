use Rattle.std.proofs.Common.{◌++◌, All, sym, ap, ap₂, subst, ◌∙◌}
use Rattle.std.specs.List.Sorted.{IsPermutation}
use Rattle.rcp_model.specs.LinkState.{Kept}
use Rattle.std.proofs.lemmas.List.Elements.{All-nil}
use Rattle.lsdb.specs.Links.{links_in, IsCheap}
use Rattle.lsdb.proofs.Sorting.{in_order}
use Rattle.lsdb.proofs.Limits.{cheap-permutation}
use Rattle.lsdb.proofs.Collecting.{links-more, links-all}
use Rattle.lsdb.proofs.database.links_in.Goals as goal

pub loop-router-init : goal.loop-router-init
loop-router-init c = record {
  links = ap₂ (λ found left. found ++ links_in left) c.new-links.ensures.items c.into_iter-router-iterator.ensures.into_iter_gives.0;
  cheap = subst (All IsCheap) (sym c.new-links.ensures.items) (All-nil IsCheap);
}

pub loop-router-preserved : goal.loop-router-preserved
loop-router-preserved c =
    let links = c.as_slice.ensures.value ∙ ap (λ (i : _). i.lsa.content) c.instance-inside.view_is ∙ ap (λ (k : Kept). k.lsa.content) c.instance.view_is in
    record {
      links = links-more c.loop-router.links.items c.add_links.new.edges.items c.in-Some.router.now c.in-Some.instance.now c.as_slice.result.now c.next.new.self c.loop-router.router-iterator c.args.routers.now.entries
          c.in-Some.ensures.steps links c.in_ok-add_links.ensures.edges c.loop-router.invariant.links;
      cheap = c.in_ok-add_links.ensures.cheap c.loop-router.invariant.cheap;
    }

pub returns-clause-order : goal.returns-clause-order
returns-clause-order c = in_order c.sort_unstable.new.self.items c.sort_unstable.ensures.sorted

pub returns-clause-links : goal.returns-clause-links
returns-clause-links c =
    subst (λ found. IsPermutation found c.sort_unstable.new.self.items)
    (sym (links-all c.loop-router.links.items c.loop-router.router-iterator c.args.routers.now.entries c.in-None.ensures.steps.0 c.loop-router.invariant.links)) c.sort_unstable.ensures.permutation

pub returns-clause-cheap : goal.returns-clause-cheap
returns-clause-cheap c = cheap-permutation c.loop-router.links.items c.sort_unstable.new.self.items c.sort_unstable.ensures.permutation c.loop-router.invariant.cheap
