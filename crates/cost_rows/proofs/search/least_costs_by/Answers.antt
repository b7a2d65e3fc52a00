use Rattle.std.proofs.Common.{◌∙◌, ap}
use Rattle.std.specs.BinaryHeap.{heap_items}
use Rattle.cost_rows.specs.Search.{nothing_found}
use Rattle.cost_rows.proofs.SearchLemmas.{search_begun, whole}
use Rattle.cost_rows.proofs.search.least_costs_by.Goals as goal

pub finish-requires-clause-search : goal.finish-requires-clause-search
finish-requires-clause-search c = (
  c.args.root,
  search_begun c.args.graph.now c.args.places.now.names.items c.args.root c.place_of-place.result c.in_ok-least.least.items c.deref_mut.result.now (heap_items c.new-waiting.result) (heap_items c.push.new.self)
      c.requires.indexed.named (rw c.as_slice-names.ensures.value at c.place_of-place.ensures) (c.in_ok-least.ensures ∙ ap nothing_found c.as_slice-names.ensures.value) c.deref_mut.ensures.value c.new-waiting.ensures.items c.in_ok-push.ensures.permutation,
)

pub returns : goal.returns
returns c =
    rw (whole c.finish.new.least _ c.in_ok-least.least.len (c.finish.auto.least ∙ c.deref_mut.ensures.len))
    (c.in_ok-finish.ensures c.args.root
    (search_begun c.args.graph.now c.args.places.now.names.items c.args.root c.place_of-place.result c.in_ok-least.least.items c.deref_mut.result.now (heap_items c.new-waiting.result) (heap_items c.push.new.self)
    c.requires.indexed.named (rw c.as_slice-names.ensures.value at c.place_of-place.ensures) (c.in_ok-least.ensures ∙ ap nothing_found c.as_slice-names.ensures.value) c.deref_mut.ensures.value c.new-waiting.ensures.items c.in_ok-push.ensures.permutation))
