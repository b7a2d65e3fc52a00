use Rattle.std.proofs.Common.{◌≡◌, Bool, not, true, false, length, refl, sym, ◌∙◌, ap, subst, arith}
use Rattle.std.specs.BinaryHeap.{heap_items}
use Rattle.std.proofs.lemmas.Option.{slice_get_within, get_or_from_slice_get}
use Rattle.rcp_model.specs.Graphs.{edges_from}
use Rattle.cost_rows.specs.Search.{IsSearch}
use Rattle.cost_rows.proofs.NameLemmas.{apart, found-place}
use Rattle.cost_rows.proofs.SearchLemmas.{taken_named, taken_current, taken_stale, same_cost, other_cost, search_ends}
use Rattle.cost_rows.proofs.search.finish.Goals as goal

not-true : (b : Bool) → not b ≡ true → b ≡ false
not-true true h = sym h
not-true false h = refl

not-false : (b : Bool) → not b ≡ false → b ≡ true
not-false true h = refl
not-false false h = sym h

pub place_of-place-requires-clause-named : goal.place_of-place-requires-clause-named
place_of-place-requires-clause-named c =
    rw c.as_slice.ensures.value
    (taken_named c.args.graph.now c.args.places.now.names.items c.loop-next.invariant.some.0 c.loop-next.least (heap_items c.loop-next.waiting) (heap_items c.pop.new.self) c.in-Some.next.1 c.in-Some.next.0.0
    c.loop-next.invariant.some.1 c.in-Some.ensures.permutation)

pub offset_bounds-least-place : goal.offset_bounds-least-place
offset_bounds-least-place c =
    let within = slice_get_within c.as_slice.result.now c.place_of-place.result c.in-Some.next.1 c.place_of-place.ensures in
    let len = ap length c.as_slice.ensures.value in
    let few = c.requires.indexed.named.few in
    omega arith

pub bounds-least-place : goal.bounds-least-place
bounds-least-place c =
    let within = slice_get_within c.as_slice.result.now c.place_of-place.result c.in-Some.next.1 c.place_of-place.ensures in
    let len = ap length c.as_slice.ensures.value in
    let places = c.loop-next.invariant.some.1.places in
    omega arith

pub loop-next-preserved-then-ne : goal.loop-next-preserved-then-ne
loop-next-preserved-then-ne c =
    let at = rw c.as_slice.ensures.value at c.place_of-place.ensures in
    let read = found-place c.args.places.now.names.items c.loop-next.least c.place_of-place.result c.in-Some.next.1 (apart c.args.places.now.names.items c.requires.indexed.named.rising) c.loop-next.invariant.some.1.places at in
    let other = other_cost _ c.in-Some.next.0.0 (not-true _ (sym c.ne.ensures ∙ c.if-ne.true)) in
    let skipped = λ (root : _) (search : _). taken_stale c.args.graph.now c.args.places.now.names.items root c.loop-next.least (heap_items c.loop-next.waiting) (heap_items c.pop.new.self) c.in-Some.next.1 c.in-Some.next.0.0
    search c.in-Some.ensures.permutation (λ same. other (sym read ∙ same)) in
    record {
      some = (c.loop-next.invariant.some.0, skipped c.loop-next.invariant.some.0 c.loop-next.invariant.some.1);
      kept = λ root start. skipped root (c.loop-next.invariant.kept root start);
    }

pub spread-requires-clause-found : goal.spread-requires-clause-found
spread-requires-clause-found c =
    let at = rw c.as_slice.ensures.value at c.place_of-place.ensures in
    let read = found-place c.args.places.now.names.items c.loop-next.least c.place_of-place.result c.in-Some.next.1 (apart c.args.places.now.names.items c.requires.indexed.named.rising) c.loop-next.invariant.some.1.places at in
    rw (get_or_from_slice_get c.args.places.now.names.items c.place_of-place.result c.in-Some.next.1 0 at) (read ∙ same_cost _ c.in-Some.next.0.0 (not-false _ (sym c.ne.ensures ∙ c.if-ne.false)))

pub spread-requires-clause-search : goal.spread-requires-clause-search
spread-requires-clause-search c =
    let at = rw c.as_slice.ensures.value at c.place_of-place.ensures in (
      c.loop-next.invariant.some.0,
      rw (get_or_from_slice_get c.args.places.now.names.items c.place_of-place.result c.in-Some.next.1 0 at)
          (taken_current c.args.graph.now c.args.places.now.names.items c.loop-next.invariant.some.0 c.loop-next.least (heap_items c.loop-next.waiting) (heap_items c.pop.new.self) c.in-Some.next.1 c.in-Some.next.0.0
          c.loop-next.invariant.some.1 c.in-Some.ensures.permutation),
    )

pub loop-next-preserved : goal.loop-next-preserved
loop-next-preserved c =
    let at = rw c.as_slice.ensures.value at c.place_of-place.ensures in
    let here = get_or_from_slice_get c.args.places.now.names.items c.place_of-place.result c.in-Some.next.1 0 at in
    let open_one = λ (root : _) (search : _). subst (λ router. IsSearch c.args.graph.now c.args.places.now.names.items root c.loop-next.least (heap_items c.pop.new.self) (edges_from router c.args.graph.now)) (sym here)
    (taken_current c.args.graph.now c.args.places.now.names.items root c.loop-next.least (heap_items c.loop-next.waiting) (heap_items c.pop.new.self) c.in-Some.next.1 c.in-Some.next.0.0
    search c.in-Some.ensures.permutation) in
    record {
      some = (c.loop-next.invariant.some.0, c.in_ok-spread.ensures.kept c.loop-next.invariant.some.0 (open_one c.loop-next.invariant.some.0 c.loop-next.invariant.some.1));
      kept = λ root start. c.in_ok-spread.ensures.kept root (open_one root (c.loop-next.invariant.kept root start));
    }

pub returns : goal.returns
returns c = λ root start.
    search_ends c.args.graph.now c.args.places.now.names.items root c.loop-next.least (heap_items c.loop-next.waiting) (sym c.loop-next.waiting.data.ok.0 ∙ c.in_default.ensures.none) (c.loop-next.invariant.kept root start)
