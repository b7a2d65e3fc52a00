use Rattle.std.proofs.Common.{◌∙◌, ap, sym, subst, arith, get_or, slice_index, take, drop, length}
use Rattle.std.specs.BinaryHeap.{heap_items}
use Rattle.cost_rows.specs.Search.{IsSearch}
use Rattle.cost_rows.proofs.IndexLemmas.{run_there, runs_reach, run_items, end_at}
use Rattle.cost_rows.proofs.SearchLemmas.{edge_fits, edge_done}
use Rattle.cost_rows.proofs.search.spread.Goals as goal

pub bounds-runs-place : goal.bounds-runs-place
bounds-runs-place c =
    runs_reach c.args.graph.now c.args.places.now.names.items c.args.places.now.ends.items c.args.places.now.runs.items c.as_slice-runs.result.now c.args.place c.requires.indexed c.as_slice-runs.ensures.value c.requires.within

pub bounds-runs-place-2 : goal.bounds-runs-place-2
bounds-runs-place-2 c =
    runs_reach c.args.graph.now c.args.places.now.names.items c.args.places.now.ends.items c.args.places.now.runs.items c.as_slice-runs.result.now c.args.place c.requires.indexed c.as_slice-runs.ensures.value c.requires.within

pub split_at-requires : goal.split_at-requires
split_at-requires c =
    let run = run_there c.args.graph.now c.args.places.now.names.items c.args.places.now.ends.items c.args.places.now.runs.items c.as_slice-runs.result.now c.args.place c.requires.indexed c.as_slice-runs.ensures.value c.requires.within in
    omega (arith, run.0, ap length c.edges.ensures.edges)

pub split_at-requires-2 : goal.split_at-requires-2
split_at-requires-2 c =
    let run = run_there c.args.graph.now c.args.places.now.names.items c.args.places.now.ends.items c.args.places.now.runs.items c.as_slice-runs.result.now c.args.place c.requires.indexed c.as_slice-runs.ensures.value c.requires.within in
    omega (arith, run.0, ap length c.edges.ensures.edges, c.split_at.ensures.back_len)

pub loop-k-init : goal.loop-k-init
loop-k-init c =
    let run = run_there c.args.graph.now c.args.places.now.names.items c.args.places.now.ends.items c.args.places.now.runs.items c.as_slice-runs.result.now c.args.place c.requires.indexed c.as_slice-runs.ensures.value c.requires.within in
    let is = run_items c.args.graph.now c.edges.result.now c.split_at.result.1.now c.split_at-2.result.0.now (slice_index c.args.places.now.names.items c.args.place) (get_or c.as_slice-runs.result.now c.args.place (0, 0)) run
    c.edges.ensures.edges c.split_at.ensures.back c.split_at-2.ensures.front in
    record {
      some = (c.requires.search.0, subst (IsSearch c.args.graph.now c.args.places.now.names.items c.requires.search.0 c.args.least.now (heap_items c.args.waiting.now)) (sym is) c.requires.search.1);
      kept = λ root start. subst (IsSearch c.args.graph.now c.args.places.now.names.items root c.args.least.now (heap_items c.args.waiting.now)) (sym is) start;
      found = c.requires.found;
      falls = omega arith;
    }

pub relax-requires-clause-within : goal.relax-requires-clause-within
relax-requires-clause-within c =
    let run = run_there c.args.graph.now c.args.places.now.names.items c.args.places.now.ends.items c.args.places.now.runs.items c.as_slice-runs.result.now c.args.place c.requires.indexed c.as_slice-runs.ensures.value c.requires.within in
    (end_at c.args.graph.now c.args.places.now.names.items c.args.places.now.ends.items c.args.places.now.runs.items (get_or c.as_slice-runs.result.now c.args.place (0, 0)) c.split_at-2.result.0.now c.loop-k.k c.index-run-k.result
    c.requires.indexed run.0
    (c.split_at-2.ensures.front ∙ ap (take (get_or c.as_slice-runs.result.now c.args.place (0, 0)).1) (c.split_at.ensures.back ∙ ap (drop (get_or c.as_slice-runs.result.now c.args.place (0, 0)).0) c.edges.ensures.edges))
    c.split_at-2.ensures.front_len c.loop-k-test.true c.index-run-k.is).0

pub relax-requires-clause-end : goal.relax-requires-clause-end
relax-requires-clause-end c =
    let run = run_there c.args.graph.now c.args.places.now.names.items c.args.places.now.ends.items c.args.places.now.runs.items c.as_slice-runs.result.now c.args.place c.requires.indexed c.as_slice-runs.ensures.value c.requires.within in
    (end_at c.args.graph.now c.args.places.now.names.items c.args.places.now.ends.items c.args.places.now.runs.items (get_or c.as_slice-runs.result.now c.args.place (0, 0)) c.split_at-2.result.0.now c.loop-k.k c.index-run-k.result
    c.requires.indexed run.0
    (c.split_at-2.ensures.front ∙ ap (take (get_or c.as_slice-runs.result.now c.args.place (0, 0)).1) (c.split_at.ensures.back ∙ ap (drop (get_or c.as_slice-runs.result.now c.args.place (0, 0)).0) c.edges.ensures.edges))
    c.split_at-2.ensures.front_len c.loop-k-test.true c.index-run-k.is).1

pub relax-requires-clause-fits : goal.relax-requires-clause-fits
relax-requires-clause-fits c =
    let run = run_there c.args.graph.now c.args.places.now.names.items c.args.places.now.ends.items c.args.places.now.runs.items c.as_slice-runs.result.now c.args.place c.requires.indexed c.as_slice-runs.ensures.value c.requires.within in
    let is = run_items c.args.graph.now c.edges.result.now c.split_at.result.1.now c.split_at-2.result.0.now (slice_index c.args.places.now.names.items c.args.place) (get_or c.as_slice-runs.result.now c.args.place (0, 0)) run
    c.edges.ensures.edges c.split_at.ensures.back c.split_at-2.ensures.front in
    edge_fits c.args.graph.now c.args.places.now.names.items c.loop-k.invariant.some.0 (slice_index c.args.places.now.names.items c.args.place) c.args.cost c.loop-k.k c.loop-k.least (heap_items c.loop-k.waiting) c.split_at-2.result.0.now c.index-run-k.result
    c.requires.indexed.named c.edges.ensures.kept is c.loop-k-test.true c.index-run-k.is c.loop-k.invariant.found c.loop-k.invariant.some.1

pub loop-k-preserved : goal.loop-k-preserved
loop-k-preserved c =
    let run = run_there c.args.graph.now c.args.places.now.names.items c.args.places.now.ends.items c.args.places.now.runs.items c.as_slice-runs.result.now c.args.place c.requires.indexed c.as_slice-runs.ensures.value c.requires.within in
    let is = run_items c.args.graph.now c.edges.result.now c.split_at.result.1.now c.split_at-2.result.0.now (slice_index c.args.places.now.names.items c.args.place) (get_or c.as_slice-runs.result.now c.args.place (0, 0)) run
    c.edges.ensures.edges c.split_at.ensures.back c.split_at-2.ensures.front in
    let done = λ (root : _) (search : _). edge_done c.args.graph.now c.args.places.now.names.items root (slice_index c.args.places.now.names.items c.args.place) c.args.cost c.loop-k.k c.loop-k.least (heap_items c.loop-k.waiting) c.split_at-2.result.0.now c.index-run-k.result
    c.requires.indexed.named c.edges.ensures.kept is c.loop-k-test.true c.index-run-k.is c.loop-k.invariant.found search c.relax.new.least (heap_items c.relax.new.waiting) c.in_ok-relax.ensures in
    let here = done c.loop-k.invariant.some.0 c.loop-k.invariant.some.1 in
    record {
      some = (c.loop-k.invariant.some.0, here.0);
      kept = λ root start. (done root (c.loop-k.invariant.kept root start)).0;
      found = here.1;
      falls = omega (arith, here.2);
    }
