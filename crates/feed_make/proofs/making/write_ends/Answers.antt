use Rattle.std.proofs.Common.{◌≡◌, ℕ, List, [], ◌∷◌, ◌++◌, map, sym, ap, subst, ◌∙◌, append-nil, arith}
use Rattle.std.specs.List.{flat_map}
use Rattle.std.proofs.lemmas.Result.{err_from_is_err_and}
use Rattle.outside.specs.Told.{behind}
use Rattle.rcp_base.specs.declared.kinds.Kind.TheVariants.{Finish}
use Rattle.rcp_base.specs.Feed.{record_octets}
use Rattle.feed_make.specs.Numbers.{numbers_from}
use Rattle.feed_make.specs.Feeds.{item, octets_of, drain, end_of, ends}
use Rattle.feed_make.specs.Writes.{Writes, WritesPart}
use Rattle.feed_make.proofs.Ranges.{flat_map-map}
use Rattle.feed_make.proofs.Parts.{octets-append}
use Rattle.feed_make.proofs.Writing.{begins, goes_on, stops_at, stops_early, stops_later, then_writes}
use Rattle.feed_make.proofs.making.write_ends.Goals as goal

abbrev each : ℕ → List ℕ
each router = record_octets (end_of router)

closed : List ℕ
closed = flat_map each (numbers_from 0 3)

work : List ℕ
work = record_octets drain

finish : List ℕ
finish = record_octets (item Finish 0 [])

all : octets_of ends ≡ closed ++ (work ++ (finish ++ []))
unfolding ends closed work finish
all =
    octets-append (map end_of (numbers_from 0 3)) (drain ∷ item Finish 0 [] ∷ [])
    ∙ ap (λ (o : List ℕ). o ++ (record_octets drain ++ (record_octets (item Finish 0 []) ++ []))) (flat_map-map record_octets end_of (numbers_from 0 3))

pub loop-router-init : goal.loop-router-init
loop-router-init g c = record { wrote = begins each (g.K.Sink.taken c.args.sink.now); never_falls = omega arith }

pub returns-in_err-write_record-clause-octets : goal.returns-in_err-write_record-clause-octets
unfolding closed
returns-in_err-write_record-clause-octets g c =
    let p = err_from_is_err_and c.from_residual.result c.from_residual.ensures.1 in
    let e = c.in_err-write_record.field-0.0 in
    let before = g.K.Sink.taken c.args.sink.now in
    let now = g.K.Sink.taken c.write_record.new.sink in
    rw (p.1, p.2) (subst (λ (o : List ℕ). WritesPart o before now e) (sym all)
    (stops_early closed (work ++ (finish ++ [])) before now e
    (stops_at each 3 before (g.K.Sink.taken c.loop-router.sink) now c.loop-router.router e (omega arith) c.loop-router.invariant.wrote
    (rw (c.connection_of.ensures, c.new.ensures.items) at c.in_err-write_record.ensures.octets))))

pub loop-router-preserved : goal.loop-router-preserved
loop-router-preserved g c = record {
  wrote = goes_on each 3 (g.K.Sink.taken c.args.sink.now) (g.K.Sink.taken c.loop-router.sink) (g.K.Sink.taken c.write_record.new.sink) c.loop-router.router c.loop-router.invariant.wrote
      (rw (c.connection_of.ensures, c.new.ensures.items) at c.in_ok-write_record.ensures.octets);
  never_falls = omega (arith, c.loop-router.invariant.never_falls, c.write_record.ensures.never_falls);
}

pub returns-in_err-write_record-2-clause-octets : goal.returns-in_err-write_record-2-clause-octets
unfolding closed work finish
returns-in_err-write_record-2-clause-octets g c =
    let p = err_from_is_err_and c.from_residual-in_err-write_record-2.result c.from_residual-in_err-write_record-2.ensures.1 in
    let e = c.in_err-write_record-2.field-0.0 in
    let before = g.K.Sink.taken c.args.sink.now in
    let mid = g.K.Sink.taken c.loop-router.sink in
    let now = g.K.Sink.taken c.write_record-2.new.sink in
    let last : c.loop-router.router ≡ 3 = omega arith in
    let done = c.loop-router.invariant.wrote ∙ ap (λ n. behind before (flat_map each (numbers_from 0 n))) last in
    rw (p.1, p.2) (subst (λ (o : List ℕ). WritesPart o before now e) (sym all)
    (stops_later closed (work ++ (finish ++ [])) before mid now e done
    (stops_early work (finish ++ []) mid now e (rw c.new-2.ensures.items at c.in_err-write_record-2.ensures.octets))))

pub returns-clause-octets : goal.returns-clause-octets
unfolding closed work finish
returns-clause-octets g c =
    let result = c.write_record-3.result in
    let before = g.K.Sink.taken c.args.sink.now in
    let mid = g.K.Sink.taken c.loop-router.sink in
    let next = g.K.Sink.taken c.write_record-2.new.sink in
    let now = g.K.Sink.taken c.write_record-3.new.sink in
    let last : c.loop-router.router ≡ 3 = omega arith in
    let done = c.loop-router.invariant.wrote ∙ ap (λ n. behind before (flat_map each (numbers_from 0 n))) last in
    subst (λ (o : List ℕ). Writes o before now result) (sym all)
    (then_writes closed (work ++ (finish ++ [])) before mid now result done
    (then_writes work (finish ++ []) mid next now result (rw c.new-2.ensures.items at c.in_ok-write_record-2.ensures.octets)
    (subst (λ (o : List ℕ). Writes o next now result) (sym (append-nil finish)) (rw c.new-3.ensures.items at c.write_record-3.ensures.octets))))
