use Rattle.std.proofs.Common.{◌≡◌, ℕ, List, refl, sym, ap, subst, ◌∙◌, arith}
use Rattle.std.specs.List.{flat_map}
use Rattle.std.proofs.lemmas.Result.{err_from_is_err_and}
use Rattle.outside.specs.Told.{behind}
use Rattle.rcp_base.specs.declared.kinds.Kind.TheVariants.{Slice}
use Rattle.rcp_base.specs.Feed.{record_octets}
use Rattle.feed_make.specs.declared.refusal.MakeRefusal.TheVariants.{NoMemory}
use Rattle.feed_make.specs.Numbers.{numbers_from}
use Rattle.feed_make.specs.Feeds.{item, octets_of, slice_body, slices_of}
use Rattle.feed_make.specs.Writes.{WritesPart}
use Rattle.feed_make.proofs.Writing.{begins, goes_on, stops_at, nothing}
use Rattle.feed_make.proofs.making.write_slices_of.Goals as goal

abbrev each : ℕ → ℕ → List ℕ
each shard _ = record_octets (item Slice 0 (slice_body shard))

all : (shard : ℕ) → octets_of (slices_of shard) ≡ flat_map (each shard) (numbers_from 0 4)
unfolding numbers_from
all shard = refl

pub loop-init : goal.loop-init
loop-init g c = record { wrote = begins (each c.args.shard) (g.K.Sink.taken c.args.sink.now); never_falls = omega arith }

pub returns-in_err-slice_body-clause-octets : goal.returns-in_err-slice_body-clause-octets
returns-in_err-slice_body-clause-octets g c =
    let p = err_from_is_err_and c.from_residual.result c.from_residual.ensures.1 in
    let before = g.K.Sink.taken c.args.sink.now in
    let now = g.K.Sink.taken c.loop.sink in
    rw (p.1, p.2) (subst (λ (o : List ℕ). WritesPart o before now NoMemory) (sym (all c.args.shard))
    (stops_at (each c.args.shard) 4 before now now c.loop.counter NoMemory (omega arith) c.loop.invariant.wrote (nothing (each c.args.shard c.loop.counter) now NoMemory refl)))

pub returns-in_err-write_record-clause-octets : goal.returns-in_err-write_record-clause-octets
returns-in_err-write_record-clause-octets g c =
    let p = err_from_is_err_and c.from_residual-in_err-write_record.result c.from_residual-in_err-write_record.ensures.1 in
    let e = c.in_err-write_record.field-0.0 in
    let before = g.K.Sink.taken c.args.sink.now in
    let now = g.K.Sink.taken c.write_record.new.sink in
    rw (p.1, p.2) (subst (λ (o : List ℕ). WritesPart o before now e) (sym (all c.args.shard))
    (stops_at (each c.args.shard) 4 before (g.K.Sink.taken c.loop.sink) now c.loop.counter e (omega arith) c.loop.invariant.wrote
    (rw c.in_ok-slice_body.ensures at c.in_err-write_record.ensures.octets)))

pub loop-preserved : goal.loop-preserved
loop-preserved g c = record {
  wrote = goes_on (each c.args.shard) 4 (g.K.Sink.taken c.args.sink.now) (g.K.Sink.taken c.loop.sink) (g.K.Sink.taken c.write_record.new.sink) c.loop.counter c.loop.invariant.wrote
      (rw c.in_ok-slice_body.ensures at c.in_ok-write_record.ensures.octets);
  never_falls = omega (arith, c.loop.invariant.never_falls, c.write_record.ensures.never_falls);
}

pub returns-clause-octets : goal.returns-clause-octets
returns-clause-octets g c =
    let before = g.K.Sink.taken c.args.sink.now in
    let last : c.loop.counter ≡ 4 = omega arith in
    c.loop.invariant.wrote
    ∙ ap (λ n. behind before (flat_map (each c.args.shard) (numbers_from 0 n))) last
    ∙ ap (behind before) (sym (all c.args.shard))
