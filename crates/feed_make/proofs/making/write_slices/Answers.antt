use Rattle.std.proofs.Common.{◌≡◌, ℕ, List, [], ◌∷◌, ◌++◌, sym, ap, subst, ◌∙◌, append-nil, arith}
use Rattle.std.specs.List.{flat_map}
use Rattle.std.proofs.lemmas.Result.{err_from_is_err_and}
use Rattle.outside.specs.Told.{behind}
use Rattle.rcp_base.specs.Feed.{record_octets}
use Rattle.feed_make.specs.Numbers.{numbers_from}
use Rattle.feed_make.specs.Feeds.{octets_of, drain, slices_of, slices}
use Rattle.feed_make.specs.Writes.{Writes, WritesPart}
use Rattle.feed_make.proofs.Ranges.{flat_map-flat_map}
use Rattle.feed_make.proofs.Parts.{octets-append}
use Rattle.feed_make.proofs.Writing.{begins, goes_on, stops_at, stops_early, then_writes}
use Rattle.feed_make.proofs.making.write_slices.Goals as goal

abbrev each : ℕ → List ℕ
each shard = octets_of (slices_of shard)

work : List ℕ
work = record_octets drain

all : octets_of slices ≡ flat_map each (numbers_from 0 8) ++ work
unfolding slices work
all =
    octets-append (flat_map slices_of (numbers_from 0 8)) (drain ∷ [])
    ∙ (λ i. flat_map-flat_map record_octets slices_of (numbers_from 0 8) i ++ append-nil (record_octets drain) i)

pub loop-shard-init : goal.loop-shard-init
loop-shard-init g c = record { wrote = begins each (g.K.Sink.taken c.args.sink.now); never_falls = omega arith }

pub returns-in_err-write_slices_of-clause-octets : goal.returns-in_err-write_slices_of-clause-octets
returns-in_err-write_slices_of-clause-octets g c =
    let p = err_from_is_err_and c.from_residual.result c.from_residual.ensures.1 in
    let e = c.in_err-write_slices_of.field-0.0 in
    let before = g.K.Sink.taken c.args.sink.now in
    let now = g.K.Sink.taken c.write_slices_of.new.sink in
    rw (p.1, p.2) (subst (λ (o : List ℕ). WritesPart o before now e) (sym all)
    (stops_early (flat_map each (numbers_from 0 8)) work before now e
    (stops_at each 8 before (g.K.Sink.taken c.loop-shard.sink) now c.loop-shard.shard e (omega arith) c.loop-shard.invariant.wrote c.in_err-write_slices_of.ensures.octets)))

pub loop-shard-preserved : goal.loop-shard-preserved
loop-shard-preserved g c = record {
  wrote = goes_on each 8 (g.K.Sink.taken c.args.sink.now) (g.K.Sink.taken c.loop-shard.sink) (g.K.Sink.taken c.write_slices_of.new.sink) c.loop-shard.shard c.loop-shard.invariant.wrote c.in_ok-write_slices_of.ensures.octets;
  never_falls = omega (arith, c.loop-shard.invariant.never_falls, c.write_slices_of.ensures.never_falls);
}

pub returns-clause-octets : goal.returns-clause-octets
unfolding work
returns-clause-octets g c =
    let before = g.K.Sink.taken c.args.sink.now in
    let now = g.K.Sink.taken c.write_record.new.sink in
    let last : c.loop-shard.shard ≡ 8 = omega arith in
    subst (λ (o : List ℕ). Writes o before now c.write_record.result) (sym all)
    (then_writes (flat_map each (numbers_from 0 8)) work before (g.K.Sink.taken c.loop-shard.sink) now c.write_record.result
    (c.loop-shard.invariant.wrote ∙ ap (λ n. behind before (flat_map each (numbers_from 0 n))) last)
    (rw c.new.ensures.items at c.write_record.ensures.octets))
