use Rattle.std.proofs.Common.{◌≡◌, ℕ, ◌+◌, List, sym, ap, subst, ◌∙◌, arith}
use Rattle.std.specs.List.{flat_map}
use Rattle.std.proofs.lemmas.Result.{err_from_is_err_and}
use Rattle.outside.specs.Told.{behind}
use Rattle.rcp_base.specs.Feed.{record_octets}
use Rattle.feed_make.specs.Draws.{DrawsOf}
use Rattle.feed_make.specs.Numbers.{numbers_from}
use Rattle.feed_make.specs.Routes.{group_place}
use Rattle.feed_make.specs.Feeds.{octets_of, group_of, groups}
use Rattle.feed_make.specs.Writes.{WritesPart}
use Rattle.feed_make.proofs.Ranges.{flat_map-flat_map}
use Rattle.feed_make.proofs.Writing.{begins, goes_on, stops_at}
use Rattle.feed_make.proofs.making.write_groups.Goals as goal

abbrev each : ℕ → ℕ → List ℕ
each number group = octets_of (group_of number group)

all : (number : ℕ) → octets_of (groups number) ≡ flat_map (each number) (numbers_from 0 400)
unfolding groups
all number = flat_map-flat_map record_octets (group_of number) (numbers_from 0 400)

pub loop-group-init : goal.loop-group-init
loop-group-init g c = record {
  wrote = begins (each c.args.draws.now.number) (g.K.Sink.taken c.args.sink.now);
  never_falls = omega arith;
  draws = ap (λ n. record c.args.draws.now { drawn = n }) c.requires;
}

pub returns-in_err-write_group-clause-octets : goal.returns-in_err-write_group-clause-octets
returns-in_err-write_group-clause-octets g c =
    let p = err_from_is_err_and c.from_residual.result c.from_residual.ensures.1 in
    let e = c.in_err-write_group.field-0.0 in
    let number = c.args.draws.now.number in
    let before = g.K.Sink.taken c.args.sink.now in
    let now = g.K.Sink.taken c.write_group.new.sink in
    rw (p.1, p.2) (subst (λ (o : List ℕ). WritesPart o before now e) (sym (all number))
    (stops_at (each number) 400 before (g.K.Sink.taken c.loop-group.sink) now c.loop-group.group e (omega arith) c.loop-group.invariant.wrote
    (rw c.loop-group.invariant.draws at c.in_err-write_group.ensures.octets)))

pub loop-group-preserved : goal.loop-group-preserved
loop-group-preserved g c =
    let number = c.args.draws.now.number in
    record {
      wrote = goes_on (each number) 400 (g.K.Sink.taken c.args.sink.now) (g.K.Sink.taken c.loop-group.sink) (g.K.Sink.taken c.write_group.new.sink) c.loop-group.group c.loop-group.invariant.wrote
          (rw c.loop-group.invariant.draws at c.in_ok-write_group.ensures.octets);
      never_falls = omega (arith, c.loop-group.invariant.never_falls, c.write_group.ensures.never_falls);
      draws = c.in_ok-write_group.ensures.after ∙ ap (λ (d : DrawsOf). record d { drawn = group_place (c.loop-group.group + 1) }) c.loop-group.invariant.draws;
    }

pub returns-clause-octets : goal.returns-clause-octets
returns-clause-octets g c =
    let number = c.args.draws.now.number in
    let before = g.K.Sink.taken c.args.sink.now in
    let last : c.loop-group.group ≡ 400 = omega arith in
    c.loop-group.invariant.wrote
    ∙ ap (λ n. behind before (flat_map (each number) (numbers_from 0 n))) last
    ∙ ap (behind before) (sym (all number))
