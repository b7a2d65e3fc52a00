use Rattle.std.proofs.Common.{◌≡◌, ℕ, List, refl, sym, ap, subst, ◌∙◌, arith}
use Rattle.std.specs.List.{flat_map}
use Rattle.std.proofs.lemmas.Result.{err_from_is_err_and}
use Rattle.outside.specs.Told.{behind}
use Rattle.rcp_base.specs.Feed.{record_octets}
use Rattle.feed_make.specs.Numbers.{numbers_from}
use Rattle.feed_make.specs.Feeds.{octets_of, session_of, sessions}
use Rattle.feed_make.specs.Writes.{WritesPart}
use Rattle.feed_make.proofs.Ranges.{flat_map-flat_map}
use Rattle.feed_make.proofs.Writing.{begins, goes_on, stops_at}
use Rattle.feed_make.proofs.making.write_sessions.Goals as goal

abbrev each : ℕ → List ℕ
each router = octets_of (session_of router)

all : octets_of sessions ≡ flat_map each (numbers_from 0 400)
unfolding sessions
all = flat_map-flat_map record_octets session_of (numbers_from 0 400)

pub loop-router-init : goal.loop-router-init
loop-router-init g c = record { wrote = begins each (g.K.Sink.taken c.args.sink.now); never_falls = omega arith }

pub returns-in_err-write_session-clause-octets : goal.returns-in_err-write_session-clause-octets
returns-in_err-write_session-clause-octets g c =
    let p = err_from_is_err_and c.from_residual.result c.from_residual.ensures.1 in
    let e = c.in_err-write_session.field-0.0 in
    let before = g.K.Sink.taken c.args.sink.now in
    let now = g.K.Sink.taken c.write_session.new.sink in
    rw (p.1, p.2) (subst (λ (o : List ℕ). WritesPart o before now e) (sym all)
    (stops_at each 400 before (g.K.Sink.taken c.loop-router.sink) now c.loop-router.router e (omega arith) c.loop-router.invariant.wrote c.in_err-write_session.ensures.octets))

pub loop-router-preserved : goal.loop-router-preserved
loop-router-preserved g c = record {
  wrote = goes_on each 400 (g.K.Sink.taken c.args.sink.now) (g.K.Sink.taken c.loop-router.sink) (g.K.Sink.taken c.write_session.new.sink) c.loop-router.router c.loop-router.invariant.wrote c.in_ok-write_session.ensures.octets;
  never_falls = omega (arith, c.loop-router.invariant.never_falls, c.write_session.ensures.never_falls);
}

pub returns-clause-octets : goal.returns-clause-octets
returns-clause-octets g c =
    let before = g.K.Sink.taken c.args.sink.now in
    let last : c.loop-router.router ≡ 400 = omega arith in
    c.loop-router.invariant.wrote
    ∙ ap (λ n. behind before (flat_map each (numbers_from 0 n))) last
    ∙ ap (behind before) (sym all)
