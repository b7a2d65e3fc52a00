use Rattle.std.proofs.Common.{◌≡◌, ℕ, ◌-◌, ◌+◌, ◌≤◌, length, take, drop, slice_index, Some, IfOk, subst, arith}
use Rattle.rcp_model.specs.LsaWalk.{lsa_count, lsa_len}
use Rattle.lsa_reader.specs.Walking.{IsStep}
use Rattle.igp_view.specs.Reading.{Installs, Counts, read_one}
use Rattle.igp_view.proofs.ReadLemmas.{walking_none, walking_next, short_installs, short_counts}
use Rattle.igp_view.proofs.packets.take_lsas.Goals as goal

pub loop-found-init : goal.loop-found-init
loop-found-init c = walking_none c.args.packet.now c.args.lsdb.now c.args.got.now c.requires.whole

pub overflow_add-got : goal.overflow_add-got
overflow_add-got c = omega (arith, c.loop-found.invariant.bound, c.loop-found.invariant.within, c.requires.room)

pub returns-in_default-found-clause-state : goal.returns-in_default-found-clause-state
returns-in_default-found-clause-state c =
    short_installs c.args.packet.now c.loop-found.place c.args.lsdb.now c.loop-found.lsdb c.args.got.now c.loop-found.got c.loop-found.invariant c.in_default-found.field-0
    (subst (λ found. IsStep (lsa_count c.args.packet.now - c.loop-found.invariant.count) (drop c.loop-found.place c.args.packet.now) (Some found)) c.in_default-found.is
    (c.in-Some.ensures.step c.loop-found.invariant.count c.loop-found.invariant.few c.loop-found.invariant.at))

pub returns-in_default-found-clause-counts : goal.returns-in_default-found-clause-counts
returns-in_default-found-clause-counts c =
    short_counts c.args.packet.now c.loop-found.place c.args.lsdb.now c.loop-found.lsdb c.args.got.now c.loop-found.got c.loop-found.invariant c.in_default-found.field-0
    (subst (λ found. IsStep (lsa_count c.args.packet.now - c.loop-found.invariant.count) (drop c.loop-found.place c.args.packet.now) (Some found)) c.in_default-found.is
    (c.in-Some.ensures.step c.loop-found.invariant.count c.loop-found.invariant.few c.loop-found.invariant.at))

pub returns-in_default-found-clause-few : goal.returns-in_default-found-clause-few
returns-in_default-found-clause-few c = omega (arith, c.loop-found.invariant.bound, c.loop-found.invariant.within)

pub loop-found-preserved : goal.loop-found-preserved
loop-found-preserved c =
    walking_next c.args.packet.now c.loop-found.place c.args.lsdb.now c.loop-found.lsdb c.args.got.now c.loop-found.got c.loop-found.invariant c.in-Ok.len c.in-Ok.kind
    (subst (λ found. IsStep (lsa_count c.args.packet.now - c.loop-found.invariant.count) (drop c.loop-found.place c.args.packet.now) (Some found)) c.in-Ok.is
    (c.in-Some.ensures.step c.loop-found.invariant.count c.loop-found.invariant.few c.loop-found.invariant.at))
    c.take_one.new.lsdb c.take_one.new.got
    (subst (λ found. IfOk found (λ lsa. (lsa_len (drop c.loop-found.place c.args.packet.now) ≡ Some lsa.0) × (lsa.1 ≡ slice_index c.args.packet.now (c.loop-found.place + 3)))) c.in-Ok.is c.in-Some.ensures.lsa).0
    (subst (λ found. IfOk found (λ lsa. c.loop-found.place + lsa.0 ≤ length c.args.packet.now)) c.in-Ok.is c.in-Some.ensures.within)
    (subst (λ n. Installs (read_one (take n (drop c.loop-found.place c.args.packet.now))) c.loop-found.lsdb c.take_one.new.lsdb) (back c.loop-found.place c.in-Ok.len) c.in_ok-take_one.ensures.state)
    (subst (λ n. Counts (read_one (take n (drop c.loop-found.place c.args.packet.now))) c.loop-found.got c.take_one.new.got) (back c.loop-found.place c.in-Ok.len) c.in_ok-take_one.ensures.counts) where
      back : (place len : ℕ) → place + len - place ≡ len
      back place len = omega arith

pub returns-clause-few : goal.returns-clause-few
returns-clause-few c = omega (arith, c.loop-found.invariant.bound, c.loop-found.invariant.within)
