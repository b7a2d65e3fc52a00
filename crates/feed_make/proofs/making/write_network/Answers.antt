use Rattle.std.proofs.Common.{◌≡◌, ℕ, ◌*◌, ◌<◌, List, length, refl, sym, ap, subst, ◌∙◌, arith}
use Rattle.std.specs.Prelude.{All}
use Rattle.std.specs.List.{flat_map, concat}
use Rattle.std.proofs.lemmas.Result.{err_from_is_err_and}
use Rattle.outside.specs.Told.{behind}
use Rattle.rcp_base.specs.Feed.{record_octets}
use Rattle.feed_make.specs.declared.refusal.MakeRefusal.TheVariants.{NoMemory}
use Rattle.feed_make.specs.Numbers.{numbers_from}
use Rattle.feed_make.specs.Feeds.{octets_of, lsas, packet_octets, first_packet, packets}
use Rattle.feed_make.specs.Writes.{WritesPart}
use Rattle.feed_make.proofs.Ranges.{flat_map-map, length-numbers, numbers-below}
use Rattle.feed_make.proofs.Lengths.{forty_short, packet_length}
use Rattle.feed_make.proofs.Writing.{begins, goes_on, stops_at, nothing}
use Rattle.feed_make.proofs.making.write_network.Goals as goal

abbrev each : ℕ → ℕ → List ℕ
each number i = record_octets (first_packet number i)

all : (number : ℕ) → octets_of (packets number) ≡ flat_map (each number) (numbers_from 0 10)
unfolding packets
all number = flat_map-map record_octets (first_packet number) (numbers_from 0 10)

pub loop-i-init : goal.loop-i-init
loop-i-init g c = record { wrote = begins (each c.args.network.now.number) (g.K.Sink.taken c.args.sink.now); never_falls = omega arith }

pub packet_of-requires-clause-members : goal.packet_of-requires-clause-members
packet_of-requires-clause-members g c =
    subst (λ (rs : List ℕ). All (λ r. r < 400) rs) (sym c.forty_from.ensures) (numbers-below (40 * c.loop-i.i) 40 400 (omega arith))

pub packet_of-requires-clause-short : goal.packet_of-requires-clause-short
packet_of-requires-clause-short g c =
    let number = c.args.network.now.number in
    let first = 40 * c.loop-i.i in
    let all : length (concat (lsas number c.args.network.now.changes c.forty_from.result)) ≡ length (concat (lsas number 0 (numbers_from first 40))) = λ i. length (concat (lsas number (c.requires i) (c.forty_from.ensures i))) in
    omega (arith, all, forty_short number 0 first (length-numbers first 40))

pub packet_of-requires-clause-few : goal.packet_of-requires-clause-few
packet_of-requires-clause-few g c =
    omega (arith, ap length c.forty_from.ensures, length-numbers (40 * c.loop-i.i) 40)

pub returns-in_err-packet-clause-octets : goal.returns-in_err-packet-clause-octets
returns-in_err-packet-clause-octets g c =
    let p = err_from_is_err_and c.from_residual.result c.from_residual.ensures.1 in
    let number = c.args.network.now.number in
    let before = g.K.Sink.taken c.args.sink.now in
    let now = g.K.Sink.taken c.loop-i.sink in
    rw (p.1, p.2) (subst (λ (o : List ℕ). WritesPart o before now NoMemory) (sym (all number))
    (stops_at (each number) 10 before now now c.loop-i.i NoMemory (omega arith) c.loop-i.invariant.wrote (nothing (each number c.loop-i.i) now NoMemory refl)))

pub write_record-requires : goal.write_record-requires
write_record-requires g c =
    let number = c.args.network.now.number in
    let first = 40 * c.loop-i.i in
    let all = c.in_ok-packet.ensures ∙ (λ i. packet_octets (lsas number (c.requires i) (c.forty_from.ensures i))) in
    omega (arith, ap length all, packet_length (lsas number 0 (numbers_from first 40)), forty_short number 0 first (length-numbers first 40))

pub returns-in_err-write_record-clause-octets : goal.returns-in_err-write_record-clause-octets
returns-in_err-write_record-clause-octets g c =
    let p = err_from_is_err_and c.from_residual-in_err-write_record.result c.from_residual-in_err-write_record.ensures.1 in
    let e = c.in_err-write_record.field-0.0 in
    let number = c.args.network.now.number in
    let before = g.K.Sink.taken c.args.sink.now in
    let now = g.K.Sink.taken c.write_record.new.sink in
    let body = c.in_ok-packet.ensures ∙ (λ i. packet_octets (lsas number (c.requires i) (c.forty_from.ensures i))) in
    rw (p.1, p.2) (subst (λ (o : List ℕ). WritesPart o before now e) (sym (all number))
    (stops_at (each number) 10 before (g.K.Sink.taken c.loop-i.sink) now c.loop-i.i e (omega arith) c.loop-i.invariant.wrote (rw body at c.in_err-write_record.ensures.octets)))

pub loop-i-preserved : goal.loop-i-preserved
loop-i-preserved g c =
    let number = c.args.network.now.number in
    let body = c.in_ok-packet.ensures ∙ (λ i. packet_octets (lsas number (c.requires i) (c.forty_from.ensures i))) in
    record {
      wrote = goes_on (each number) 10 (g.K.Sink.taken c.args.sink.now) (g.K.Sink.taken c.loop-i.sink) (g.K.Sink.taken c.write_record.new.sink) c.loop-i.i c.loop-i.invariant.wrote (rw body at c.in_ok-write_record.ensures.octets);
      never_falls = omega (arith, c.loop-i.invariant.never_falls, c.write_record.ensures.never_falls);
    }

pub returns-clause-octets : goal.returns-clause-octets
returns-clause-octets g c =
    let number = c.args.network.now.number in
    let before = g.K.Sink.taken c.args.sink.now in
    let last : c.loop-i.i ≡ 10 = omega arith in
    c.loop-i.invariant.wrote
    ∙ ap (λ n. behind before (flat_map (each number) (numbers_from 0 n))) last
    ∙ ap (behind before) (sym (all number))
