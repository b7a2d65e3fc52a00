use Rattle.std.proofs.Common.{◌≡◌, ℕ, suc, ◌+◌, ◌<◌, List, [], ◌∷◌, ◌++◌, length, map, refl, sym, ap, subst, ◌∙◌, add-one, append-nil, arith}
use Rattle.std.specs.Prelude.{All}
use Rattle.std.specs.List.{flat_map, concat}
use Rattle.std.proofs.lemmas.List.Elements.{All-from_recursion}
use Rattle.std.proofs.lemmas.Result.{err_from_is_err_and}
use Rattle.outside.specs.Told.{behind}
use Rattle.rcp_base.specs.Feed.{record_octets}
use Rattle.feed_make.specs.declared.refusal.MakeRefusal.TheVariants.{NoMemory}
use Rattle.feed_make.specs.Numbers.{numbers_from}
use Rattle.feed_make.specs.Networks.{NetworkOf, change_place, changed_link}
use Rattle.feed_make.specs.Feeds.{octets_of, drain, lsas, packet_octets, change_packet, changes}
use Rattle.feed_make.specs.Writes.{Writes, WritesPart}
use Rattle.feed_make.proofs.Ranges.{flat_map-map}
use Rattle.feed_make.proofs.Parts.{octets-append}
use Rattle.feed_make.proofs.Networks.{changed_is_link}
use Rattle.feed_make.proofs.Lengths.{two_short, packet_length}
use Rattle.feed_make.proofs.Writing.{begins, goes_on, stops_at, stops_early, then_writes, nothing}
use Rattle.feed_make.proofs.making.write_changes.Goals as goal

abbrev each : ℕ → ℕ → List ℕ
each number k = record_octets (change_packet number k)

work : List ℕ
work = record_octets drain

all : (number : ℕ) → octets_of (changes number) ≡ flat_map (each number) (numbers_from 0 10) ++ work
unfolding changes work
all number =
    octets-append (map (change_packet number) (numbers_from 0 10)) (drain ∷ [])
    ∙ (λ i. flat_map-map record_octets (change_packet number) (numbers_from 0 10) i ++ append-nil (record_octets drain) i)

-- the routers of the link that is changed
abbrev two_of : ℕ → ℕ → List ℕ
two_of number k = (changed_link number k).from ∷ (changed_link number k).to ∷ []

routers_are : (number k : ℕ) (old : NetworkOf) (routers : List ℕ) → routers ≡ two_of old.number old.changes → old ≡ record { number = number; changes = k } → routers ≡ two_of number k
routers_are number k old routers is was = is ∙ ap (λ (n : NetworkOf). two_of n.number n.changes) was

network_is : (number k : ℕ) (old new : NetworkOf) → new ≡ record old { changes = old.changes + 1 } → old ≡ record { number = number; changes = k } → new ≡ record { number = number; changes = suc k }
network_is number k old new is was =
    is ∙ ap (λ (n : NetworkOf). record n { changes = n.changes + 1 }) was ∙ ap (λ m. record { number = number; changes = m }) (add-one k)

body_is : (number k : ℕ) (new : NetworkOf) (routers body : List ℕ) → body ≡ packet_octets (lsas new.number new.changes routers) → new ≡ record { number = number; changes = suc k } → routers ≡ two_of number k
    → body ≡ packet_octets (lsas number (suc k) (two_of number k))
body_is number k new routers body is net two = is ∙ (λ i. packet_octets (lsas (net i).number (net i).changes (two i)))

pub loop-init : goal.loop-init
loop-init g c = record {
  wrote = begins (each c.args.network.now.number) (g.K.Sink.taken c.args.sink.now);
  never_falls = omega arith;
  draws = λ i. record { number = c.requires.feed i; drawn = c.requires.drawn i };
  network = λ i. record { number = c.args.network.now.number; changes = c.requires.unchanged i };
}

pub packet_of-requires-clause-members : goal.packet_of-requires-clause-members
packet_of-requires-clause-members g c =
    let number = c.args.network.now.number in
    let k = c.loop.counter in
    let two = routers_are number k c.loop.network c.change-routers.result c.change-routers.ensures.routers c.loop.invariant.network in
    let is_link = changed_is_link number k in
    subst (λ (rs : List ℕ). All (λ r. r < 400) rs) (sym two) (All-from_recursion (λ r. r < 400) (two_of number k) (is_link.from_one, (is_link.to_one, tt)))

pub packet_of-requires-clause-short : goal.packet_of-requires-clause-short
packet_of-requires-clause-short g c =
    let number = c.args.network.now.number in
    let k = c.loop.counter in
    let two = routers_are number k c.loop.network c.change-routers.result c.change-routers.ensures.routers c.loop.invariant.network in
    let net = network_is number k c.loop.network c.change-routers.new.self c.change-routers.ensures.network c.loop.invariant.network in
    let all : length (concat (lsas c.change-routers.new.self.number c.change-routers.new.self.changes c.change-routers.result)) ≡ length (concat (lsas number (suc k) (two_of number k))) = λ i. length (concat (lsas (net i).number (net i).changes (two i))) in
    omega (arith, all, two_short number (suc k) (changed_link number k).from (changed_link number k).to)

pub returns-in_err-packet-clause-octets : goal.returns-in_err-packet-clause-octets
returns-in_err-packet-clause-octets g c =
    let p = err_from_is_err_and c.from_residual.result c.from_residual.ensures.1 in
    let number = c.args.network.now.number in
    let before = g.K.Sink.taken c.args.sink.now in
    let now = g.K.Sink.taken c.loop.sink in
    rw (p.1, p.2) (subst (λ (o : List ℕ). WritesPart o before now NoMemory) (sym (all number))
    (stops_early (flat_map (each number) (numbers_from 0 10)) work before now NoMemory
    (stops_at (each number) 10 before now now c.loop.counter NoMemory (omega arith) c.loop.invariant.wrote (nothing (each number c.loop.counter) now NoMemory refl))))

pub write_record-requires : goal.write_record-requires
write_record-requires g c =
    let number = c.args.network.now.number in
    let k = c.loop.counter in
    let two = routers_are number k c.loop.network c.change-routers.result c.change-routers.ensures.routers c.loop.invariant.network in
    let net = network_is number k c.loop.network c.change-routers.new.self c.change-routers.ensures.network c.loop.invariant.network in
    let body = body_is number k c.change-routers.new.self c.change-routers.result c.in_ok-packet.packet.items c.in_ok-packet.ensures net two in
    omega (arith, ap length body, packet_length (lsas number (suc k) (two_of number k)), two_short number (suc k) (changed_link number k).from (changed_link number k).to)

pub returns-in_err-write_record-clause-octets : goal.returns-in_err-write_record-clause-octets
returns-in_err-write_record-clause-octets g c =
    let p = err_from_is_err_and c.from_residual-in_err-write_record.result c.from_residual-in_err-write_record.ensures.1 in
    let e = c.in_err-write_record.field-0.0 in
    let number = c.args.network.now.number in
    let k = c.loop.counter in
    let before = g.K.Sink.taken c.args.sink.now in
    let now = g.K.Sink.taken c.write_record.new.sink in
    let two = routers_are number k c.loop.network c.change-routers.result c.change-routers.ensures.routers c.loop.invariant.network in
    let net = network_is number k c.loop.network c.change-routers.new.self c.change-routers.ensures.network c.loop.invariant.network in
    let body = body_is number k c.change-routers.new.self c.change-routers.result c.in_ok-packet.packet.items c.in_ok-packet.ensures net two in
    rw (p.1, p.2) (subst (λ (o : List ℕ). WritesPart o before now e) (sym (all number))
    (stops_early (flat_map (each number) (numbers_from 0 10)) work before now e
    (stops_at (each number) 10 before (g.K.Sink.taken c.loop.sink) now k e (omega arith) c.loop.invariant.wrote (rw body at c.in_err-write_record.ensures.octets))))

pub loop-preserved : goal.loop-preserved
loop-preserved g c =
    let number = c.args.network.now.number in
    let k = c.loop.counter in
    let two = routers_are number k c.loop.network c.change-routers.result c.change-routers.ensures.routers c.loop.invariant.network in
    let net = network_is number k c.loop.network c.change-routers.new.self c.change-routers.ensures.network c.loop.invariant.network in
    let body = body_is number k c.change-routers.new.self c.change-routers.result c.in_ok-packet.packet.items c.in_ok-packet.ensures net two in
    record {
      wrote = goes_on (each number) 10 (g.K.Sink.taken c.args.sink.now) (g.K.Sink.taken c.loop.sink) (g.K.Sink.taken c.write_record.new.sink) k c.loop.invariant.wrote (rw body at c.in_ok-write_record.ensures.octets);
      never_falls = omega (arith, c.loop.invariant.never_falls, c.write_record.ensures.never_falls);
      draws =
          c.change-routers.ensures.after
          ∙ (λ i. record { number = (c.loop.invariant.draws i).number; drawn = change_place ((c.loop.invariant.network i).changes + 1) });
      network = net ∙ ap (λ m. record { number = number; changes = m }) (sym (add-one k));
    }

pub returns-clause-octets : goal.returns-clause-octets
unfolding work
returns-clause-octets g c =
    let number = c.args.network.now.number in
    let before = g.K.Sink.taken c.args.sink.now in
    let now = g.K.Sink.taken c.write_record-2.new.sink in
    let last : c.loop.counter ≡ 10 = omega arith in
    subst (λ (o : List ℕ). Writes o before now c.write_record-2.result) (sym (all number))
    (then_writes (flat_map (each number) (numbers_from 0 10)) work before (g.K.Sink.taken c.loop.sink) now c.write_record-2.result
    (c.loop.invariant.wrote ∙ ap (λ n. behind before (flat_map (each number) (numbers_from 0 n))) last)
    (rw c.new.ensures.items at c.write_record-2.ensures.octets))
