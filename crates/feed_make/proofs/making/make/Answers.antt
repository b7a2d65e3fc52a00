use Rattle.std.proofs.Common.{◌≡◌, ℕ, List, ◌++◌, ◌≤◌, ◌<◌, ◌^◌, length, sym, ap, subst, ◌∙◌, arith}
use Rattle.std.proofs.lemmas.Result.{err_from_is_err_and}
use Rattle.rcp_base.specs.Feed.{record_octets}
use Rattle.feed_make.specs.Draws.{DrawsOf}
use Rattle.feed_make.specs.Networks.{NetworkOf}
use Rattle.feed_make.specs.Writes.{Writes, WritesPart}
use Rattle.feed_make.specs.Feeds.{octets_of, first_record, sessions, packets, groups, slices, changes, ends, feed_octets}
use Rattle.feed_make.proofs.Lengths.{roster_length}
use Rattle.feed_make.proofs.Parts.{seven_parts}
use Rattle.feed_make.proofs.Writing.{stops_early, stops_later, then_writes}
use Rattle.feed_make.proofs.making.make.Goals as goal

all : (number : ℕ)
    → feed_octets number
    ≡ record_octets first_record ++ (octets_of sessions ++ (octets_of (packets number) ++ (octets_of (groups number) ++ (octets_of slices ++ (octets_of (changes number) ++ octets_of ends)))))
unfolding feed_octets
all number = seven_parts first_record sessions (packets number) (groups number) slices (changes number) ends

network_is : {number : ℕ} (draws : DrawsOf) (network : NetworkOf) → network ≡ record { number = draws.number; changes = 0 } → draws ≡ record { number = number; drawn = 0 } → network ≡ record { number = number; changes = 0 }
network_is draws network is was = is ∙ ap (λ (d : DrawsOf). record { number = d.number; changes = 0 }) was

draws_are : {number : ℕ} (old new : DrawsOf) → new ≡ record old { drawn = 1900 } → old ≡ record { number = number; drawn = 0 } → new ≡ record { number = number; drawn = 1900 }
draws_are old new is was = is ∙ ap (λ (d : DrawsOf). record d { drawn = 1900 }) was

pub write_record-requires : goal.write_record-requires
write_record-requires g c = omega (arith, ap length c.in_ok-roster_text.ensures, roster_length)

pub returns-in_err-write_record-clause-octets : goal.returns-in_err-write_record-clause-octets
returns-in_err-write_record-clause-octets g c =
    let p = err_from_is_err_and c.from_residual-in_err-write_record.result c.from_residual-in_err-write_record.ensures.1 in
    let number = c.args.number in
    let e = c.in_err-write_record.field-0.0 in
    rw (p.1, p.2) (subst (λ (o : List ℕ). WritesPart o (g.K.Sink.taken c.args.sink.now) (g.K.Sink.taken c.write_record.new.sink) e) (sym (all number))
    (stops_early (record_octets first_record) _ _ _ e (rw c.in_ok-roster_text.ensures at c.in_err-write_record.ensures.octets)))

pub returns-in_err-write_sessions-clause-octets : goal.returns-in_err-write_sessions-clause-octets
returns-in_err-write_sessions-clause-octets g c =
    let p = err_from_is_err_and c.from_residual-in_err-write_sessions.result c.from_residual-in_err-write_sessions.ensures.1 in
    let number = c.args.number in
    let e = c.in_err-write_sessions.field-0.0 in
    rw (p.1, p.2) (subst (λ (o : List ℕ). WritesPart o (g.K.Sink.taken c.args.sink.now) (g.K.Sink.taken c.write_sessions.new.sink) e) (sym (all number))
    (stops_later (record_octets first_record) _ _ (g.K.Sink.taken c.write_record.new.sink) _ e (rw c.in_ok-roster_text.ensures at c.in_ok-write_record.ensures.octets)
    (stops_early (octets_of sessions) _ _ _ e (c.in_err-write_sessions.ensures.octets))))

pub returns-in_err-write_network-clause-octets : goal.returns-in_err-write_network-clause-octets
returns-in_err-write_network-clause-octets g c =
    let p = err_from_is_err_and c.from_residual-in_err-write_network.result c.from_residual-in_err-write_network.ensures.1 in
    let number = c.args.number in
    let e = c.in_err-write_network.field-0.0 in
    rw (p.1, p.2) (subst (λ (o : List ℕ). WritesPart o (g.K.Sink.taken c.args.sink.now) (g.K.Sink.taken c.write_network.new.sink) e) (sym (all number))
    (stops_later (record_octets first_record) _ _ (g.K.Sink.taken c.write_record.new.sink) _ e (rw c.in_ok-roster_text.ensures at c.in_ok-write_record.ensures.octets)
    (stops_later (octets_of sessions) _ _ (g.K.Sink.taken c.write_sessions.new.sink) _ e (c.in_ok-write_sessions.ensures.octets)
    (stops_early (octets_of (packets number)) _ _ _ e (rw (network_is _ _ c.in_ok-network.ensures.network c.new-draws.ensures) at c.in_err-write_network.ensures.octets)))))

pub returns-in_err-write_groups-clause-octets : goal.returns-in_err-write_groups-clause-octets
returns-in_err-write_groups-clause-octets g c =
    let p = err_from_is_err_and c.from_residual-in_err-write_groups.result c.from_residual-in_err-write_groups.ensures.1 in
    let number = c.args.number in
    let e = c.in_err-write_groups.field-0.0 in
    rw (p.1, p.2) (subst (λ (o : List ℕ). WritesPart o (g.K.Sink.taken c.args.sink.now) (g.K.Sink.taken c.write_groups.new.sink) e) (sym (all number))
    (stops_later (record_octets first_record) _ _ (g.K.Sink.taken c.write_record.new.sink) _ e (rw c.in_ok-roster_text.ensures at c.in_ok-write_record.ensures.octets)
    (stops_later (octets_of sessions) _ _ (g.K.Sink.taken c.write_sessions.new.sink) _ e (c.in_ok-write_sessions.ensures.octets)
    (stops_later (octets_of (packets number)) _ _ (g.K.Sink.taken c.write_network.new.sink) _ e (rw (network_is _ _ c.in_ok-network.ensures.network c.new-draws.ensures) at c.in_ok-write_network.ensures.octets)
    (stops_early (octets_of (groups number)) _ _ _ e (rw (draws_are _ _ c.in_ok-network.ensures.after c.new-draws.ensures) at c.in_err-write_groups.ensures.octets))))))

pub returns-in_err-write_slices-clause-octets : goal.returns-in_err-write_slices-clause-octets
returns-in_err-write_slices-clause-octets g c =
    let p = err_from_is_err_and c.from_residual-in_err-write_slices.result c.from_residual-in_err-write_slices.ensures.1 in
    let number = c.args.number in
    let e = c.in_err-write_slices.field-0.0 in
    rw (p.1, p.2) (subst (λ (o : List ℕ). WritesPart o (g.K.Sink.taken c.args.sink.now) (g.K.Sink.taken c.write_slices.new.sink) e) (sym (all number))
    (stops_later (record_octets first_record) _ _ (g.K.Sink.taken c.write_record.new.sink) _ e (rw c.in_ok-roster_text.ensures at c.in_ok-write_record.ensures.octets)
    (stops_later (octets_of sessions) _ _ (g.K.Sink.taken c.write_sessions.new.sink) _ e (c.in_ok-write_sessions.ensures.octets)
    (stops_later (octets_of (packets number)) _ _ (g.K.Sink.taken c.write_network.new.sink) _ e (rw (network_is _ _ c.in_ok-network.ensures.network c.new-draws.ensures) at c.in_ok-write_network.ensures.octets)
    (stops_later (octets_of (groups number)) _ _ (g.K.Sink.taken c.write_groups.new.sink) _ e (rw (draws_are _ _ c.in_ok-network.ensures.after c.new-draws.ensures) at c.in_ok-write_groups.ensures.octets)
    (stops_early (octets_of slices) _ _ _ e (c.in_err-write_slices.ensures.octets)))))))

pub returns-in_err-write_changes-clause-octets : goal.returns-in_err-write_changes-clause-octets
returns-in_err-write_changes-clause-octets g c =
    let p = err_from_is_err_and c.from_residual-in_err-write_changes.result c.from_residual-in_err-write_changes.ensures.1 in
    let number = c.args.number in
    let e = c.in_err-write_changes.field-0.0 in
    rw (p.1, p.2) (subst (λ (o : List ℕ). WritesPart o (g.K.Sink.taken c.args.sink.now) (g.K.Sink.taken c.write_changes.new.sink) e) (sym (all number))
    (stops_later (record_octets first_record) _ _ (g.K.Sink.taken c.write_record.new.sink) _ e (rw c.in_ok-roster_text.ensures at c.in_ok-write_record.ensures.octets)
    (stops_later (octets_of sessions) _ _ (g.K.Sink.taken c.write_sessions.new.sink) _ e (c.in_ok-write_sessions.ensures.octets)
    (stops_later (octets_of (packets number)) _ _ (g.K.Sink.taken c.write_network.new.sink) _ e (rw (network_is _ _ c.in_ok-network.ensures.network c.new-draws.ensures) at c.in_ok-write_network.ensures.octets)
    (stops_later (octets_of (groups number)) _ _ (g.K.Sink.taken c.write_groups.new.sink) _ e (rw (draws_are _ _ c.in_ok-network.ensures.after c.new-draws.ensures) at c.in_ok-write_groups.ensures.octets)
    (stops_later (octets_of slices) _ _ (g.K.Sink.taken c.write_slices.new.sink) _ e (c.in_ok-write_slices.ensures.octets)
    (stops_early (octets_of (changes number)) _ _ _ e (rw (network_is _ _ c.in_ok-network.ensures.network c.new-draws.ensures) at c.in_err-write_changes.ensures.octets))))))))

pub returns-clause-octets : goal.returns-clause-octets
returns-clause-octets g c =
    let number = c.args.number in
    let result = c.write_ends.result in
    subst (λ (o : List ℕ). Writes o (g.K.Sink.taken c.args.sink.now) (g.K.Sink.taken c.write_ends.new.sink) result) (sym (all number))
    (then_writes (record_octets first_record) _ _ (g.K.Sink.taken c.write_record.new.sink) _ result (rw c.in_ok-roster_text.ensures at c.in_ok-write_record.ensures.octets)
    (then_writes (octets_of sessions) _ _ (g.K.Sink.taken c.write_sessions.new.sink) _ result (c.in_ok-write_sessions.ensures.octets)
    (then_writes (octets_of (packets number)) _ _ (g.K.Sink.taken c.write_network.new.sink) _ result (rw (network_is _ _ c.in_ok-network.ensures.network c.new-draws.ensures) at c.in_ok-write_network.ensures.octets)
    (then_writes (octets_of (groups number)) _ _ (g.K.Sink.taken c.write_groups.new.sink) _ result (rw (draws_are _ _ c.in_ok-network.ensures.after c.new-draws.ensures) at c.in_ok-write_groups.ensures.octets)
    (then_writes (octets_of slices) _ _ (g.K.Sink.taken c.write_slices.new.sink) _ result (c.in_ok-write_slices.ensures.octets)
    (then_writes (octets_of (changes number)) _ _ (g.K.Sink.taken c.write_changes.new.sink) _ result (rw (network_is _ _ c.in_ok-network.ensures.network c.new-draws.ensures) at c.in_ok-write_changes.ensures.octets)
    c.write_ends.ensures.octets))))))
