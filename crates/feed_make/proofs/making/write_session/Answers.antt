use Rattle.std.proofs.Common.{ℕ, List, [], ◌++◌, refl, sym, subst, append-nil}
use Rattle.std.proofs.lemmas.Result.{err_from_is_err_and}
use Rattle.rcp_base.specs.declared.kinds.Kind.TheVariants.{Raw, Octets}
use Rattle.rcp_base.specs.Feed.{record_octets}
use Rattle.rcp_model.specs.Messages.{message_octets}
use Rattle.feed_make.specs.declared.refusal.MakeRefusal.TheVariants.{NoMemory}
use Rattle.feed_make.specs.Writes.{Writes}
use Rattle.feed_make.specs.Feeds.{item, connection, open_message}
use Rattle.feed_make.proofs.Writing.{stops_early, stops_later, stops_before, then_writes}
use Rattle.feed_make.proofs.making.write_session.Goals as goal

begun : ℕ → List ℕ
begun router = record_octets (item Raw (connection router) [])

opened : ℕ → List ℕ
opened router = record_octets (item Octets (connection router) (open_message router))

kept : ℕ → List ℕ
kept router = record_octets (item Octets (connection router) (message_octets 4 []))

pub returns-in_err-write_record-clause-octets : goal.returns-in_err-write_record-clause-octets
unfolding begun opened kept
returns-in_err-write_record-clause-octets g c =
    let p = err_from_is_err_and c.from_residual.result c.from_residual.ensures.1 in
    let router = c.args.router in
    rw (p.1, p.2) (stops_early (begun router) (opened router ++ (kept router ++ [])) _ _ c.in_err-write_record.field-0.0
    (rw (c.connection_of-connection.ensures, c.new.ensures.items) at c.in_err-write_record.ensures.octets))

pub returns-in_err-open-clause-octets : goal.returns-in_err-open-clause-octets
unfolding begun opened kept
returns-in_err-open-clause-octets g c =
    let p = err_from_is_err_and c.from_residual-in_err-open.result c.from_residual-in_err-open.ensures.1 in
    let router = c.args.router in
    let rest = opened router ++ (kept router ++ []) in
    rw (p.1, p.2) (stops_before (begun router ++ rest) (begun router) rest _ _ NoMemory refl
    (rw (c.connection_of-connection.ensures, c.new.ensures.items) at c.in_ok-write_record.ensures.octets) refl)

pub returns-in_err-write_record-2-clause-octets : goal.returns-in_err-write_record-2-clause-octets
unfolding begun opened kept
returns-in_err-write_record-2-clause-octets g c =
    let p = err_from_is_err_and c.from_residual-in_err-write_record-2.result c.from_residual-in_err-write_record-2.ensures.1 in
    let router = c.args.router in
    rw (p.1, p.2) (stops_later (begun router) (opened router ++ (kept router ++ [])) _ _ _ c.in_err-write_record-2.field-0.0
    (rw (c.connection_of-connection.ensures, c.new.ensures.items) at c.in_ok-write_record.ensures.octets)
    (stops_early (opened router) (kept router ++ []) _ _ c.in_err-write_record-2.field-0.0
    (rw (c.connection_of-connection.ensures, c.in_ok-open.ensures) at c.in_err-write_record-2.ensures.octets)))

pub returns-in_err-keepalive-clause-octets : goal.returns-in_err-keepalive-clause-octets
unfolding begun opened kept
returns-in_err-keepalive-clause-octets g c =
    let p = err_from_is_err_and c.from_residual-in_err-keepalive.result c.from_residual-in_err-keepalive.ensures.1 in
    let router = c.args.router in
    rw (p.1, p.2) (stops_later (begun router) (opened router ++ (kept router ++ [])) _ _ _ NoMemory
    (rw (c.connection_of-connection.ensures, c.new.ensures.items) at c.in_ok-write_record.ensures.octets)
    (stops_before (opened router ++ (kept router ++ [])) (opened router) (kept router ++ []) _ _ NoMemory refl
    (rw (c.connection_of-connection.ensures, c.in_ok-open.ensures) at c.in_ok-write_record-2.ensures.octets) refl))

pub returns-clause-octets : goal.returns-clause-octets
unfolding begun opened kept
returns-clause-octets g c =
    let router = c.args.router in
    then_writes (begun router) (opened router ++ (kept router ++ [])) _ _ _ c.write_record-3.result
    (rw (c.connection_of-connection.ensures, c.new.ensures.items) at c.in_ok-write_record.ensures.octets)
    (then_writes (opened router) (kept router ++ []) _ _ _ c.write_record-3.result
    (rw (c.connection_of-connection.ensures, c.in_ok-open.ensures) at c.in_ok-write_record-2.ensures.octets)
    (subst (λ (o : List ℕ). Writes o (g.K.Sink.taken c.write_record-2.new.sink) (g.K.Sink.taken c.write_record-3.new.sink) c.write_record-3.result) (sym (append-nil (kept router)))
    (rw (c.connection_of-connection.ensures, c.in_ok-keepalive.ensures.octets) at c.write_record-3.ensures.octets)))
