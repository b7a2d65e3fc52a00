use Rattle.std.proofs.Common.{◌≡◌, ◌<◌, length, sym, ap, subst}
use Rattle.std.proofs.lemmas.Result.{on_ok_weaker, IfErr-weaker, on_err_weaker}
use Rattle.seats.specs.Seats.{SeatOf}
use Rattle.seats.proofs.Steps.{numbered, was_put, was_full, was_queued, number_at}
use Rattle.seats.proofs.seat.Seat.put.Goals as goal

pub invariant_of-self : goal.invariant_of-self
invariant_of-self g c =
    let s = c.self.inside in
    numbered s.shards.items c.args.shard (subst (λ (s : SeatOf). c.args.shard < length s.senders) (sym c.self.view_is) c.requires) c.index_mut.result.now (sym c.index_mut.ensures.value) c.put.new.sender s.slot c.put.ensures.same.number c.self.invariant

pub returns-clause-put : goal.returns-clause-put
returns-clause-put g c =
    let s = c.self.inside in
    on_ok_weaker c.put.result (λ did. was_put s.shards.items c.args.shard (subst (λ (s : SeatOf). c.args.shard < length s.senders) (sym c.self.view_is) c.requires) c.index_mut.result.now (sym c.index_mut.ensures.value) s.slot s.generation _ c.args.self.now c.self.view_is
    c.put.new.sender c.args.mail c.put.ensures.same did.0 did.1) c.put.ensures.put

pub returns-clause-full : goal.returns-clause-full
returns-clause-full g c =
    let s = c.self.inside in
    IfErr-weaker c.put.result _ _ (λ e did. (
      did.0,
      was_full s.shards.items c.args.shard (subst (λ (s : SeatOf). c.args.shard < length s.senders) (sym c.self.view_is) c.requires) c.index_mut.result.now (sym c.index_mut.ensures.value) s.slot s.generation _ c.args.self.now c.self.view_is
          c.put.new.sender c.put.ensures.same did.1 did.2,
    )) c.put.ensures.full

pub returns-clause-cause : goal.returns-clause-cause
returns-clause-cause g c =
    let s = c.self.inside in
    on_err_weaker c.put.result (λ full. was_queued s.shards.items c.args.shard (subst (λ (s : SeatOf). c.args.shard < length s.senders) (sym c.self.view_is) c.requires) c.index_mut.result.now (sym c.index_mut.ensures.value) s.slot s.generation _ c.args.self.now c.self.view_is
    (number_at s.shards.items c.args.shard (subst (λ (s : SeatOf). c.args.shard < length s.senders) (sym c.self.view_is) c.requires) c.index_mut.result.now (sym c.index_mut.ensures.value) s.slot s.generation _ c.args.self.now c.self.view_is c.self.invariant) full) c.put.ensures.cause
