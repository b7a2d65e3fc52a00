use Rattle.std.proofs.Common.{refl, ◌≡◌, arith}
use Rattle.daemon_parts.proofs.PartsLemmas.{enough, rest_at, made_at}
use Rattle.daemon_parts.proofs.parts.seats_of.Goals as goal

pub loop-preserved : goal.loop-preserved
loop-preserved c =
    let so_far = c.loop.invariant in
    let row = c.in-Some-Some.ensures.items in
    let receiver = c.in-Some-Some.ensures'.items in
    record {
      many_rows = enough _ _ _ _ _ row so_far.many_rows;
      many_receivers = enough _ _ _ _ _ receiver so_far.many_receivers;
      count = grind (arith, c.in_ok-push.ensures.len, so_far.count);
      rest_rows = rest_at _ _ _ _ _ row so_far.rest_rows;
      rest_receivers = rest_at _ _ _ _ _ receiver so_far.rest_receivers;
      rows = made_at _ _ _ _ _ (λ seat row. seat.shards ≡ row) _ _ _ row so_far.rest_rows so_far.count c.in_ok-push.ensures.items c.in-Some-Some.shards-is so_far.rows;
      receivers = made_at _ _ _ _ _ (λ seat receiver. seat.offers ≡ receiver) _ _ _ receiver so_far.rest_receivers so_far.count c.in_ok-push.ensures.items refl so_far.receivers;
    }
