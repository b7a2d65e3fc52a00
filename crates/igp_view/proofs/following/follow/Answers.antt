use Rattle.igp_view.proofs.FollowingLemmas.{renewals_by}
use Rattle.igp_view.proofs.following.follow.Goals as goal

pub renew-requires : goal.renew-requires
renew-requires c =
    renewals_by c.args.engine.now c.change.new.self c.args.view.now.value c.args.graph c.in_ok-pairs.pairs.items c.in_ok-rows.rows.items c.requires.engine c.in_ok-pairs.ensures.over c.in_ok-pairs.ensures.members
    c.in_ok-pairs.ensures.changes (rw c.as_slice.ensures.value at c.in_ok-rows.ensures)
