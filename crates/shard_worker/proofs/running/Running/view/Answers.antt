use Rattle.std.proofs.Common.{sym, ap, ◌∙◌}
use Rattle.cost_rows.specs.Views.{ViewOf}
use Rattle.shard_worker.proofs.RunningLemmas.{members_equal}
use Rattle.shard_worker.proofs.running.Running.view.Goals as goal

pub view-requires : goal.view-requires
view-requires c =
    sym (c.members.ensures.members ∙ ap (λ (v : ViewOf). v.members) c.deref.ensures)
    ∙ members_equal _ _ (sym c.are_same.ensures ∙ c.if-are_same.true)
    ∙ c.members-members.ensures.members
