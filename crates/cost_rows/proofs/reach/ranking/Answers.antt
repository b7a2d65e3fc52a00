use Rattle.std.proofs.Common.{subst, sym, ◌∙◌, ap}
use Rattle.std.proofs.lemmas.Result.{IfOk-weaker}
use Rattle.cost_rows.specs.Views.{IsRanking, cost_at}
use Rattle.cost_rows.specs.Keys.{slots_of}
use Rattle.cost_rows.proofs.KeyLemmas.{ranking_is, cost_seated}
use Rattle.cost_rows.proofs.reach.ranking.Goals as goal

pub returns : goal.returns
returns c =
    let ranking = ranking_is c.args.members.now (cost_at c.args.costs.now) c.in_ok-keys.keys.items c.sort_unstable.new.self.items c.requires.members
    (cost_seated c.args.members.now c.args.costs.now c.requires.each_member) c.in_ok-keys.ensures c.sort_unstable.ensures.permutation c.sort_unstable.ensures.sorted in
    IfOk-weaker _ _ _ (λ ranked is. subst (IsRanking c.args.members.now (cost_at c.args.costs.now)) (sym (is ∙ ap slots_of c.as_slice.ensures.value)) ranking) c.slots_of.ensures
