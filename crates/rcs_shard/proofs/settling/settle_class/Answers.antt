use Rattle.std.proofs.Common.{ℕ, ◌<◌, take, sym, subst}
use Rattle.std.specs.Prelude.{All}
use Rattle.rcp_model.specs.Decision.{Contender}
use Rattle.rcp_model.proofs.FilterLemmas.{member_of_tied}
use Rattle.rcs_shard.specs.Settling.{candidates_at, IsKept}
use Rattle.rcs_shard.proofs.ContenderLemmas.{tied_same}
use Rattle.rcs_shard.proofs.settling.settle_class.Goals as goal

pub list_tied-tied-requires-clause-members : goal.list_tied-tied-requires-clause-members
list_tied-tied-requires-clause-members c =
    subst (λ (n : ℕ). All (λ (a : Contender). a.slot < n) (take c.list_candidates-count.result c.list_candidates-count.new.list)) (sym c.requires.marks) c.list_candidates-count.ensures.members

pub settle_slots-requires-clause-tied : goal.settle_slots-requires-clause-tied
settle_slots-requires-clause-tied c =
    let list = take c.list_candidates-count.result c.list_candidates-count.new.list in
    let all = candidates_at c.args.ribs.now c.args.view.now c.args.p c.args.class in
    let same = c.list_candidates-count.ensures.listed in
    λ e. (
      (λ inside. let t = (c.list_tied-tied.ensures.tied e).0 inside in (t.0, tied_same list all same t.0 t.1, t.2)),
      (λ t. (c.list_tied-tied.ensures.tied e).1 (t.0, tied_same all list (λ a. ((same a).1, (same a).0)) t.0 t.1, t.2)),
    )

pub settle_slots-requires-clause-kept : goal.settle_slots-requires-clause-kept
settle_slots-requires-clause-kept c = λ e inside.
    let t = (c.list_tied-tied.ensures.tied e).0 inside in
    let list = take c.list_candidates-count.result c.list_candidates-count.new.list in
    subst (IsKept c.args.ribs.now c.args.p c.list_candidates-count.new.from) t.2 (c.list_candidates-count.ensures.kept t.0 (member_of_tied list t.0 t.1).0)
