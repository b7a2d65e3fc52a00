use Rattle.std.proofs.Common.{sym, ap, subst, ◌∙◌, Option, ℕ}
use Rattle.std.specs.Prelude.{IfSome}
use Rattle.adj_ribs.specs.Bases.{route_of, IsAnnouncer}
use Rattle.rcs_shard.specs.Settling.{offers_at}
use Rattle.rcs_shard.proofs.SettleLemmas.{settled_one}
use Rattle.rcs_shard.proofs.ContenderLemmas.{egress_within, chosen_announces, chosen_value, egress_offer}
use Rattle.rcs_shard.proofs.settling.settle_cell.Goals as goal

pub chosen_from-chosen-requires : goal.chosen_from-chosen-requires
chosen_from-chosen-requires c =
    egress_within c.args.ribs.now c.args.view.now c.args.p c.args.slot c.args.from.now c.args.tied.now c.requires.kept c.nearest_in.result c.nearest_in.ensures

pub set_cell-requires-clause-announced : goal.set_cell-requires-clause-announced
set_cell-requires-clause-announced c =
    subst (λ (o : Option (ℕ × ℕ)). IfSome o (IsAnnouncer c.args.ribs.now c.args.p)) (sym c.chosen_from-chosen.ensures)
    (chosen_announces c.args.ribs.now c.args.view.now c.args.p c.args.slot c.args.from.now c.args.tied.now c.requires.kept c.nearest_in.result c.nearest_in.ensures)

pub returns : goal.returns
returns c =
    settled_one c.args.p (offers_at c.args.ribs.now c.args.view.now c.args.p) c.args.slot c.chosen_from-chosen.result c.args.ribs.now
    (ap (route_of c.args.ribs.now c.args.p) c.chosen_from-chosen.ensures
    ∙ chosen_value c.args.ribs.now c.args.view.now c.args.p c.args.slot c.args.from.now c.args.tied.now c.requires.kept c.nearest_in.result c.nearest_in.ensures
    ∙ egress_offer c.args.ribs.now c.args.view.now c.args.p c.args.slot c.args.from.now c.args.tied.now c.requires.kept c.nearest_in.result c.requires.tied c.nearest_in.ensures)
    c.set_cell.new.self c.set_cell.ensures.after
