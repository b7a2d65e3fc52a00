use Rattle.std.proofs.Common.{◌≡◌, refl, sym, ap, subst, ◌∙◌}
use Rattle.rcp_model.specs.ServerRibs.{Links}
use Rattle.cost_rows.specs.Views.{ViewOf}
use Rattle.cost_rows.proofs.SearchLemmas.{whole}
use Rattle.rcs_shard.specs.Settling.{AreClasses}
use Rattle.rcs_shard.specs.Shards.{ShardOf, acted}
use Rattle.rcs_shard.specs.Joins.{shard_in}
use Rattle.rcs_shard.proofs.ShardLemmas.{view_acts, moved_marks, flagged_marks, same_view, joined_to, joined_moved, places_moved}
use Rattle.rcs_shard.proofs.shard.Shard.view.Goals as goal

pub invariant_of-self : goal.invariant_of-self
invariant_of-self c =
    let same : c.args.view.value.members ≡ c.self.inside.view.value.members = c.requires ∙ sym (ap (λ (s : ShardOf). s.members) c.self.view_is) in
    let marks_are : c.mark_flagged.new.pending ≡ moved_marks c.self.inside.ribs c.self.inside.pending c.self.inside.view.value c.args.view.value =
    c.mark_flagged.ensures ∙ flagged_marks c.self.inside.ribs c.self.inside.pending c.deref.result.now c.deref-2.result.now c.moved_slots-moved.result c.moved_slots-moved.ensures
    ∙ (λ i. moved_marks c.self.inside.ribs c.self.inside.pending (c.deref.ensures i) (c.deref-2.ensures i)) in
    let classes_are = whole c.find_classes.new.classes c.self.inside.classes.items c.self.inside.classes.len (c.find_classes.auto.classes ∙ c.deref_mut.ensures.len) in (
      joined_to c.self.inside.number c.self.inside.shards c.args.view.value _ _ _ c.self.inside.connected c.self.inside.ribs c.mark_flagged.new.pending refl refl marks_are
          (joined_moved c.self.inside.number c.self.inside.shards c.self.inside.view.value c.self.inside.connected c.self.inside.ribs c.self.inside.pending c.self.invariant.0 c.args.view.value same),
      places_moved c.self.inside.number c.self.inside.shards c.self.inside.view.value c.self.inside.connected c.self.inside.ribs c.self.inside.pending c.self.invariant.0 c.args.view.value same c.self.inside.classes.items _ _ _ _ _
          (subst (AreClasses c.args.view.value) (sym classes_are) (subst (λ (v : ViewOf). AreClasses v c.find_classes.new.classes) c.deref-3.ensures c.find_classes.ensures))
          c.self.invariant.1,
    )

pub returns : goal.returns
returns c =
    let same : c.args.view.value.members ≡ c.self.inside.view.value.members = c.requires ∙ sym (ap (λ (s : ShardOf). s.members) c.self.view_is) in
    let marks_are : c.mark_flagged.new.pending ≡ moved_marks c.self.inside.ribs c.self.inside.pending c.self.inside.view.value c.args.view.value =
    c.mark_flagged.ensures ∙ flagged_marks c.self.inside.ribs c.self.inside.pending c.deref.result.now c.deref-2.result.now c.moved_slots-moved.result c.moved_slots-moved.ensures
    ∙ (λ i. moved_marks c.self.inside.ribs c.self.inside.pending (c.deref.ensures i) (c.deref-2.ensures i)) in
    (λ i. shard_in c.self.inside.number c.self.inside.shards (same_view c.self.inside.view.value c.args.view.value same i) c.self.inside.connected c.self.inside.ribs (marks_are i))
    ∙ view_acts c.self.inside.number c.self.inside.shards c.self.inside.view.value c.self.inside.connected c.self.inside.ribs c.self.inside.pending c.args.view.value.edges
    ∙ ap (acted (Links c.args.view.value.edges)) c.self.view_is
