use Rattle.std.proofs.Common.{◌≡◌, length, refl, sym, ap, subst, ◌∙◌, rules}
use Rattle.rcp_model.specs.ServerRibs.{Links}
use Rattle.rcs_shard.specs.Following.{AreMoved}
use Rattle.rcs_shard.specs.Settling.{AreClasses}
use Rattle.rcs_shard.specs.Shards.{ShardOf, acted}
use Rattle.rcs_shard.specs.Joins.{shard_in}
use Rattle.rcs_shard.proofs.ShardLemmas.{view_acts, moved_marks, flagged_marks, same_view, joined_to, joined_moved, places_moved}
use Rattle.rcs_shard.proofs.shard.Shard.follow.Goals as goal

pub copy_from_slice-requires : goal.copy_from_slice-requires
copy_from_slice-requires c =
    let same : c.args.view.value.members ≡ c.self.inside.view.value.members = c.requires.members ∙ sym (ap (λ (s : ShardOf). s.members) c.self.view_is) in
    let count : length c.self.inside.classes.items ≡ c.self.inside.classes.len = search rules in
    sym count ∙ c.self.invariant.1.classes_are.each_member ∙ sym (ap length same) ∙ sym c.requires.classes.each_member

pub invariant_of-self : goal.invariant_of-self
invariant_of-self c =
    let same : c.args.view.value.members ≡ c.self.inside.view.value.members = c.requires.members ∙ sym (ap (λ (s : ShardOf). s.members) c.self.view_is) in
    let moved = subst (λ (s : ShardOf). AreMoved s.ribs.edges c.args.view.value.edges s.members c.args.moved.now) (sym c.self.view_is) c.requires.moved in
    let marks_are : c.mark_flagged.new.pending ≡ moved_marks c.self.inside.ribs c.self.inside.pending c.self.inside.view.value c.args.view.value =
    c.mark_flagged.ensures ∙ flagged_marks c.self.inside.ribs c.self.inside.pending c.self.inside.view.value c.args.view.value c.args.moved.now moved in (
      joined_to c.self.inside.number c.self.inside.shards c.args.view.value _ _ _ c.self.inside.connected c.self.inside.ribs c.mark_flagged.new.pending refl refl marks_are
          (joined_moved c.self.inside.number c.self.inside.shards c.self.inside.view.value c.self.inside.connected c.self.inside.ribs c.self.inside.pending c.self.invariant.0 c.args.view.value same),
      places_moved c.self.inside.number c.self.inside.shards c.self.inside.view.value c.self.inside.connected c.self.inside.ribs c.self.inside.pending c.self.invariant.0 c.args.view.value same c.self.inside.classes.items _ _ _ _ _
          (subst (AreClasses c.args.view.value) (sym c.copy_from_slice.ensures.items) c.requires.classes)
          c.self.invariant.1,
    )

pub returns : goal.returns
returns c =
    let same : c.args.view.value.members ≡ c.self.inside.view.value.members = c.requires.members ∙ sym (ap (λ (s : ShardOf). s.members) c.self.view_is) in
    let moved = subst (λ (s : ShardOf). AreMoved s.ribs.edges c.args.view.value.edges s.members c.args.moved.now) (sym c.self.view_is) c.requires.moved in
    let marks_are : c.mark_flagged.new.pending ≡ moved_marks c.self.inside.ribs c.self.inside.pending c.self.inside.view.value c.args.view.value =
    c.mark_flagged.ensures ∙ flagged_marks c.self.inside.ribs c.self.inside.pending c.self.inside.view.value c.args.view.value c.args.moved.now moved in
    (λ i. shard_in c.self.inside.number c.self.inside.shards (same_view c.self.inside.view.value c.args.view.value same i) c.self.inside.connected c.self.inside.ribs (marks_are i))
    ∙ view_acts c.self.inside.number c.self.inside.shards c.self.inside.view.value c.self.inside.connected c.self.inside.ribs c.self.inside.pending c.args.view.value.edges
    ∙ ap (acted (Links c.args.view.value.edges)) c.self.view_is
