use Rattle.std.proofs.Common.{◌≡◌, ℕ, length, sym, ap, subst, ◌∙◌, rules}
use Rattle.std.specs.FinSet as set_of
use Rattle.std.proofs.lemmas.List.{length-replicate}
use Rattle.cost_rows.specs.Views.{ViewOf}
use Rattle.cost_rows.proofs.SearchLemmas.{whole}
use Rattle.adj_ribs.specs.Bases.{no_bases}
use Rattle.rcs_shard.specs.Slots.{SlotsOf}
use Rattle.rcs_shard.specs.Settling.{AreClasses}
use Rattle.rcs_shard.proofs.ShardLemmas.{joined_first}
use Rattle.rcs_shard.proofs.shard.Shard.new.Goals as goal

pub invariant_of-result : goal.invariant_of-result
invariant_of-result c =
    let members_are : c.len-members.result ≡ length c.args.view.value.members = c.len-members.ensures.len ∙ ap length (sym c.requires.members) in
    let count_is : c.from-count.result ≡ length c.args.view.value.members = c.from-count.ensures ∙ members_are in
    let classes_are = whole c.find_classes.new.classes c.in_ok-classes.classes.items c.in_ok-classes.classes.len (c.find_classes.auto.classes ∙ c.deref_mut.ensures.len) in
    let slots_of : ℕ → SlotsOf = λ n. record { members = n; inside = set_of.empty } in (
      joined_first c.args.number c.shards.result c.args.view.value c.in_ok-new.field-0 c.in_ok-new-2.field-0 c.new-3.result
          c.shards.ensures.within.least (c.in_ok-new.ensures ∙ ap slots_of members_are) (c.in_ok-new-2.ensures ∙ ap no_bases members_are) c.new-3.ensures,
      record {
        classes_are = subst (AreClasses c.args.view.value) (sym classes_are)
            (subst (λ (v : ViewOf). AreClasses v c.find_classes.new.classes) c.deref.ensures c.find_classes.ensures);
        list_is = (let len = c.in_ok-vec.ensures.len in search rules);
        from_is = (let len = c.in_ok-vec-2.ensures.len in search rules);
        marks_is = ap length c.in_ok-new-3.ensures ∙ length-replicate _ _ ∙ members_are;
        tied_is = (let len = c.in_ok-vec-3.ensures.len in search rules);
      },
    )
