use Rattle.std.proofs.Common.{length, sym, ap, subst, ◌∙◌, arith}
use Rattle.cost_rows.proofs.SearchLemmas.{whole}
use Rattle.rcs_shard.specs.Settling.{AreClasses}
use Rattle.rcs_shards.proofs.events.classes_of.Goals as goal

pub find_classes-requires : goal.find_classes-requires
find_classes-requires c = omega (arith, c.deref_mut.ensures.len, c.in_ok-classes.ensures.len, ap length c.members.ensures.members)

pub returns : goal.returns
returns c =
    subst (AreClasses c.args.view.now) (sym (whole c.find_classes.new.classes c.in_ok-classes.classes.items c.in_ok-classes.classes.len (c.find_classes.auto.classes ∙ c.deref_mut.ensures.len))) c.find_classes.ensures
