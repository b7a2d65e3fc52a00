use Rattle.std.proofs.Common.{ltb, ◌&&◌, length, refl, ap, subst, ◌∙◌}
use Rattle.rcp_model.specs.ServerRibs.{Work}
use Rattle.cost_rows.specs.Views.{ViewOf}
use Rattle.cost_rows.proofs.SearchLemmas.{whole}
use Rattle.rcs_shard.specs.Slots.{has_slot}
use Rattle.rcs_shard.specs.Settling.{offers_at, Settles}
use Rattle.rcs_shard.specs.Shards.{acted}
use Rattle.rcs_shard.specs.Joins.{shard_in}
use Rattle.rcs_shard.proofs.ShardLemmas.{work_acts, joined_work, joined_to}
use Rattle.rcs_shard.proofs.shard.Shard.work.Goals as goal
use Rattle.rcs_shard.proofs.shard.Shard.work.Goals.{After-settle}

-- what was settled, by the shard's own view
settled : (c : After-settle) → Settles c.in_ok-p.p (offers_at c.self.inside.ribs c.self.inside.view.value c.in_ok-p.p)
    (λ s. ltb s (length c.self.inside.view.value.members) && has_slot c.self.inside.connected s) c.self.inside.ribs c.settle.new.ribs
settled c =
    subst (λ (v : ViewOf). Settles c.in_ok-p.p (offers_at c.self.inside.ribs v c.in_ok-p.p) (λ s. ltb s (length v.members) && has_slot c.self.inside.connected s) c.self.inside.ribs c.settle.new.ribs)
    c.deref.ensures c.settle.ensures.settled

pub invariant_of-self-2 : goal.invariant_of-self-2
invariant_of-self-2 c =
    let at = (goal.at.invariant_of-self-2 c).After-settle in (
      joined_to c.self.inside.number c.self.inside.shards c.self.inside.view.value _ _ _ c.self.inside.connected c.settle.new.ribs c.take_least.new.self refl refl c.in_ok-p.ensures.taken
          (joined_work c.self.inside.number c.self.inside.shards c.self.inside.view.value c.self.inside.connected c.self.inside.ribs c.settle.new.ribs c.self.inside.pending
          c.self.invariant.0 c.in_ok-p.p (settled at)),
      record {
        classes_are = c.self.invariant.1.classes_are;
        list_is = ap length (whole c.settle.new.list c.self.inside.list.items c.self.inside.list.len (c.settle.auto.list ∙ c.deref_mut.ensures.len))
            ∙ c.settle.auto.list ∙ ap length c.deref_mut.ensures.value ∙ c.self.invariant.1.list_is;
        from_is = ap length (whole c.settle.new.from c.self.inside.from.items c.self.inside.from.len (c.settle.auto.from ∙ c.deref_mut-2.ensures.len))
            ∙ c.settle.auto.from ∙ ap length c.deref_mut-2.ensures.value ∙ c.self.invariant.1.from_is;
        marks_is = c.settle.ensures.marks ∙ c.self.invariant.1.marks_is;
        tied_is = ap length (whole c.settle.new.slots c.self.inside.tied.items c.self.inside.tied.len (c.settle.auto.slots ∙ c.deref_mut-3.ensures.len))
            ∙ c.settle.auto.slots ∙ ap length c.deref_mut-3.ensures.value ∙ c.self.invariant.1.tied_is;
      },
    )

pub returns-clause-after : goal.returns-clause-after
returns-clause-after c =
    (λ i. shard_in c.self.inside.number c.self.inside.shards c.self.inside.view.value c.self.inside.connected c.settle.new.ribs (c.in_ok-p.ensures.taken i))
    ∙ work_acts c.self.inside.number c.self.inside.shards c.self.inside.view.value c.self.inside.connected c.self.inside.ribs c.settle.new.ribs c.self.inside.pending
    c.self.invariant.0 c.in_ok-p.p (settled (goal.at.returns-clause-after c).After-settle)
    ∙ ap (acted (Work c.in_ok-p.p)) c.self.view_is
