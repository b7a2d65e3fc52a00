use Rattle.std.proofs.Common.{Some, refl, sym, ap, ◌∙◌}
use Rattle.std.specs.FinMap as map_of
use Rattle.std.specs.FinSet as set_of
use Rattle.std.proofs.lemmas.Bool.{not-true, not-false, both_ways}
use Rattle.rcp_model.specs.ServerRibs.{Change}
use Rattle.pending_marks.specs.Marks.{MarksOf}
use Rattle.pending_marks.specs.Marks as marks
use Rattle.rcs_shard.specs.Shards.{ShardOf, acted, is_connected, announced_at}
use Rattle.rcs_shard.specs.Joins.{shard_in}
use Rattle.rcs_shard.proofs.ShardLemmas.{change_acts, same_acts, joined_to, joined_open, joined_announced, joined_announced_marked, opened_now, member_in, values_same, values_differ}
use Rattle.rcs_shard.proofs.shard.Shard.announce.Goals as goal

pub invariant_of-self-in_err-changed : goal.invariant_of-self-in_err-changed
invariant_of-self-in_err-changed c = (
  joined_to c.self.inside.number c.self.inside.shards c.self.inside.view.value _ _ _ c.self.inside.connected c.announce.new.self c.open.new.self
      refl c.in_err-changed.ensures.err c.in_ok-open.ensures.ok
      (joined_open c.self.inside.number c.self.inside.shards c.self.inside.view.value c.self.inside.connected c.self.inside.ribs c.self.inside.pending c.self.invariant.0 c.args.p),
  c.self.invariant.1,
)

pub mark-requires : goal.mark-requires
mark-requires c = ap (λ (m : MarksOf). marks.is_opened m c.args.p) c.in_ok-open.ensures.ok ∙ opened_now c.self.inside.pending c.args.p

pub invariant_of-self-then-changed : goal.invariant_of-self-then-changed
invariant_of-self-then-changed c = (
  joined_to c.self.inside.number c.self.inside.shards c.self.inside.view.value _ _ _ c.self.inside.connected c.announce.new.self c.mark.new.self
      refl c.in_ok-changed.ensures.after (c.mark.ensures ∙ ap (λ (m : MarksOf). record m { marked = set_of.insert m.marked c.args.p }) c.in_ok-open.ensures.ok)
      (joined_announced_marked c.self.inside.number c.self.inside.shards c.self.inside.view.value c.self.inside.connected c.self.inside.ribs c.self.inside.pending c.self.invariant.0 c.args.slot c.args.p (Some c.args.route) (map_of.get c.announce.new.self.numbers (c.args.p, c.args.slot))
      (member_in c.self.inside.number c.self.inside.shards c.self.inside.view.value c.self.inside.connected c.self.inside.ribs c.self.inside.pending c.args.self.now c.args.slot c.self.view_is c.requires.member)),
  c.self.invariant.1,
)

pub invariant_of-self-else-changed : goal.invariant_of-self-else-changed
invariant_of-self-else-changed c = (
  joined_to c.self.inside.number c.self.inside.shards c.self.inside.view.value _ _ _ c.self.inside.connected c.announce.new.self c.open.new.self
      refl c.in_ok-changed.ensures.after c.in_ok-open.ensures.ok
      (joined_announced c.self.inside.number c.self.inside.shards c.self.inside.view.value c.self.inside.connected c.self.inside.ribs c.self.inside.pending c.self.invariant.0 c.args.slot c.args.p (Some c.args.route) (map_of.get c.announce.new.self.numbers (c.args.p, c.args.slot))
      (member_in c.self.inside.number c.self.inside.shards c.self.inside.view.value c.self.inside.connected c.self.inside.ribs c.self.inside.pending c.args.self.now c.args.slot c.self.view_is c.requires.member)),
  c.self.invariant.1,
)

pub returns-then-changed-clause-changed : goal.returns-then-changed-clause-changed
returns-then-changed-clause-changed c =
    let differs = not-true _ (sym c.in_ok-changed.ensures.changed ∙ c.if-changed.true) in (
      (λ _ same. values_differ _ _ differs (ap (λ (s : ShardOf). announced_at s c.args.slot c.args.p) c.self.view_is ∙ same)),
      (λ _. c.if-changed.true),
    )

pub returns-then-changed-clause-after : goal.returns-then-changed-clause-after
returns-then-changed-clause-after c =
    (λ i. shard_in c.self.inside.number c.self.inside.shards c.self.inside.view.value c.self.inside.connected (c.in_ok-changed.ensures.after i)
    ((c.mark.ensures ∙ ap (λ (m : MarksOf). record m { marked = set_of.insert m.marked c.args.p }) c.in_ok-open.ensures.ok) i))
    ∙ change_acts c.self.inside.number c.self.inside.shards c.self.inside.view.value c.self.inside.connected c.self.inside.ribs c.self.inside.pending c.args.slot c.args.p (Some c.args.route) (map_of.get c.announce.new.self.numbers (c.args.p, c.args.slot)) (set_of.insert c.self.inside.pending.opened c.args.p)
    (ap (λ (s : ShardOf). is_connected s c.args.slot) c.self.view_is ∙ c.requires.up) (not-true _ (sym c.in_ok-changed.ensures.changed ∙ c.if-changed.true))
    ∙ ap (acted (Change c.args.slot c.args.p (Some c.args.route))) c.self.view_is

pub returns-else-changed-clause-changed : goal.returns-else-changed-clause-changed
returns-else-changed-clause-changed c =
    let same = not-false _ (sym c.in_ok-changed.ensures.changed ∙ c.if-changed.false) in (
      (λ on. absurd (both_ways _ c.if-changed.false on)),
      (λ differs. absurd (differs (ap (λ (s : ShardOf). announced_at s c.args.slot c.args.p) (sym c.self.view_is) ∙ values_same _ _ same))),
    )

pub returns-else-changed-clause-after : goal.returns-else-changed-clause-after
returns-else-changed-clause-after c =
    (λ i. shard_in c.self.inside.number c.self.inside.shards c.self.inside.view.value c.self.inside.connected (c.in_ok-changed.ensures.after i) (c.in_ok-open.ensures.ok i))
    ∙ same_acts c.self.inside.number c.self.inside.shards c.self.inside.view.value c.self.inside.connected c.self.inside.ribs c.self.inside.pending c.args.slot c.args.p (Some c.args.route) (map_of.get c.announce.new.self.numbers (c.args.p, c.args.slot)) (set_of.insert c.self.inside.pending.opened c.args.p)
    (not-false _ (sym c.in_ok-changed.ensures.changed ∙ c.if-changed.false))
    ∙ ap (acted (Change c.args.slot c.args.p (Some c.args.route))) c.self.view_is
