-- The walk doesn't come to a place twice, and doesn't stop before one that it comes to.
use Rattle.std.proofs.Common.{◌∙◌, ap, sym}
use Rattle.rcp_model.specs.LsaWalk.{lsa_len}
use Rattle.lsa_reader.specs.Walking.{place_after}
use Rattle.lsa_reader.proofs.Walks.{not_again, not_stuck}
use Rattle.lsa_reader.proofs.walking.is_done.Goals as goal

pub returns-then-at-place-clause-done : goal.returns-then-at-place-clause-done
returns-then-at-place-clause-done c = (
  λ h. cc,
  λ e. absurd (not_again c.loop-ended._ended c.u32_at-ended-end.result c.args.packet.now _ _ c.loop-ended.invariant.0 c.if-at-place.true c.loop-ended-test.true
      (ap (λ n. place_after n c.args.packet.now) c.u32_at-ended-end.ensures ∙ e)),
)

pub returns-in_default-clause-done : goal.returns-in_default-clause-done
returns-in_default-clause-done c =
    absurd (not_stuck c.loop-ended._ended c.requires.on_walk.0 c.args.packet.now _ _ c.loop-ended.invariant.0 c.requires.on_walk.2
    (c.loop-ended.invariant.1 c.requires.on_walk.0 c.requires.on_walk.2) c.if-at-place.false
    (ap lsa_len (sym c.split_at.ensures.back) ∙ sym c.lsa_len.ensures.value ∙ c.in_default.is))

pub returns-in_default-clause-within : goal.returns-in_default-clause-within
returns-in_default-clause-within c =
    absurd (not_stuck c.loop-ended._ended c.requires.on_walk.0 c.args.packet.now _ _ c.loop-ended.invariant.0 c.requires.on_walk.2
    (c.loop-ended.invariant.1 c.requires.on_walk.0 c.requires.on_walk.2) c.if-at-place.false
    (ap lsa_len (sym c.split_at.ensures.back) ∙ sym c.lsa_len.ensures.value ∙ c.in_default.is))
