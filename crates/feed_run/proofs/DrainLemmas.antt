-- A D, whoever works the shards.
use Rattle.std.proofs.Common.{◌≡◌, ℕ, List, [], refl, sym, ap, subst, ◌∙◌, arith}
use Rattle.rcp_base.specs.Feed.{FeedRecord, OutRecord}
use Rattle.rcp_base.specs.Octets.{AreOctets}
use Rattle.rcp_base.specs.declared.kinds.Kind.TheVariants as kind
use Rattle.feed_meaning.specs.Platform.{Platform, Acted}
use Rattle.feed_meaning.specs.Runs.{act}
use Rattle.platform_laws.specs.Platforms.{PlatformOf, IsSeen}
use Rattle.platform_laws.proofs.RecordSteps.{seen-act, act-out}
use Rattle.platform_core.specs.States.{Steps, drain_record}

-- nothing of it but its kind matters
drain_act : (platform : Platform) (source : ℕ) (body : List ℕ) → act platform (record { kind = kind.Drain; source = source; body = body }) ≡ act platform drain_record
unfolding act
drain_act platform source body = refl

no_octets : AreOctets []
no_octets = λ k d past. absurd (omega (arith, past))

module _ (platform : Platform) (old new : PlatformOf) (item : FeedRecord) (outs : List OutRecord) (is : item.kind ≡ kind.Drain) (h : Steps old new drain_record outs)
    (seen : IsSeen platform old) where
  same_act : act platform item ≡ act platform drain_record
  same_act = ap (λ k. act platform (record { kind = k; source = item.source; body = item.body })) is ∙ drain_act platform item.source item.body

  pub drain-after : IsSeen (act platform item).after new
  drain-after = subst (λ (a : Acted). IsSeen a.after new) (sym same_act)
      (subst (λ (s : PlatformOf). IsSeen (act platform drain_record).after s) (sym h.after) (seen-act platform old drain_record h.state h.edges seen no_octets h.linked))

  pub drain-out : outs ≡ (act platform item).out
  drain-out = h.output ∙ sym (act-out platform old drain_record h.state h.edges seen no_octets h.linked) ∙ ap (λ (a : Acted). a.out) (sym same_act)
