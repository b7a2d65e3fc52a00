use Rattle.std.proofs.Common.{◌∙◌, ap, sym}
use Rattle.rcp_model.specs.declared.lsa_fault.LsaFault.TheVariants.{Short}
use Rattle.rcp_model.specs.LsaWalk.{lsa_len, lsa_count}
use Rattle.lsa_reader.proofs.Walks.{done_at_count, IsStep-lsa, IsStep-short, IsOnWalk-next}
use Rattle.lsa_reader.proofs.walking.next_lsa.Goals as goal

pub returns-then-is_done-clause-step : goal.returns-then-is_done-clause-step
returns-then-is_done-clause-step c = λ n less e.
    done_at_count n (lsa_count c.args.packet.now) c.args.packet.now c.args.place less e (c.is_done.ensures.done.0 c.if-is_done.true)

pub returns-in-Some-clause-step : goal.returns-in-Some-clause-step
returns-in-Some-clause-step c = λ n less e.
    IsStep-lsa n c.args.packet.now c.args.place c.in-Some.len 0 less e (λ f. let t = c.is_done.ensures.done.1 f in cc)
    (ap lsa_len (sym c.split_at.ensures.back) ∙ sym c.lsa_len.ensures.value ∙ c.in-Some.is)

pub returns-in-Some-clause-goes_on : goal.returns-in-Some-clause-goes_on
returns-in-Some-clause-goes_on c =
    IsOnWalk-next c.args.packet.now c.args.place _ c.requires.on_walk (λ f. let t = c.is_done.ensures.done.1 f in cc)
    (ap lsa_len (sym c.split_at.ensures.back) ∙ sym c.lsa_len.ensures.value ∙ c.in-Some.is)

pub returns-in-None-clause-step : goal.returns-in-None-clause-step
returns-in-None-clause-step c = λ n less e.
    IsStep-short n c.args.packet.now c.args.place Short less e (λ f. let t = c.is_done.ensures.done.1 f in cc)
    (ap lsa_len (sym c.split_at.ensures.back) ∙ sym c.lsa_len.ensures.value ∙ c.in-None.is)
