use Rattle.std.proofs.Common.{◌∙◌, sym, ap, refl}
use Rattle.rcp_model.specs.Updates.{prefixes_fault}
use Rattle.bgp_msg.proofs.Prefixes.{prefixes_in-front}
use Rattle.bgp_msg.proofs.Walks.{malformed}
use Rattle.bgp_msg.proofs.update.check_prefixes.Goals as goal

pub loop-rest-preserved : goal.loop-rest-preserved
loop-rest-preserved c =
    ap prefixes_fault c.split_at.ensures.back
    ∙ sym (prefixes_in-front c.loop-rest.rest.now _ _ (sym c.in-Some.ensures.value)).1
    ∙ c.loop-rest.invariant

pub returns-in-None : goal.returns-in-None
returns-in-None c = (
  sym c.loop-rest.invariant ∙ malformed c.loop-rest.rest.now (sym c.is_empty.ensures ∙ c.loop-rest-test.true) c.in-None.ensures.value,
  refl,
)
