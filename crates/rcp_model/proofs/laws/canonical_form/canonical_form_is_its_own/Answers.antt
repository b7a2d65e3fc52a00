use Rattle.rcp_model.specs.Attributes.{attributes_in}
use Rattle.rcp_model.proofs.AttributeLemmas.{IsShort-attributes_in}
use Rattle.rcp_model.proofs.CanonicalLemmas.{canonical-canonical}
use Rattle.rcp_model.proofs.laws.canonical_form.canonical_form_is_its_own.Goals as goal

pub returns : goal.returns
returns c = λ octets all. canonical-canonical (attributes_in octets) (IsShort-attributes_in octets all)
