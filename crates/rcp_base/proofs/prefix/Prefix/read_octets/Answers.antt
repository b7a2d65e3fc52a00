use Rattle.rcp_base.proofs.PrefixLemmas.{read_front}
use Rattle.rcp_base.proofs.prefix.Prefix.read_octets.Goals as goal

pub returns-clause-value : goal.returns-clause-value
returns-clause-value c =
    read_front _ _ _ _ _ _ c.in_ok-len.ensures.cases.0 c.if-len-gt32.false c.octets_for-count.ensures c.if-rest-count.false c.address_of.ensures c.in_ok-prefix.ensures
