use Rattle.rcp_base.proofs.TextLemmas.{number_of-decimal}
use Rattle.rcp_base.proofs.AddressLemmas.{address_of-text}
use Rattle.rcp_base.proofs.PrefixTextLemmas.{prefix_of_text-text}
use Rattle.rcp_base.proofs.text.texts_are_read_again.Goals as goal

pub returns-clause-number : goal.returns-clause-number
returns-clause-number c = number_of-decimal

pub returns-clause-address : goal.returns-clause-address
returns-clause-address c = address_of-text

pub returns-clause-prefix : goal.returns-clause-prefix
returns-clause-prefix c = prefix_of_text-text
