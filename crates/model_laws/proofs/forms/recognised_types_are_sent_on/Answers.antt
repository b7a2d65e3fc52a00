use Rattle.model_laws.proofs.FormLemmas.{well_known_sent_on, preference_sent_on, preference_is_put_in, discriminator_sent_on, partial_sent_on}
use Rattle.model_laws.proofs.forms.recognised_types_are_sent_on.Goals as goal

pub returns : goal.returns
returns c = record {
  well_known = well_known_sent_on;
  preference = preference_sent_on;
  no_preference = preference_is_put_in;
  discriminator = discriminator_sent_on;
  partial = partial_sent_on;
}
