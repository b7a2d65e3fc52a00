use Rattle.feed_meaning.proofs.HeadlineLemmas.{headline}
use Rattle.feed_meaning.proofs.offers.octets_sent_give_the_offer.Goals as goal

pub returns : goal.returns
returns c = headline
