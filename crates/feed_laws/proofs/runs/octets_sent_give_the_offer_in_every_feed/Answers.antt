use Rattle.feed_laws.proofs.FeedLemmas.{every_feed}
use Rattle.feed_laws.proofs.runs.octets_sent_give_the_offer_in_every_feed.Goals as goal

pub returns : goal.returns
returns c = every_feed
