use Rattle.feed_words.proofs.TextLemmas.{texts_join}
use Rattle.feed_words.proofs.laws.texts_join.Goals as goal

pub returns : goal.returns
returns c = texts_join
