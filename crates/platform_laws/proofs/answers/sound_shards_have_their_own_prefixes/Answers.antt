use Rattle.platform_laws.proofs.AnswerLemmas.{own-prefixes, here}
use Rattle.platform_laws.proofs.answers.sound_shards_have_their_own_prefixes.Goals as goal

pub returns : goal.returns
returns c = record { own = own-prefixes; same = here }
