use Rattle.feed_laws.proofs.RosterTextLemmas.{text-read}
use Rattle.feed_laws.proofs.rosters.canonical_text_is_read_as_its_roster.Goals as goal

pub returns : goal.returns
returns c = text-read
