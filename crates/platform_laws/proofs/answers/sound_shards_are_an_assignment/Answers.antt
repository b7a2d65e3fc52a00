use Rattle.platform_laws.proofs.AnswerLemmas.{assignment, connected-sound, fields-sound}
use Rattle.platform_laws.proofs.answers.sound_shards_are_an_assignment.Goals as goal

pub returns : goal.returns
returns c = record { law = assignment; connected = connected-sound; fields = fields-sound }
