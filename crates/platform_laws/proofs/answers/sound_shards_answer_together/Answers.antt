use Rattle.platform_laws.proofs.Counts.{pending-counted}
use Rattle.platform_laws.proofs.AnswerLemmas.{announced-somewhere, given-somewhere, pending-somewhere}
use Rattle.platform_laws.proofs.answers.sound_shards_answer_together.Goals as goal

pub returns : goal.returns
returns c = record {
  announced = announced-somewhere;
  given = given-somewhere;
  pending = λ roster edges connected shards h p. pending-somewhere roster edges connected shards h p 0;
  pending_count = λ platform seen h. pending-counted platform.roster platform.server seen.shards h.shards h.rising;
}
