use Rattle.platform_laws.proofs.AnswerLemmas.{connected-asked, pending-asked, announced-asked, given-asked, offered-asked, shard-edges}
use Rattle.platform_laws.proofs.answers.shards_answer_for_the_platform.Goals as goal

pub returns : goal.returns
returns c = record { connected = connected-asked; pending = pending-asked; announced = announced-asked; given = given-asked; offered = offered-asked; edges = shard-edges }
