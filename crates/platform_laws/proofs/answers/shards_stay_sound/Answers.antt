use Rattle.platform_laws.proofs.SoundShards.{sound-new, sound-after}
use Rattle.platform_laws.proofs.answers.shards_stay_sound.Goals as goal

pub returns : goal.returns
returns c = record { first = sound-new; later = λ roster edges connected event shards good h. sound-after roster edges connected event shards good h }
