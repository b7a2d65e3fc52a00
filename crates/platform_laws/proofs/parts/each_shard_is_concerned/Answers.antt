use Rattle.std.proofs.Common.{refl}
use Rattle.rcp_model.specs.ServerRibs.{Up, Down, Links}
use Rattle.platform_laws.proofs.PartEvents.{on-each}
use Rattle.platform_laws.proofs.parts.each_shard_is_concerned.Goals as goal

pub returns : goal.returns
returns c = record {
  up = λ roster slot shards. on-each roster (Up slot) (λ owns. refl) 0 shards;
  down = λ roster slot shards. on-each roster (Down slot) (λ owns. refl) 0 shards;
  links = λ roster edges shards. on-each roster (Links edges) (λ owns. refl) 0 shards;
}
