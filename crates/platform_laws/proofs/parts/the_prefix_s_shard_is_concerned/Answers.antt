use Rattle.std.proofs.Common.{refl, arith}
use Rattle.rcp_model.specs.ServerRibs.{Change, Work}
use Rattle.platform_laws.specs.Parts.{shard_number}
use Rattle.platform_laws.proofs.PartEvents.{on-one}
use Rattle.platform_laws.proofs.parts.the_prefix_s_shard_is_concerned.Goals as goal

pub returns : goal.returns
returns c = record {
  change = λ roster slot p route shards ribs is. on-one roster (Change slot p route) (shard_number roster p) (λ n. refl) (shard_number roster p) 0 shards ribs (omega arith) is;
  work = λ roster p shards ribs is. on-one roster (Work p) (shard_number roster p) (λ n. refl) (shard_number roster p) 0 shards ribs (omega arith) is;
}
