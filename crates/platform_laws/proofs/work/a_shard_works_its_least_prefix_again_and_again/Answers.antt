use Rattle.platform_laws.proofs.ShardWork.{all-again, all-done, least-again, least-done, none-asked}
use Rattle.platform_laws.proofs.work.a_shard_works_its_least_prefix_again_and_again.Goals as goal

pub returns : goal.returns
returns c = record { all = all-again; all_none = all-done; some = least-again; some_none = least-done; zero = none-asked }
