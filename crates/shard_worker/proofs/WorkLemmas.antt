-- Work on the least pending prefixes, one after another.
use Rattle.std.proofs.Common.{◌≡◌, ℕ, zero, suc, List, [], ◌∷◌, take, Some, None, refl, sym, ap, ◌∙◌}
use Rattle.std.specs.FinSet as set_of
use Rattle.rcp_base.specs.IpPrefix.{IpPrefix}
use Rattle.rcp_model.specs.ServerRibs.{Work, ribs_after}
use Rattle.platform_laws.specs.Asked.{rising_of}
use Rattle.platform_laws.proofs.PendingLists.{least-first, none-least}
use Rattle.rcs_shard.specs.Shards.{ShardOf, acted, IsLeastPending}
use Rattle.shard_worker.specs.Runs.{after_work, pending_of}

module _ (shard : ShardOf) where
  rest_of : (p : IpPrefix) → pending_of (acted (Work p) shard) ≡ rising_of (set_of.remove shard.ribs.pending p)
  unfolding ribs_after
  rest_of p = refl

  -- the least pending prefix is the first one, and the others wait after its work
  pub pending_first : (p : IpPrefix) → IsLeastPending shard (Some p) → pending_of shard ≡ p ∷ pending_of (acted (Work p) shard)
  pending_first p least = least-first shard.ribs.pending p least ∙ ap (λ ps. p ∷ ps) (sym (rest_of p))

  pub none_pending : IsLeastPending shard None → pending_of shard ≡ []
  none_pending none = none-least shard.ribs.pending none

  after_first : (p : IpPrefix) (ps : List IpPrefix) → after_work (p ∷ ps) shard ≡ after_work ps (acted (Work p) shard)
  unfolding after_work
  after_first p ps = refl

  after_none : after_work [] shard ≡ shard
  unfolding after_work
  after_none = refl

  pub work_step : (count : ℕ) (p : IpPrefix) → IsLeastPending shard (Some p)
      → after_work (take count (pending_of (acted (Work p) shard))) (acted (Work p) shard) ≡ after_work (take (suc count) (pending_of shard)) shard
  work_step count p least =
      sym (ap (λ ps. after_work (take (suc count) ps) shard) (pending_first p least) ∙ after_first p (take count (pending_of (acted (Work p) shard))))

  take_none : (count : ℕ) (ps : List IpPrefix) → ps ≡ [] → take count ps ≡ []
  take_none zero ps none = refl
  take_none (suc count) ps none = ap (take (suc count)) none

  pub work_done : (count : ℕ) → IsLeastPending shard None → after_work (take count (pending_of shard)) shard ≡ shard
  work_done count none = ap (λ ps. after_work ps shard) (take_none count (pending_of shard) (none_pending none)) ∙ after_none

  pub no_work : after_work (take 0 (pending_of shard)) shard ≡ shard
  no_work = after_none
