-- What is offered to a slot, and what offers replay to.
use Rattle.std.specs.Prelude.{ℕ, ◌&&◌, ◌==◌, List, [], ◌∷◌, map, Option, None, if◌then◌else◌}
use Rattle.std.specs.FinSet as set_of
use Rattle.rcp_base.specs.IpPrefix.{IpPrefix}
use Rattle.rcp_base.specs.Maps.{same_prefix}
use Rattle.rcp_model.specs.Routes.{OfferFields}
use Rattle.rcp_model.specs.ServerRibs.{Prefixes}
use Rattle.platform_laws.specs.Asked.{octets_of, rising_of}
use Rattle.rcs_shard.specs.Shards.{ShardOf, given_at}

-- the prefixes at which the cell of a slot is dirty
abbrev pub dirty_prefixes : ShardOf → ℕ → Prefixes
dirty_prefixes shard slot = set_of.from_list (map (λ key. key.0) (set_of.items (set_of.retain shard.dirty (λ key. key.1 == slot))))

-- the same, rising
abbrev pub dirty_of : ShardOf → ℕ → List IpPrefix
dirty_of shard slot = rising_of (dirty_prefixes shard slot)

-- what a slot is offered at a prefix: the octets of its route's attributes, or none where it is given no route
abbrev pub offer_at : ShardOf → ℕ → ℕ → IpPrefix → OfferFields
offer_at shard generation slot p = record { generation = generation; prefix = p; attrs = octets_of (given_at shard slot p) }

-- What the offers of a generation come to at a prefix: each sets the table there to its octets, or to none.
abbrev pub replayed_from : Option (List ℕ) → ℕ → IpPrefix → List OfferFields → Option (List ℕ)
replayed_from last generation p [] = last
replayed_from last generation p (o ∷ offers) =
    replayed_from (if o.generation == generation && same_prefix o.prefix p then o.attrs else last) generation p offers

abbrev pub replayed : ℕ → IpPrefix → List OfferFields → Option (List ℕ)
replayed generation p offers = replayed_from None generation p offers
