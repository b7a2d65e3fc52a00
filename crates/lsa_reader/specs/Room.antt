-- Where reading a router LSA takes memory: at its links.
use Rattle.std.specs.Prelude.{◌≢◌, ℕ, ◌<◌, List, drop, IsSome, Err}
use Rattle.rcp_model.specs.declared.lsa_fault.LsaFault.TheVariants.{Short, Checksum}
use Rattle.rcp_model.specs.RouterLsas.{before_links, link_count, link_at, lsa_at}

-- so many links, the first of which is whole
pub record HasLink (count : ℕ) (octets : List ℕ) : Type 0 where
  pub counted : 0 < count
  pub whole : IsSome (link_at octets)

-- the octets are long enough, their checksum fits, and there is a link to keep
pub record TakesRoom (octets : List ℕ) : Type 0 where
  pub long : lsa_at octets ≢ Err Short
  pub summed : lsa_at octets ≢ Err Checksum
  pub link : HasLink (link_count octets) (drop before_links octets)
