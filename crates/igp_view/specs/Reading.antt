-- The router LSAs of a Link State Update, as they are read one after another, and what they do with a database.
use Rattle.std.specs.Prelude.{◌≡◌, ℕ, ◌+◌, List, [], ◌∷◌, ◌++◌, length, map, filter, if◌then◌else◌}
use Rattle.rcp_model.specs.LinkState.{LinkState}
use Rattle.rcp_model.specs.LinkStateUpdates.{ReadLsa, is_router_lsa, own_fault, faultless_lsas, left_out, installed_all}
use Rattle.rcp_model.specs.RouterLsas.{lsa_at}
use Rattle.rcp_model.specs.LsaWalk.{Walked, lsas_in}
use Rattle.lsdb.specs.Databases.{Database, Holds}
use Rattle.igp_view.specs.declared.igp.IgpGot.{IgpGot}

-- the router LSAs among those of a walk, read; then the fault of one that is too short
abbrev pub read_of : Walked → List ReadLsa
read_of walked = map lsa_at (filter is_router_lsa walked.lsas) ++ own_fault walked.short

abbrev pub lsas_of_update : List ℕ → List ReadLsa
lsas_of_update packet = read_of (lsas_in packet)

-- one LSA, read if it is a router LSA
abbrev pub read_one : List ℕ → List ReadLsa
read_one octets = if is_router_lsa octets then lsa_at octets ∷ [] else []

-- the faultless ones are installed at the database's time
pub record Installs (read : List ReadLsa) (old new : Database) : Type 0 where
  pub state : (state : LinkState) → Holds old.state state → Holds new.state (installed_all old.moment (faultless_lsas read) state)
  pub moment : new.moment ≡ old.moment

-- each is counted
pub record Counts (read : List ReadLsa) (old new : IgpGot) : Type 0 where
  pub installed : new.installed ≡ old.installed + length (faultless_lsas read)
  pub left_out : new.left_out ≡ old.left_out + length (left_out read)
  pub lost : new.lost ≡ old.lost
