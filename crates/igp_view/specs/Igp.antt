-- What contracts see of a view of the interior network.
use Rattle.std.specs.Prelude.{◌≡◌, ℕ, ◌+◌, ◌-◌, ◌^◌, ◌≤◌, Bool, List, length, min, All}
use Rattle.rcp_base.specs.declared.names.Member.{Member}
use Rattle.rcp_base.specs.declared.names.Edge.{Edge}
use Rattle.rcp_model.specs.LinkState.{LinkState}
use Rattle.rcp_model.specs.Edges.{edges_of}
use Rattle.rcp_model.specs.Graphs.{routers_in}
use Rattle.lsdb.specs.Databases.{Database, Holds}
use Rattle.lsdb.specs.Links.{IsCheap}
use Rattle.igp_view.specs.Streams.{Stream}

-- The area, the members and the links of the roster; the link state and the last time; the stream; the edges of the view, and how often they changed; whether it is spent.
pub record IgpOf : Type 0 where
  pub area : ℕ
  pub members : List Member
  pub links : List Edge
  pub database : Database
  pub stream : Stream
  pub edges : List Edge
  pub changes : ℕ
  pub spent : Bool

-- one more, up to the last value of 64 bits
abbrev pub one_more : ℕ → ℕ
one_more n = min (n + 1) (2 ^ 64 - 1)

-- what stays of it: the roster's part
pub record IsOfSameRoster (old new : IgpOf) : Type 0 where
  pub area : new.area ≡ old.area
  pub members : new.members ≡ old.members
  pub links : new.links ≡ old.links

-- the count rises by one where the edges change, and only there
pub record CountsChange (old new : IgpOf) : Type 0 where
  pub same : new.edges ≡ old.edges → new.changes ≡ old.changes
  pub other : (new.edges ≡ old.edges → ⊥) → new.changes ≡ one_more old.changes

-- the edges of each link state that a database holds, with those of the roster
abbrev pub AreEdgesOf : LinkState → List Edge → List Edge → Type 0
AreEdgesOf held links edges = (state : LinkState) → Holds held state → edges ≡ edges_of state links

-- the links of a roster are of at most 512 routers, and cost at most 65,535
pub record AreRosterLinks (links : List Edge) : Type 0 where
  pub few : length (routers_in links) ≤ 512
  pub cheap : All IsCheap links
