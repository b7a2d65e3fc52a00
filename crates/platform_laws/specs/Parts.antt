-- The server of a platform in parts, one for each shard: how they are read from it, and what an event does to them.
use Rattle.std.specs.Prelude.{◌≡◌, ℕ, suc, ◌≤◌, List, [], ◌∷◌, length, false, None, IfSome, if◌then◌else◌}
use Rattle.std.specs.List.{AllByRecursion}
use Rattle.std.specs.FinSet as set_of
use Rattle.std.specs.Ordering.{nat_cmp}
use Rattle.rcp_base.specs.declared.names.Edge.{Edge}
use Rattle.rcp_base.specs.IpPrefix.{IpPrefix, shard_of_prefix}
use Rattle.rcp_base.specs.Roster.{RosterOf}
use Rattle.rcp_model.specs.Attributes.{number_width}
use Rattle.rcp_model.specs.Routes.{RouteFields, route_in}
use Rattle.rcp_model.specs.Telling.{IsRouteOf}
use Rattle.rcp_model.specs.RouteServer.{ServerEvent}
use Rattle.rcp_model.specs.ServerRibs.{Reader, route_reader, RibEvent, Up, Down, Change, Links, Work, event_of, Ribs, at_prefix, is_up, AreSettled, ribs_after, part, is_of, concerns}
use Rattle.rib_laws.specs.Readings.{IsRead, read_event, IsCanonical}

-- the number of a prefix's shard, and the shard's prefixes
abbrev pub shard_number : RosterOf → IpPrefix → ℕ
shard_number roster p = shard_of_prefix p roster.shards

-- the routers of the roster, to which routes are announced
abbrev pub roster_reader : RosterOf → Reader RouteFields
roster_reader roster = route_reader roster.members

-- the route of attribute octets in the local AS
abbrev pub own_route : RosterOf → List ℕ → RouteFields
own_route roster octets = route_in number_width roster.as_number octets

-- ---- events

-- what an event does to shards of which the first has this number: each that it concerns takes it, and the others stay
abbrev pub shards_from : RosterOf → RibEvent RouteFields → ℕ → List (Ribs RouteFields) → List (Ribs RouteFields)
shards_from roster event number [] = []
shards_from roster event number (ribs ∷ shards) =
    (if concerns (is_of (shard_number roster) number) event then ribs_after (roster_reader roster) event ribs else ribs)
    ∷ shards_from roster event (suc number) shards

-- what an event does to all shards
abbrev pub shards_after : RosterOf → RibEvent RouteFields → List (Ribs RouteFields) → List (Ribs RouteFields)
shards_after roster event shards = shards_from roster event 0 shards

-- the events of a list, one after another
unfoldable pub shards_after_all : RosterOf → List (RibEvent RouteFields) → List (Ribs RouteFields) → List (Ribs RouteFields)
shards_after_all roster [] shards = shards
shards_after_all roster (event ∷ events) shards = shards_after_all roster events (shards_after roster event shards)

-- an event of the server, with the routes of its octets
abbrev pub route_event : RosterOf → ServerEvent → RibEvent RouteFields
route_event roster event = read_event (own_route roster) (event_of event)

-- what an event announces is such
abbrev pub Announces : {V : Type 0} → (V → Type 0) → RibEvent V → Type 0
Announces P (Up slot) = Unit {0}
Announces P (Down slot) = Unit {0}
Announces P (Change slot p value) = IfSome value P
Announces P (Links edges) = Unit {0}
Announces P (Work p) = Unit {0}

-- what an event announces is in the form in which attributes are sent on
abbrev pub IsCanonicalEvent : ServerEvent → Type 0
IsCanonicalEvent event = Announces IsCanonical (event_of event)

-- ---- the parts

-- each of these shards, of which the first has this number, has the routes of the server's octets at its own prefixes
abbrev pub AreReadFrom : RosterOf → Ribs (List ℕ) → ℕ → List (Ribs RouteFields) → Type 0
AreReadFrom roster octets number [] = Unit {0}
AreReadFrom roster octets number (ribs ∷ shards) =
    IsRead (own_route roster) (part (is_of (shard_number roster) number) octets) ribs × AreReadFrom roster octets (suc number) shards

-- all that is announced and given is such
pub record HaveEach {V : Type 0} (P : V → Type 0) (ribs : Ribs V) : Type 0 where
  pub announced : (p : IpPrefix) (slot : ℕ) → IfSome (at_prefix ribs.announced p slot) P
  pub given : (p : IpPrefix) (slot : ℕ) → IfSome (at_prefix ribs.given p slot) P

-- it is in the form in which attributes are sent on
abbrev pub AreCanonical : Ribs (List ℕ) → Type 0
AreCanonical octets = HaveEach IsCanonical octets

-- the shards of a roster, of which there is at least one, are the parts of a server
pub record AreParts (roster : RosterOf) (octets : Ribs (List ℕ)) (shards : List (Ribs RouteFields)) : Type 0 where
  pub some : 1 ≤ roster.shards
  pub count : length shards ≡ roster.shards
  pub read : AreReadFrom roster octets 0 shards
  pub canonical : AreCanonical octets

-- ---- what each shard keeps

abbrev pub AllSettled : RosterOf → List (Ribs RouteFields) → Type 0
AllSettled roster shards = AllByRecursion (AreSettled (roster_reader roster)) shards

-- a slot that isn't connected announces nothing and is given nothing
abbrev pub AreIdle : Ribs RouteFields → Type 0
AreIdle ribs = (slot : ℕ) (p : IpPrefix) → is_up ribs slot ≡ false → (at_prefix ribs.announced p slot ≡ None) × (at_prefix ribs.given p slot ≡ None)

-- What the shard of a number keeps, where these are the edges and these slots are connected: what it has is of its own prefixes; each
-- route has the fields of its octets; slots that aren't connected have nothing; and it is settled.
pub record IsSoundShard (roster : RosterOf) (edges : List Edge) (connected : set_of.FinSet nat_cmp) (number : ℕ) (ribs : Ribs RouteFields) : Type 0 where
  pub own : part (is_of (shard_number roster) number) ribs ≡ ribs
  pub edges_are : ribs.edges ≡ edges
  pub connected_are : ribs.connected ≡ connected
  pub routes : HaveEach (IsRouteOf roster.as_number) ribs
  pub idle : AreIdle ribs
  pub settled : AreSettled (roster_reader roster) ribs

-- each of these shards does, of which the first has this number
abbrev pub AreSoundFrom : RosterOf → List Edge → set_of.FinSet nat_cmp → ℕ → List (Ribs RouteFields) → Type 0
AreSoundFrom roster edges connected number [] = Unit {0}
AreSoundFrom roster edges connected number (ribs ∷ shards) =
    IsSoundShard roster edges connected number ribs × AreSoundFrom roster edges connected (suc number) shards

pub record AreSound (roster : RosterOf) (edges : List Edge) (connected : set_of.FinSet nat_cmp) (shards : List (Ribs RouteFields)) : Type 0 where
  pub some : 1 ≤ roster.shards
  pub count : length shards ≡ roster.shards
  pub each : AreSoundFrom roster edges connected 0 shards

-- the edges and the connected slots after an event
abbrev pub edges_after : RibEvent RouteFields → List Edge → List Edge
edges_after (Links new) edges = new
edges_after event edges = edges

abbrev pub connected_after : RibEvent RouteFields → set_of.FinSet nat_cmp → set_of.FinSet nat_cmp
connected_after (Up slot) connected = set_of.insert connected slot
connected_after (Down slot) connected = set_of.remove connected slot
connected_after event connected = connected
