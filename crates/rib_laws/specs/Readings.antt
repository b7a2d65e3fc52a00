-- A server of one kind of announcement that is read from a server of another, as one of routes from one of octets.
use Rattle.std.specs.Prelude.{◌≡◌, ℕ, List, Option, option_map, IfSome}
use Rattle.rcp_base.specs.IpPrefix.{IpPrefix}
use Rattle.rcp_model.specs.Attributes.{canonical_octets, attributes_in}
use Rattle.rcp_model.specs.ServerRibs.{Reader, same_values, RibEvent, Up, Down, Change, Links, Work, Ribs, at_prefix}

-- what is announced to the one is read as what is announced to the other, and has the same route
pub record IsReading {V W : Type 0} (from : Reader V) (to : Reader W) (f : V → W) : Type 0 where
  pub members : from.members ≡ to.members
  pub routes : (value : V) → to.route (f value) ≡ from.route value

-- the tests of both say the same of these two
abbrev pub TestsAgree : {V W : Type 0} → Reader V → Reader W → (V → W) → Option V → Option V → Type 0
TestsAgree from to f a b = same_values to.same (option_map f a) (option_map f b) ≡ same_values from.same a b

-- the one answers what is read of the answers of the other
pub record IsRead {V W : Type 0} (f : V → W) (values : Ribs V) (reads : Ribs W) : Type 0 where
  pub connected : reads.connected ≡ values.connected
  pub announced : (p : IpPrefix) (slot : ℕ) → at_prefix reads.announced p slot ≡ option_map f (at_prefix values.announced p slot)
  pub given : (p : IpPrefix) (slot : ℕ) → at_prefix reads.given p slot ≡ option_map f (at_prefix values.given p slot)
  pub pending : reads.pending ≡ values.pending
  pub edges : reads.edges ≡ values.edges

abbrev pub read_event : {V W : Type 0} → (V → W) → RibEvent V → RibEvent W
read_event f (Up slot) = Up slot
read_event f (Down slot) = Down slot
read_event f (Change slot p value) = Change slot p (option_map f value)
read_event f (Links edges) = Links edges
read_event f (Work p) = Work p

-- octets in the form in which attributes are sent on
abbrev pub IsCanonical : List ℕ → Type 0
IsCanonical octets = canonical_octets (attributes_in octets) ≡ octets

-- what a slot announced before a change, and what it announces after it, are canonical octets, where there are any
abbrev pub IsCanonicalChange : Ribs (List ℕ) → RibEvent (List ℕ) → Type 0
IsCanonicalChange ribs (Change slot p octets) = IfSome (at_prefix ribs.announced p slot) IsCanonical × IfSome octets IsCanonical
IsCanonicalChange ribs event = Unit {0}
