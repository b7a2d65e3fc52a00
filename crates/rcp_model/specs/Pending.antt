-- Which prefixes an event of the route control server makes pending, and which it leaves so.
use Rattle.std.specs.Prelude.{◌≡◌, ◌≢◌, ◌⊎◌, ℕ, ◌<◌, Bool, true, List, length, IsSome}
use Rattle.rcp_base.specs.IpPrefix.{IpPrefix}
use Rattle.rcp_base.specs.declared.names.Member.{Member}
use Rattle.rcp_base.specs.declared.names.Edge.{Edge}
use Rattle.rcp_model.specs.RouteServer.{slot_cost}
use Rattle.rcp_model.specs.ServerRibs.{Values, RibEvent, Up, Down, Change, Links, Work}

-- The prefixes that an event makes pending, where these slots are connected, have these announcements, and are linked so: with Up
-- each that is announced; with Down each that the slot announced; with Change its own, where that changes what the slot
-- announces; with Links each that some slot announced to which the cost from some slot changes.
abbrev pub MakesPending : {V : Type 0} → List Member → (ℕ → Bool) → (IpPrefix → Values V) → List Edge → RibEvent V → IpPrefix → Type 0
MakesPending members connected announced edges (Up slot) p = (e : ℕ) × IsSome (announced p e)
MakesPending members connected announced edges (Down slot) p = IsSome (announced p slot)
MakesPending members connected announced edges (Change slot q value) p =
    (p ≡ q) × (connected slot ≡ true) × (announced p slot ≢ value)
MakesPending members connected announced edges (Links new) p =
    (e : ℕ) × IsSome (announced p e)
    × ((from : ℕ) × (from < length members) × (slot_cost edges members from e ≢ slot_cost new members from e))
MakesPending members connected announced edges (Work q) p = ⊥

-- the prefixes that an event leaves pending: all but the one that is worked
abbrev pub LeavesPending : {V : Type 0} → RibEvent V → IpPrefix → Type 0
LeavesPending (Work q) p = p ≢ q
LeavesPending event p = Unit {0}

-- Which prefixes are pending after an event: those that were and that it leaves so, and those that it makes so.
abbrev pub IsPendingAfter : {V : Type 0} → List Member → (ℕ → Bool) → (IpPrefix → Values V) → List Edge → (IpPrefix → Bool) → RibEvent V → IpPrefix → Type 0
IsPendingAfter members connected announced edges pending event p =
    ((pending p ≡ true) × LeavesPending event p) ⊎ MakesPending members connected announced edges event p
