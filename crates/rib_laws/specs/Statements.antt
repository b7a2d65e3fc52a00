-- The laws of the server of finite maps, each for what is announced: the octets of attributes, or routes.
use Rattle.std.specs.Prelude.{◌≡◌, ◌<◌, ◌↔◌, true, ℕ, Bool, List, Option, map, filter, if◌then◌else◌}
use Rattle.std.specs.FinSet as set_of
use Rattle.rcp_base.specs.IpPrefix.{IpPrefix}
use Rattle.rcp_base.specs.declared.names.Edge.{Edge}
use Rattle.rcp_base.specs.Maps.{is_among}
use Rattle.rcp_model.specs.Assigned.{IsLeast}
use Rattle.rcp_model.specs.Pending.{IsPendingAfter}
use Rattle.rcp_model.specs.ServerRibs.{Reader, IsExact, RibEvent, Work, Ribs, at_prefix, is_up, has_pending, AreSettled, empty_ribs, part, is_of, prefixes_of, concerns, ribs_after, ribs_after_all}
use Rattle.rib_laws.specs.Totals.{total_below}

-- servers of which the same can be asked are equal
abbrev pub AnswersDetermine : Type 0 → Type 0
AnswersDetermine V = (a b : Ribs V) → ((slot : ℕ) → is_up a slot ≡ is_up b slot)
    → ((p : IpPrefix) (slot : ℕ) → at_prefix a.announced p slot ≡ at_prefix b.announced p slot)
    → ((p : IpPrefix) (slot : ℕ) → at_prefix a.given p slot ≡ at_prefix b.given p slot)
    → ((p : IpPrefix) → has_pending a p ≡ has_pending b p) → a.edges ≡ b.edges → a ≡ b

-- which prefixes are pending after an event
abbrev pub PendingExactly : Type 0 → Type 0
PendingExactly V = (reader : Reader V) → IsExact reader.same → (event : RibEvent V) (ribs : Ribs V) (p : IpPrefix)
    → (has_pending (ribs_after reader event ribs) p ≡ true)
    ↔ IsPendingAfter reader.members (is_up ribs) (at_prefix ribs.announced) ribs.edges (has_pending ribs) event p

-- a server is settled at the beginning, and after each event
abbrev pub SettledFirst : Type 0 → Type 0
SettledFirst V = (reader : Reader V) (edges : List Edge) → AreSettled reader (empty_ribs edges)

abbrev pub SettledLater : Type 0 → Type 0
SettledLater V = (reader : Reader V) (event : RibEvent V) (ribs : Ribs V) → AreSettled reader ribs → AreSettled reader (ribs_after reader event ribs)

-- an event does to a part what it does to the whole, where it concerns the part, and else it leaves the part as it is
abbrev pub ActsOnParts : Type 0 → Type 0
ActsOnParts V = (owns : IpPrefix → Bool) (reader : Reader V) (event : RibEvent V) (ribs : Ribs V)
    → part owns (ribs_after reader event ribs)
    ≡ (if concerns owns event then ribs_after reader event (part owns ribs) else part owns ribs)

abbrev pub RunsOnParts : Type 0 → Type 0
RunsOnParts V = (owns : IpPrefix → Bool) (reader : Reader V) (events : List (RibEvent V)) (ribs : Ribs V)
    → part owns (ribs_after_all reader events ribs) ≡ ribs_after_all reader (filter (concerns owns) events) (part owns ribs)

-- servers with the same parts are the same
abbrev pub PartsDetermine : Type 0 → Type 0
PartsDetermine V = (rule : IpPrefix → ℕ) (count : ℕ) → ((p : IpPrefix) → rule p < count) → (a b : Ribs V)
    → ((n : ℕ) → n < count → part (is_of rule n) a ≡ part (is_of rule n) b) → a ≡ b

-- the least pending prefix of a number is the least pending one of its part
abbrev pub LeastOfPart : Type 0 → Type 0
LeastOfPart V = (rule : IpPrefix → ℕ) (number : ℕ) (ribs : Ribs V) (least : Option IpPrefix)
    → IsLeast (λ p. (has_pending ribs p ≡ true) × (rule p ≡ number)) least
    ↔ IsLeast (λ p. has_pending (part (is_of rule number) ribs) p ≡ true) least

-- prefixes may be worked in any order, and one may be worked twice
abbrev pub AnyOrder : Type 0 → Type 0
AnyOrder V = (reader : Reader V) (ps qs : List IpPrefix) (ribs : Ribs V) → ((p : IpPrefix) → is_among ps p ≡ is_among qs p)
    → ribs_after_all reader (map (λ p. Work p) ps) ribs ≡ ribs_after_all reader (map (λ p. Work p) qs) ribs

-- the numbers of pending and of announced prefixes are the sums over the parts
abbrev pub PendingAdds : Type 0 → Type 0
PendingAdds V = (rule : IpPrefix → ℕ) (count : ℕ) → ((p : IpPrefix) → rule p < count) → (ribs : Ribs V)
    → set_of.len ribs.pending ≡ total_below (λ n. set_of.len (part (is_of rule n) ribs).pending) count

abbrev pub AnnouncedAdds : Type 0 → Type 0
AnnouncedAdds V = (rule : IpPrefix → ℕ) (count : ℕ) → ((p : IpPrefix) → rule p < count) → (ribs : Ribs V)
    → set_of.len (prefixes_of (λ e. true) ribs.announced)
    ≡ total_below (λ n. set_of.len (prefixes_of (λ e. true) (part (is_of rule n) ribs).announced)) count
