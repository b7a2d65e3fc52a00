-- The open connections as contracts see them, and what is always so of them.
use Rattle.std.specs.Prelude.{◌≡◌, ℕ, ◌<◌, Bool, true, false, not, List, [], ◌∷◌, length, map, get_or, Option, Some, None, IfSome, refl}
use Rattle.std.specs.Coded.{Coded, code_by, coded×, coded_ℕ, coded_bool}
use Rattle.std.specs.List.{AllByRecursion}
use Rattle.rcp_base.specs.Octets.{AreOctets}
use Rattle.rcp_model.specs.Sessions.{SessionState, seat_of, slot_in}
use Rattle.feed_meaning.specs.Platform.{Connections}
use Rattle.feed_meaning.specs.SessionTurns.{is_slot, is_free}
use Rattle.platform_core.specs.Codes.{sessions_code}
use Rattle.platform_core.specs.declared.sessions.Connection.{Connection}

-- The sessions by rising number; how many routers there are; and whether memory was wanting, after which the sessions say nothing.
pub record OpenOf : Type 0 where
  pub sessions : Connections
  pub members : ℕ
  pub spent : Bool

abbrev pub open_code : Coded OpenOf
open_code = code_by (Connections × (ℕ × Bool)) (coded× sessions_code (coded× coded_ℕ coded_bool)) (λ o. (o.sessions, (o.members, o.spent)))
    (λ d. record { sessions = d.0; members = d.1.0; spent = d.1.1 }) (λ _. refl)

-- ---- the list

abbrev pub connection_in : Connection → ℕ × SessionState
connection_in c = (c.number, c.session.state)

abbrev pub sessions_in : List Connection → Connections
sessions_in connections = map connection_in connections

-- numbers rise
abbrev pub AreNumbered : List ℕ → Type 0
AreNumbered [] = Unit {0}
AreNumbered (n ∷ ns) = AllByRecursion (λ m. n < m) ns × AreNumbered ns

abbrev pub numbers_of : Connections → List ℕ
numbers_of sessions = map (λ entry. entry.0) sessions

-- a session for which there was memory so far, and which keeps octets
pub record IsWhole (c : Connection) : Type 0 where
  pub unspent : c.session.spent ≡ false
  pub kept : AreOctets c.session.state.kept

-- ---- seats

-- no seat is held twice
abbrev pub AreApart : Connections → Type 0
AreApart [] = Unit {0}
AreApart (entry ∷ sessions) = ((slot : ℕ) → is_slot slot (seat_of entry.1.phase) ≡ true → is_free sessions slot ≡ true) × AreApart sessions

-- each seat that is held is that of a router
abbrev pub AreWithin : ℕ → Connections → Type 0
AreWithin members sessions = AllByRecursion (λ entry. IfSome (seat_of entry.1.phase) (λ slot. slot < members)) sessions

-- it is known which seats are held
abbrev pub AreHeld : Connections → List Bool → Type 0
AreHeld sessions held = (slot : ℕ) → get_or held slot false ≡ not (is_free sessions slot)

pub record AreSeated (sessions : Connections) (held : List Bool) : Type 0 where
  pub apart : AreApart sessions
  pub within : AreWithin (length held) sessions
  pub known : AreHeld sessions held

-- what is always so of open connections
pub record AreOpen (connections : List Connection) (held : List Bool) : Type 0 where
  pub numbered : AreNumbered (numbers_of (sessions_in connections))
  pub whole : AllByRecursion IsWhole connections
  pub seated : AreSeated (sessions_in connections) held

-- ---- which routers are connected

-- the connections in Established, each with the slot of its router
abbrev pub cons_slot : ℕ → Option ℕ → List (ℕ × ℕ) → List (ℕ × ℕ)
cons_slot number None others = others
cons_slot number (Some slot) others = (number, slot) ∷ others

abbrev pub established_in : Connections → List (ℕ × ℕ)
established_in [] = []
established_in (entry ∷ sessions) = cons_slot entry.0 (slot_in entry.1.phase) (established_in sessions)
