-- What the events of one slot do to the server's tables, and what they keep.
use Rattle.std.proofs.Common.{◌≡◌, ℕ, false, not, ◌&&◌, eqb, List, [], ◌∷◌, ◌++◌, map, Option, Some, None, refl, ap, subst, ◌∙◌, inl, inr}
use Rattle.std.specs.List.{list_any, AllByRecursion}
use Rattle.std.proofs.lemmas.Bool.{cases_Bool}
use Rattle.rcp_base.specs.IpPrefix.{IpPrefix, IsPrefix}
use Rattle.rcp_base.specs.Maps.{get_at, same_prefix}
use Rattle.rcp_model.specs.Rising.{IsRising}
use Rattle.rcp_model.specs.Attributes.{canonical_octets, attributes_in}
use Rattle.rcp_model.specs.Updates.{Table}
use Rattle.rcp_model.specs.LinkState.{same_number}
use Rattle.rcp_model.specs.RouteServer.{Domain, Server, ServerEvent, Up, Down, Change, Links, Work, table_of, is_connected, same_octets, announced_by, announced_prefixes, of_slot, moved, after, after_all}
use Rattle.rcp_model.specs.Sessions.{SessionEvent, Announce, Withdraw, Ending, Doing}
use Rattle.rcp_model.specs.Sessions as session
use Rattle.rcp_model.specs.Telling.{IsTold}
use Rattle.feed_meaning.specs.Work.{work_events}
use Rattle.feed_meaning.specs.SessionTurns.{server_event, end_events, seat_events}
use Rattle.rcp_base.proofs.MapLemmas.{get_at-put_at_same, get_at-put_at_other, get_at-without_left}
use Rattle.rcp_model.proofs.ServerLemmas.{number_test, number-other, Settled, settled-up, settled-down, settled-change, settled-work}
use Rattle.rcp_model.proofs.AllLemmas.{all-append}
use Rattle.rcp_model.proofs.LinkEventLemmas.{settled-links}
use Rattle.rcp_model.proofs.RisingLemmas.{rising-include, rising-include_all, rising-filter}
use Rattle.rcp_model.proofs.CourseLemmas.{is_up}

-- ---- events that keep what is settled

-- a change in form, or another event
abbrev pub IsGood : ServerEvent → Type 0
IsGood (Up slot) = Unit {0}
IsGood (Down slot) = Unit {0}
IsGood (Change slot p octets) = IsPrefix p × ((o : List ℕ) → octets ≡ Some o → canonical_octets (attributes_in o) ≡ o)
IsGood (Links edges) = Unit {0}
IsGood (Work p) = Unit {0}

settled-event : (domain : Domain) (event : ServerEvent) (server : Server) → IsGood event → Settled domain server → Settled domain (after domain event server)
settled-event domain (Up slot) server good h = settled-up domain slot server h
settled-event domain (Down slot) server good h = settled-down domain slot server h
settled-event domain (Change slot p octets) server good h = settled-change domain slot p octets server good.0 good.1 h
settled-event domain (Links edges) server good h = settled-links domain edges server h
settled-event domain (Work p) server good h = settled-work domain p server h

pub settled-all : (domain : Domain) (events : List ServerEvent) (server : Server) → AllByRecursion IsGood events → Settled domain server → Settled domain (after_all domain events server)
unfolding after_all
settled-all domain [] server good h = h
settled-all domain (event ∷ events) server good h = settled-all domain events (after domain event server) good.1 (settled-event domain event server good.0 h)

-- the pending prefixes stay rising
pub rising-event : (domain : Domain) (event : ServerEvent) (server : Server) → IsRising server.pending → IsRising (after domain event server).pending
unfolding after
rising-event domain (Up slot) server h = rising-include_all (announced_prefixes server.announcements) server.pending h
rising-event domain (Down slot) server h = rising-include_all (announced_prefixes (of_slot slot server.announcements)) server.pending h
rising-event domain (Change slot p octets) server h =
    elim (cases_Bool (is_connected server slot && not (same_octets (announced_by server.announcements slot p) octets))) [
      | inl e ↦ rw e (rising-include p server.pending h)
      | inr e ↦ rw e h
    ]
rising-event domain (Links edges) server h = rising-include_all (announced_prefixes (moved domain server.edges edges server.announcements)) server.pending h
rising-event domain (Work p) server h = rising-filter (λ q. not (same_prefix p q)) server.pending h

pub rising-all : (domain : Domain) (events : List ServerEvent) (server : Server) → IsRising server.pending → IsRising (after_all domain events server).pending
unfolding after_all
rising-all domain [] server h = h
rising-all domain (event ∷ events) server h = rising-all domain events (after domain event server) (rising-event domain event server h)

pub work-good : (ps : List IpPrefix) → AllByRecursion IsGood (work_events ps)
work-good [] = tt
work-good (p ∷ ps) = (tt, work-good ps)

-- what a session reports is good
event-good : (as_number slot : ℕ) (event : SessionEvent) → IsTold as_number event → IsGood (server_event slot event)
event-good as_number slot session.Up h = tt
event-good as_number slot (Announce p route) h =
    (h.0, λ o is. let o_is : route.attrs ≡ o = cc in subst (λ (l : List ℕ). canonical_octets (attributes_in l) ≡ l) o_is h.1.canonical)
event-good as_number slot (Withdraw p) h = (h, λ o is. absurd cc)

events-good : (as_number slot : ℕ) (events : List SessionEvent) → AllByRecursion (IsTold as_number) events → AllByRecursion IsGood (map (server_event slot) events)
events-good as_number slot [] h = tt
events-good as_number slot (event ∷ events) h = (event-good as_number slot event h.0, events-good as_number slot events h.1)

end-good : (slot : ℕ) (closed : Option Ending) → AllByRecursion IsGood (end_events slot closed)
end-good slot None = tt
end-good slot (Some ending) = (tt, tt)

pub seat-good : (as_number : ℕ) (seat : Option ℕ) (does : Doing) → AllByRecursion (IsTold as_number) does.events → AllByRecursion IsGood (seat_events seat does)
seat-good as_number None does h = tt
seat-good as_number (Some slot) does h = all-append IsGood (map (server_event slot) does.events) (end_events slot does.closed) (events-good as_number slot does.events h) (end-good slot does.closed)

-- ---- tables

pub after_all-append : (domain : Domain) (events more : List ServerEvent) (server : Server) → after_all domain (events ++ more) server ≡ after_all domain more (after_all domain events server)
unfolding after_all
after_all-append domain [] more server = refl
after_all-append domain (event ∷ events) more server = after_all-append domain events more (after domain event server)

change-tables : (domain : Domain) (slot : ℕ) (p : IpPrefix) (octets : Option (List ℕ)) (server : Server) → (after domain (Change slot p octets) server).tables ≡ server.tables
unfolding after
change-tables domain slot p octets server =
    elim (cases_Bool (is_connected server slot && not (same_octets (announced_by server.announcements slot p) octets))) [
      | inl e ↦ rw e refl
      | inr e ↦ rw e refl
    ]

-- Without Up and Down the tables stay.
pub changes-tables : (domain : Domain) (slot : ℕ) (events : List SessionEvent) (server : Server) → list_any is_up events ≡ false
    → (after_all domain (map (server_event slot) events) server).tables ≡ server.tables
unfolding after_all
changes-tables domain slot [] server none = refl
changes-tables domain slot (session.Up ∷ events) server none = absurd cc
changes-tables domain slot (Announce p route ∷ events) server none =
    changes-tables domain slot events (after domain (Change slot p (Some route.attrs)) server) none ∙ change-tables domain slot p (Some route.attrs) server
changes-tables domain slot (Withdraw p ∷ events) server none =
    changes-tables domain slot events (after domain (Change slot p None) server) none ∙ change-tables domain slot p None server

-- After Up and changes the table of the slot is empty.
pub up-table : (domain : Domain) (slot : ℕ) (changes : List SessionEvent) (server : Server) → list_any is_up changes ≡ false
    → table_of (after_all domain (map (server_event slot) (session.Up ∷ changes)) server) slot ≡ Some []
unfolding after_all after
up-table domain slot changes server none =
    ap (λ (t : List (ℕ × Table)). get_at same_number slot t) (changes-tables domain slot changes (after domain (Up slot) server) none)
    ∙ get_at-put_at_same same_number number_test slot [] server.tables

-- What a slot reports leaves the tables of the others.
other-event : (domain : Domain) (slot s : ℕ) (event : SessionEvent) (server : Server) → eqb s slot ≡ false
    → table_of (after domain (server_event slot event) server) s ≡ table_of server s
unfolding after
other-event domain slot s session.Up server other = get_at-put_at_other same_number number_test slot s [] server.tables other
other-event domain slot s (Announce p route) server other = ap (λ (t : List (ℕ × Table)). get_at same_number s t) (change-tables domain slot p (Some route.attrs) server)
other-event domain slot s (Withdraw p) server other = ap (λ (t : List (ℕ × Table)). get_at same_number s t) (change-tables domain slot p None server)

other-events : (domain : Domain) (slot s : ℕ) (events : List SessionEvent) (server : Server) → eqb s slot ≡ false
    → table_of (after_all domain (map (server_event slot) events) server) s ≡ table_of server s
unfolding after_all
other-events domain slot s [] server other = refl
other-events domain slot s (event ∷ events) server other =
    other-events domain slot s events (after domain (server_event slot event) server) other ∙ other-event domain slot s event server other

other-end : (domain : Domain) (slot s : ℕ) (closed : Option Ending) (server : Server) → eqb s slot ≡ false
    → table_of (after_all domain (end_events slot closed) server) s ≡ table_of server s
unfolding after_all after
other-end domain slot s None server other = refl
other-end domain slot s (Some ending) server other = get_at-without_left same_number number_test (same_number slot) s server.tables (number-other s slot other)

pub other-tables : (domain : Domain) (slot s : ℕ) (does : Doing) (server : Server) → eqb s slot ≡ false
    → table_of (after_all domain (seat_events (Some slot) does) server) s ≡ table_of server s
other-tables domain slot s does server other =
    ap (λ (t : Server). table_of t s) (after_all-append domain (map (server_event slot) does.events) (end_events slot does.closed) server)
    ∙ other-end domain slot s does.closed (after_all domain (map (server_event slot) does.events) server) other
    ∙ other-events domain slot s does.events server other
