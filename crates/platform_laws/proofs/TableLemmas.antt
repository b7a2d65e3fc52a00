-- No slot has two tables, whatever happens.
use Rattle.std.proofs.Common.{◌≡◌, ℕ, Bool, true, false, cond, not, ◌&&◌, eqb, List, [], ◌∷◌, Option, Some, None, option_map, refl, ap, ◌∙◌}
use Rattle.std.proofs.lemmas.Bool.{eqb-true}
use Rattle.rcp_base.specs.IpPrefix.{IpPrefix}
use Rattle.rcp_base.specs.declared.names.Edge.{Edge}
use Rattle.rcp_base.specs.Maps.{get_at, put_at, set_at, without, same_prefix}
use Rattle.rcp_model.specs.LinkState.{same_number}
use Rattle.rcp_model.specs.Updates.{Table}
use Rattle.rcp_model.specs.RouteServer.{Domain, Announcements, Server, ServerEvent, Up, Down, Change, Links, Work, announced_at, announced_by, is_connected, same_octets, offer, worked, after, after_all}
use Rattle.rcp_model.proofs.ServerLemmas.{number_test, number-other}
use Rattle.rib_laws.proofs.ListLookups.{get_at-put_at, get_at-without, worked_at}
use Rattle.platform_laws.specs.Platforms.{AreOnce}

once-put : (slot : ℕ) (table : Table) (tables : List (ℕ × Table)) → AreOnce tables → AreOnce (put_at same_number slot table tables)
once-put slot table [] h = (refl, tt)
once-put slot table (entry ∷ tables) h = at_test (eqb slot entry.0) refl (once-put slot table tables h.1) where
  at_test : (b : Bool) → eqb slot entry.0 ≡ b → AreOnce (put_at same_number slot table tables) → AreOnce (cond b ((slot, table) ∷ tables) (entry ∷ put_at same_number slot table tables))
  at_test true same rest = (ap (λ s. get_at same_number s tables) (eqb-true slot entry.0 same) ∙ h.0, h.1)
  at_test false other rest = (
    get_at-put_at same_number number_test slot table tables entry.0
        ∙ ap (λ b. cond b (Some table) (get_at same_number entry.0 tables)) (number-other slot entry.0 other)
        ∙ h.0,
    rest,
  )

none_either : (b : Bool) (o : Option Table) → o ≡ None → cond b None o ≡ None
none_either true o is = refl
none_either false o is = is

once-without : (gone : ℕ → Bool) (tables : List (ℕ × Table)) → AreOnce tables → AreOnce (without gone tables)
once-without gone [] h = tt
once-without gone (entry ∷ tables) h = at_test (not (gone entry.0)) (once-without gone tables h.1) where
  at_test : (b : Bool) → AreOnce (without gone tables) → AreOnce (cond b (entry ∷ without gone tables) (without gone tables))
  at_test true rest = (get_at-without same_number number_test gone tables entry.0 ∙ none_either (gone entry.0) (get_at same_number entry.0 tables) h.0, rest)
  at_test false rest = rest

once-worked : (domain : Domain) (a : Announcements) (edges : List Edge) (p : IpPrefix) (tables : List (ℕ × Table)) → AreOnce tables → AreOnce (worked domain a edges p tables)
once-worked domain a edges p [] h = tt
once-worked domain a edges p (entry ∷ tables) h = (
  worked_at domain a edges p entry.0 tables ∙ ap (option_map (set_at same_prefix p (offer domain (announced_at a p) edges entry.0))) h.0,
  once-worked domain a edges p tables h.1,
)

pub once-event : (domain : Domain) (event : ServerEvent) (server : Server) → AreOnce server.tables → AreOnce (after domain event server).tables
unfolding after
once-event domain (Up slot) server h = once-put slot [] server.tables h
once-event domain (Down slot) server h = once-without (same_number slot) server.tables h
once-event domain (Change slot p octets) server h = at_test (is_connected server slot && not (same_octets (announced_by server.announcements slot p) octets)) _ server h h where
  at_test : (b : Bool) (x y : Server) → AreOnce x.tables → AreOnce y.tables → AreOnce (cond b x y).tables
  at_test true x y h g = h
  at_test false x y h g = g
once-event domain (Links edges) server h = h
once-event domain (Work p) server h = once-worked domain server.announcements server.edges p server.tables h

pub once-all : (domain : Domain) (events : List ServerEvent) (server : Server) → AreOnce server.tables → AreOnce (after_all domain events server).tables
unfolding after_all
once-all domain [] server h = h
once-all domain (event ∷ events) server h = once-all domain events (after domain event server) (once-event domain event server h)
