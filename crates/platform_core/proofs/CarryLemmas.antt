-- What turns and work do to the shards, one after another.
use Rattle.std.proofs.Common.{◌≡◌, ℕ, suc, Bool, true, false, cond, not, ◌&&◌, List, [], ◌∷◌, ◌++◌, map, Option, Some, None, refl, sym, ap, subst, ◌∙◌}
use Rattle.std.specs.List.{AllByRecursion}
use Rattle.std.specs.FinMap as map_of
use Rattle.std.specs.FinSet as set_of
use Rattle.rcp_base.specs.IpPrefix.{IpPrefix}
use Rattle.rcp_base.specs.Roster.{RosterOf}
use Rattle.rcp_base.specs.declared.names.Edge.{Edge}
use Rattle.rcp_model.specs.Routes.{RouteFields}
use Rattle.rcp_model.specs.ServerRibs.{Reader, RibEvent, Up, Down, Change, Links, Work, Ribs, is_up, with_value, same_values, is_of, concerns, ribs_after}
use Rattle.std.specs.Prelude.{is_some, option_map}
use Rattle.rcp_model.specs.Sessions.{Ending}
use Rattle.rcp_model.specs.Telling.{IsTold}
use Rattle.session_core.specs.declared.actions.SessionEvent.{SessionEvent}
use Rattle.session_core.specs.Shown.{event_of}
use Rattle.platform_laws.specs.Parts.{shard_number, roster_reader, shards_from, shards_after, shards_after_all}
use Rattle.platform_laws.specs.Work.{works}
use Rattle.platform_laws.specs.Turns.{shard_event, end_of_seat}
use Rattle.rcs_shards.specs.Servers.{ServerOf, edges_in, acted, worked}
use Rattle.platform_core.specs.Following.{AllHave, Keeps}

-- ---- what stays

-- an event that brings no edges
abbrev pub IsPlain : RibEvent RouteFields → Type 0
IsPlain (Links edges) = ⊥
IsPlain (Up slot) = Unit {0}
IsPlain (Down slot) = Unit {0}
IsPlain (Change slot p value) = Unit {0}
IsPlain (Work p) = Unit {0}

change-edges : (b : Bool) (slot : ℕ) (q : IpPrefix) (value : Option RouteFields) (ribs : Ribs RouteFields)
    → (cond b (record ribs { announced = with_value (q, slot) value ribs.announced; pending = set_of.insert ribs.pending q }) ribs).edges ≡ ribs.edges
change-edges true slot q value ribs = refl
change-edges false slot q value ribs = refl

edges-stay : (reader : Reader RouteFields) (event : RibEvent RouteFields) (ribs : Ribs RouteFields) → IsPlain event → (ribs_after reader event ribs).edges ≡ ribs.edges
unfolding ribs_after
edges-stay reader (Up slot) ribs plain = refl
edges-stay reader (Down slot) ribs plain = refl
edges-stay reader (Change slot q value) ribs plain = change-edges (is_up ribs slot && not (same_values reader.same (map_of.get ribs.announced (q, slot)) value)) slot q value ribs
edges-stay reader (Links edges) ribs plain = absurd plain
edges-stay reader (Work q) ribs plain = refl

pub edges-kept : (roster : RosterOf) (event : RibEvent RouteFields) (shards : List (Ribs RouteFields)) → IsPlain event → edges_in (shards_after roster event shards) ≡ edges_in shards
edges-kept roster event [] plain = refl
edges-kept roster event (ribs ∷ shards) plain = at_test (concerns (is_of (shard_number roster) 0) event) where
  at_test : (b : Bool) → (cond b (ribs_after (roster_reader roster) event ribs) ribs).edges ≡ ribs.edges
  at_test true = edges-stay (roster_reader roster) event ribs plain
  at_test false = refl

each-kept : (roster : RosterOf) (event : RibEvent RouteFields) (edges : List Edge) (number : ℕ) (shards : List (Ribs RouteFields)) → IsPlain event → AllHave edges shards → AllHave edges (shards_from roster event number shards)
each-kept roster event edges number [] plain have = tt
each-kept roster event edges number (ribs ∷ shards) plain have = (at_test (concerns (is_of (shard_number roster) number) event), each-kept roster event edges (suc number) shards plain have.1) where
  at_test : (b : Bool) → (cond b (ribs_after (roster_reader roster) event ribs) ribs).edges ≡ edges
  at_test true = edges-stay (roster_reader roster) event ribs plain ∙ have.0
  at_test false = have.0

pub keeps_acted : (event : RibEvent RouteFields) (old new : ServerOf) → IsPlain event → new ≡ acted event old → Keeps old new
keeps_acted event old new plain is = record {
  roster = ap (λ (s : ServerOf). s.roster) is;
  edges = ap (λ (s : ServerOf). edges_in s.shards) is ∙ edges-kept old.roster event old.shards plain;
  each = λ edges have. subst (λ (s : ServerOf). AllHave edges s.shards) (sym is) (each-kept old.roster event edges 0 old.shards plain have);
}

pub keeps_itself : (old new : ServerOf) → new ≡ old → Keeps old new
keeps_itself old new is = record {
  roster = ap (λ (s : ServerOf). s.roster) is;
  edges = ap (λ (s : ServerOf). edges_in s.shards) is;
  each = λ edges have. subst (λ (s : ServerOf). AllHave edges s.shards) (sym is) have;
}

pub keeps_then : (a b c : ServerOf) → Keeps a b → Keeps b c → Keeps a c
keeps_then a b c first second = record { roster = second.roster ∙ first.roster; edges = second.edges ∙ first.edges; each = λ edges have. second.each edges (first.each edges have) }

-- ---- events one after another

pub carried_none : (roster : RosterOf) (shards : List (Ribs RouteFields)) → shards ≡ shards_after_all roster [] shards
unfolding shards_after_all
carried_none roster shards = refl

pub carried_append : (roster : RosterOf) (xs ys : List (RibEvent RouteFields)) (shards : List (Ribs RouteFields)) → shards_after_all roster (xs ++ ys) shards ≡ shards_after_all roster ys (shards_after_all roster xs shards)
unfolding shards_after_all
carried_append roster [] ys shards = refl
carried_append roster (x ∷ xs) ys shards = carried_append roster xs ys (shards_after roster x shards)

pub carried_one : (roster : RosterOf) (x : RibEvent RouteFields) (shards : List (Ribs RouteFields)) → shards_after_all roster (x ∷ []) shards ≡ shards_after roster x shards
unfolding shards_after_all
carried_one roster x shards = refl

pub carried_event : (roster : RosterOf) (xs : List (RibEvent RouteFields)) (x : RibEvent RouteFields) (s t u : ServerOf) → t.roster ≡ roster → t.shards ≡ shards_after_all roster xs s.shards → u ≡ acted x t
    → u.shards ≡ shards_after_all roster (xs ++ x ∷ []) s.shards
carried_event roster xs x s t u same before is =
    ap (λ (v : ServerOf). v.shards) is ∙ ap (λ (r : RosterOf). shards_after r x t.shards) same ∙ ap (shards_after roster x) before
    ∙ sym (carried_one roster x (shards_after_all roster xs s.shards)) ∙ sym (carried_append roster xs (x ∷ []) s.shards)

pub carried_events : (roster : RosterOf) (xs ys : List (RibEvent RouteFields)) (s t u : ServerOf) → t.roster ≡ roster → t.shards ≡ shards_after_all roster xs s.shards → u.shards ≡ shards_after_all t.roster ys t.shards
    → u.shards ≡ shards_after_all roster (xs ++ ys) s.shards
carried_events roster xs ys s t u same before is =
    is ∙ ap (λ (r : RosterOf). shards_after_all r ys t.shards) same ∙ ap (shards_after_all roster ys) before ∙ sym (carried_append roster xs ys s.shards)

pub told-map : (as_number : ℕ) (events : List SessionEvent) → AllByRecursion (IsTold as_number) (map event_of events) → AllByRecursion (λ (e : SessionEvent). IsTold as_number (event_of e)) events
told-map as_number [] told = tt
told-map as_number (e ∷ events) told = (told.0, told-map as_number events told.1)

pub events-map : (slot : ℕ) (events : List SessionEvent) → map (shard_event slot) (map event_of events) ≡ map (λ (e : SessionEvent). shard_event slot (event_of e)) events
events-map slot [] = refl
events-map slot (e ∷ events) = ap (λ (l : List (RibEvent RouteFields)). shard_event slot (event_of e) ∷ l) (events-map slot events)

-- ---- work

works-keep : (roster : RosterOf) (prefixes : List IpPrefix) (shards : List (Ribs RouteFields)) → edges_in (shards_after_all roster (works prefixes) shards) ≡ edges_in shards
unfolding shards_after_all
works-keep roster [] shards = refl
works-keep roster (p ∷ prefixes) shards = works-keep roster prefixes (shards_after roster (Work p) shards) ∙ edges-kept roster (Work p) shards tt

works-each : (roster : RosterOf) (prefixes : List IpPrefix) (edges : List Edge) (shards : List (Ribs RouteFields)) → AllHave edges shards → AllHave edges (shards_after_all roster (works prefixes) shards)
unfolding shards_after_all
works-each roster [] edges shards have = have
works-each roster (p ∷ prefixes) edges shards have = works-each roster prefixes edges (shards_after roster (Work p) shards) (each-kept roster (Work p) edges 0 shards tt have)

pub keeps_worked : (prefixes : List IpPrefix) (old new : ServerOf) → new ≡ worked prefixes old → Keeps old new
keeps_worked prefixes old new is = record {
  roster = ap (λ (s : ServerOf). s.roster) is;
  edges = ap (λ (s : ServerOf). edges_in s.shards) is ∙ works-keep old.roster prefixes old.shards;
  each = λ edges have. subst (λ (s : ServerOf). AllHave edges s.shards) (sym is) (works-each old.roster prefixes edges old.shards have);
}

-- ---- the end of a session

pub ended : (roster : RosterOf) (slot : ℕ) (closed : Option Ending) (old new : ServerOf) → is_some closed ≡ true → old.roster ≡ roster → new ≡ acted (Down slot) old
    → new.shards ≡ shards_after_all roster (end_of_seat slot closed) old.shards
ended roster slot None old new is same acts = absurd cc
ended roster slot (Some ending) old new is same acts =
    ap (λ (s : ServerOf). s.shards) acts ∙ ap (λ (r : RosterOf). shards_after r (Down slot) old.shards) same ∙ sym (carried_one roster (Down slot) old.shards)

pub not_ended : (roster : RosterOf) (slot : ℕ) (closed : Option Ending) (shards : List (Ribs RouteFields)) → is_some closed ≡ false → shards ≡ shards_after_all roster (end_of_seat slot closed) shards
not_ended roster slot None shards is = carried_none roster shards
not_ended roster slot (Some ending) shards is = absurd cc

pub some-map : {X Y : Type 0} (f : X → Y) (o : Option X) → is_some (option_map f o) ≡ is_some o
some-map f None = refl
some-map f (Some x) = refl
