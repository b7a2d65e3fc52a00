-- The link state that the shards follow.
use Rattle.std.proofs.Common.{◌≡◌, ◌≢◌, ℕ, suc, ◌+◌, ◌-◌, ◌^◌, ◌<◌, ◌≤◌, max, min, Bool, true, false, eqb, nat_lt, List, [], ◌∷◌, ◌++◌, length, filter, Option, Some, None, Result, Ok, Err, ◌⊎◌, inl, inr, refl, sym, ap, subst, ◌∙◌, arith, append-nil}
use Rattle.std.specs.List.{concat}
use Rattle.std.specs.Int.{w64, to_be_bytes}
use Rattle.std.proofs.lemmas.Bool.{eqb-true, eq-eqb, both_ways}
use Rattle.std.specs.Prelude.{is_some, is_none, OnOk, OnErr}
use Rattle.ospf_packet.proofs.Streams.{packets_in-append}
use Rattle.std.proofs.lemmas.Map.Entries.{option_filter}
use Rattle.rcp_base.specs.declared.names.Edge.{Edge}
use Rattle.rcp_base.specs.declared.kinds.Kind.TheVariants as kind
use Rattle.rcp_base.specs.Feed.{OutRecord}
use Rattle.rcp_base.specs.OspfPackets.{Front, whole, part, lost, front_of, packets_in, rest_in}
use Rattle.rcp_base.specs.Roster.{RosterOf}
use Rattle.rcp_model.specs.LinkState.{Kept, LinkState, header_at, aged}
use Rattle.rcp_model.specs.LinkStateUpdates.{installed_all, after_packets}
use Rattle.rcp_model.specs.ServerRibs.{Ribs, ribs_after, Links as LinksEvent}
use Rattle.rcp_model.specs.Routes.{RouteFields}
use Rattle.lsdb.specs.Databases.{Holds}
use Rattle.lsdb.proofs.MapOrder.{once-filter, get-filter, same-length, filter-less}
use Rattle.ospf_packet.specs.Framing.{Framing, capped_place}
use Rattle.igp_view.specs.Igp.{IgpOf, IsOfSameRoster, CountsChange, AreEdgesOf}
use Rattle.igp_view.specs.Streams.{Stream, framing_after, while_framed, place_if_lost, packets_of, stream_after, lost_by, state_after}
use Rattle.igp_view.proofs.YoungLemmas.{aged_or_not, state_twice}
use Rattle.feed_meaning.specs.LinkStream.{held_after, framed}
use Rattle.feed_meaning.specs.OutRecords.{LOST_FRAMING, counted, lost_record}
use Rattle.platform_laws.specs.Parts.{roster_reader, shards_from, shards_after}
use Rattle.platform_laws.proofs.LinkSteps.{same-edges}
use Rattle.rcp_model.specs.Costs.{IsTwoWay}
use Rattle.rcp_model.specs.Edges.{edges_of}
use Rattle.rib_laws.proofs.TwoWayLemmas.{edges-two_way}
use Rattle.platform_laws.specs.Platforms.{capped_stream}
use Rattle.platform_laws.specs.Links.{IsLinkedBy, seen_after_links, output_of_links}
use Rattle.rcs_shards.specs.Servers.{ServerOf, edges_in, acted}
use Rattle.platform_core.specs.Following.{stream_in, AllHave, IsYoung, IsFollowed, with_links_of, Links}

-- ---- young link states

is_young : ℕ → Kept → Bool
is_young now kept = nat_lt (header_at now kept).age 3600

-- where one link state that is held stays so at a time, each does
pub young_by : (now : ℕ) (held one : LinkState) → Holds held one → aged now one ≡ one → IsYoung now held
unfolding aged is_young
young_by now held one holds fixed state other = elim (aged_or_not now state) [
  | inl same ↦ same
  | inr differ ↦ absurd (
      let less = filter-less (λ (e : ℕ × Kept). is_young now e.1) state.routers (λ same. differ (ap (λ (l : List (ℕ × Kept)). let s : LinkState = record { routers = l } in s) same)) in
      let before = same-length state.routers one.routers other.once holds.once (λ k. sym (other.same k) ∙ holds.same k) in
      let after = same-length (filter (λ (e : ℕ × Kept). is_young now e.1) state.routers) (filter (λ (e : ℕ × Kept). is_young now e.1) one.routers)
      (once-filter (λ (e : ℕ × Kept). is_young now e.1) state.routers other.once) (once-filter (λ (e : ℕ × Kept). is_young now e.1) one.routers holds.once)
      (λ k. get-filter k (is_young now) state.routers other.once ∙ ap (option_filter (is_young now)) (sym (other.same k) ∙ holds.same k) ∙ sym (get-filter k (is_young now) one.routers holds.once)) in
      let stays = ap (λ (s : LinkState). length s.routers) fixed in
      omega (arith, less, before, after, stays))
]

-- what is left after a first part is nothing, where the whole is the first part
nothing_more : {X : Type 0} (xs ys : List X) → xs ++ ys ≡ xs → ys ≡ []
nothing_more [] ys is = is
nothing_more (x ∷ xs) ys is = let rest : xs ++ ys ≡ xs = cc in nothing_more xs ys rest

none_left : (octets : List ℕ) → packets_in (rest_in octets ++ []) ≡ []
none_left octets = nothing_more (packets_in octets) (packets_in (rest_in octets ++ [])) (sym (packets_in-append octets []) ∙ ap packets_in (append-nil octets))

-- a stream that a piece came to has no whole packet left
no_packet : (stream : Stream) (piece : List ℕ) → packets_of (stream_after stream piece) [] ≡ []
no_packet None piece = refl
no_packet (Some framing) piece = at_front (front_of (framing_after framing piece).held) where
  at_front : (front : Front) → packets_of (while_framed (framing_after framing piece) front) [] ≡ []
  at_front lost = refl
  at_front (whole n) = none_left (framing.held ++ piece)
  at_front part = none_left (framing.held ++ piece)

-- a link state after the packets of a piece stays so at the time of the piece
pub state_stays : (area now : ℕ) (stream : Stream) (piece : List ℕ) (state : LinkState) → aged now (state_after area now stream piece state) ≡ state_after area now stream piece state
unfolding installed_all
state_stays area now stream piece state =
    sym (ap (λ (packets : List (List ℕ)). after_packets area now packets (aged now (state_after area now stream piece state))) (no_packet stream piece))
    ∙ state_twice now area stream piece [] state ∙ ap (λ (l : List ℕ). state_after area now stream l state) (append-nil piece)

pub aged_stays : (now : ℕ) (state : LinkState) → aged now (aged now state) ≡ aged now state
unfolding installed_all
aged_stays now state = state_stays 0 now None [] state

-- ---- the stream

stream_is : (framing : Framing) (piece : List ℕ) → stream_in (stream_after (Some framing) piece) ≡ capped_stream (framed framing.place (framing.held ++ piece)).stream
stream_is framing piece = at_front (front_of (rest_in (framing.held ++ piece))) where
  at_front : (front : Front) → stream_in (while_framed (framing_after framing piece) front)
      ≡ capped_stream (held_after (packets_in (framing.held ++ piece)) (framing.place + length (concat (packets_in (framing.held ++ piece)))) (rest_in (framing.held ++ piece)) front).stream
  at_front lost = refl
  at_front (whole n) = refl
  at_front part = refl

capped_again : (n : ℕ) → counted (capped_place n) ≡ counted n
capped_again n = ap (to_be_bytes w64) (let e : min (min n (2 ^ 64 - 1)) (2 ^ 64 - 1) ≡ min n (2 ^ 64 - 1) = omega arith in e)

lost_is : (framing : Framing) (piece : List ℕ) → lost_record (lost_by (Some framing) piece) ≡ lost_record (framed framing.place (framing.held ++ piece)).lost_at
lost_is framing piece = at_front (front_of (rest_in (framing.held ++ piece))) where
  at_front : (front : Front) → lost_record (place_if_lost (framing_after framing piece) front)
      ≡ lost_record (held_after (packets_in (framing.held ++ piece)) (framing.place + length (concat (packets_in (framing.held ++ piece)))) (rest_in (framing.held ++ piece)) front).lost_at
  at_front lost = ap (λ (body : List ℕ). (let r : OutRecord = record { kind = LOST_FRAMING; connection = 0; body = body } in r) ∷ []) (capped_again (framing.place + length (concat (packets_in (framing.held ++ piece)))))
  at_front (whole n) = refl
  at_front part = refl

-- whether the framing is lost after a piece
pub lost_after : (framing : Framing) (piece : List ℕ) → is_some (lost_by (Some framing) piece) ≡ is_none (stream_after (Some framing) piece)
lost_after framing piece = at_front (front_of (rest_in (framing.held ++ piece))) where
  at_front : (front : Front) → is_some (place_if_lost (framing_after framing piece) front) ≡ is_none (while_framed (framing_after framing piece) front)
  at_front lost = refl
  at_front (whole n) = refl
  at_front part = refl

-- ---- edges that stay

same_edge : (a b : Edge) → (a ≡ b) ⊎ (a ≢ b)
same_edge a b = at_tests (eqb a.from b.from) refl (eqb a.to b.to) refl (eqb a.cost b.cost) refl where
  at_tests : (s : Bool) → eqb a.from b.from ≡ s → (t : Bool) → eqb a.to b.to ≡ t → (u : Bool) → eqb a.cost b.cost ≡ u → (a ≡ b) ⊎ (a ≢ b)
  at_tests true s true t true u = inl (λ i. record { from = eqb-true a.from b.from s i; to = eqb-true a.to b.to t i; cost = eqb-true a.cost b.cost u i })
  at_tests false s t' t u' u = inr (λ same. both_ways (eqb a.from b.from) s (eq-eqb a.from b.from (ap (λ (e : Edge). e.from) same)))
  at_tests true s false t u' u = inr (λ same. both_ways (eqb a.to b.to) t (eq-eqb a.to b.to (ap (λ (e : Edge). e.to) same)))
  at_tests true s true t false u = inr (λ same. both_ways (eqb a.cost b.cost) u (eq-eqb a.cost b.cost (ap (λ (e : Edge). e.cost) same)))

same_edges : (a b : List Edge) → (a ≡ b) ⊎ (a ≢ b)
same_edges [] [] = inl refl
same_edges [] (y ∷ ys) = inr (λ same. absurd cc)
same_edges (x ∷ xs) [] = inr (λ same. absurd cc)
same_edges (x ∷ xs) (y ∷ ys) = both (same_edge x y) (same_edges xs ys) where
  both : (x ≡ y) ⊎ (x ≢ y) → (xs ≡ ys) ⊎ (xs ≢ ys) → ((x ∷ xs) ≡ (y ∷ ys)) ⊎ ((x ∷ xs) ≢ (y ∷ ys))
  both (inl first) (inl rest) = inl (λ i. first i ∷ rest i)
  both (inr first) rest = inr (λ same. first (let e : x ≡ y = cc in e))
  both (inl first) (inr rest) = inr (λ same. rest (let e : xs ≡ ys = cc in e))

-- a count that stays below its last value says that the edges do
pub edges_stay : (old new : IgpOf) (before : ℕ) → CountsChange old new → before ≡ old.changes → new.changes ≡ before → before < 2 ^ 64 - 1 → new.edges ≡ old.edges
edges_stay old new before counts before_is same less = elim (same_edges new.edges old.edges) [
  | inl stays ↦ stays
  | inr differ ↦ absurd (let one = counts.other differ in omega (arith, one, before_is, same, less))
]

-- ---- the edges of each shard

pub have_after : (roster : RosterOf) (edges : List Edge) (number : ℕ) (shards : List (Ribs RouteFields)) → AllHave edges (shards_from roster (LinksEvent edges) number shards)
unfolding ribs_after
have_after roster edges number [] = tt
have_after roster edges number (ribs ∷ shards) = (refl, have_after roster edges (suc number) shards)

pub same_links : (roster : RosterOf) (edges : List Edge) (number : ℕ) (shards : List (Ribs RouteFields)) → AllHave edges shards → shards ≡ shards_from roster (LinksEvent edges) number shards
same_links roster edges number [] have = refl
same_links roster edges number (ribs ∷ shards) have = λ i.
    (sym (same-edges (roster_reader roster) ribs) ∙ ap (λ (l : List Edge). ribs_after (roster_reader roster) (LinksEvent l) ribs) have.0) i ∷ same_links roster edges (suc number) shards have.1 i

pub follow_same : (server : ServerOf) (edges : List Edge) → AllHave edges server.shards → server ≡ acted (LinksEvent edges) server
follow_same server edges have = λ i. record server { shards = same_links server.roster edges 0 server.shards have i }

edges_head : (roster : RosterOf) (edges : List Edge) (shards : List (Ribs RouteFields)) (P : List Edge → Type 0) → P edges → P (edges_in shards) → P (edges_in (shards_after roster (LinksEvent edges) shards))
unfolding ribs_after
edges_head roster edges [] P new old = old
edges_head roster edges (ribs ∷ shards) P new old = new

-- ---- a record with the link state

module _ (old new : IgpOf) (server after : ServerOf) (time : ℕ) (followed : IsFollowed old server time) (same : IsOfSameRoster old new) (fresh : new.spent ≡ false)
    (acts : after ≡ acted (LinksEvent new.edges) server) (edges : AreEdgesOf new.database.state new.links new.edges) (held : Holds new.database.state new.database.state) where
  roster_is : after.roster ≡ server.roster
  roster_is = ap (λ (s : ServerOf). s.roster) acts

  have : AllHave new.edges after.shards
  have = subst (λ (s : ServerOf). AllHave new.edges s.shards) (sym acts) (have_after server.roster new.edges 0 server.shards)

  edges_of_roster : (state : LinkState) → Holds new.database.state state → new.edges ≡ edges_of state server.roster.links
  edges_of_roster state holds = edges state holds ∙ ap (edges_of state) (same.links ∙ followed.links)

  pub followed_now : (now : ℕ) → new.database.moment ≡ now → IsYoung now new.database.state → IsFollowed new after now
  unfolding roster_is have
  followed_now now moment young = record {
    unspent = fresh;
    area = same.area ∙ followed.area ∙ ap (λ (r : RosterOf). r.area) (sym roster_is);
    members = same.members ∙ followed.members ∙ ap (λ (r : RosterOf). r.members) (sym roster_is);
    links = same.links ∙ followed.links ∙ ap (λ (r : RosterOf). r.links) (sym roster_is);
    time_is = moment;
    young = young;
    held = held;
    edges_are = edges;
    shards_have = have;
  }

  -- octets, where the framing isn't lost
  module _ (body : List ℕ) (framing : Framing) (stream : old.stream ≡ Some framing) (next : new.stream ≡ stream_after old.stream body)
      (state : (s : LinkState) → Holds old.database.state s → Holds new.database.state (state_after old.area (max time old.database.moment) old.stream body s)) where
    now_is : max time old.database.moment ≡ time
    now_is = rw followed.time_is (omega arith)

    leads : (s : LinkState) → Holds old.database.state s → Holds new.database.state (after_packets server.roster.area time (packets_in (framing.held ++ body)) s)
    unfolding now_is
    leads s holds =
        subst (λ (l : LinkState). Holds new.database.state (after_packets server.roster.area time (packets_in (framing.held ++ body)) l)) (followed.young s holds)
        (subst (λ (a : ℕ). Holds new.database.state (after_packets a time (packets_in (framing.held ++ body)) (aged time s))) followed.area
        (subst (λ (f : Stream). Holds new.database.state (after_packets old.area time (packets_of f body) (aged time s))) stream
        (subst (λ (n : ℕ). Holds new.database.state (after_packets old.area n (packets_of old.stream body) (aged n s))) now_is (state s holds))))

    pub young_octets : IsYoung time new.database.state
    unfolding now_is
    young_octets = young_by time new.database.state (state_after old.area time old.stream body old.database.state)
        (subst (λ (n : ℕ). Holds new.database.state (state_after old.area n old.stream body old.database.state)) now_is (state old.database.state followed.held))
        (state_stays old.area time old.stream body old.database.state)

    pub octets_lead : Links body kind.Links time old new server after (lost_record (lost_by old.stream body))
    unfolding leads roster_is edges_of_roster
    octets_lead = record {
      state = new.database.state;
      edges = new.edges;
      linked = λ seen time_is. subst (λ (f : Stream). IsLinkedBy (with_links_of (record old { stream = f }) server seen) body kind.Links new.database.state new.edges) (sym stream)
          (subst (λ (n : ℕ). (s : LinkState) → Holds old.database.state s → Holds new.database.state (after_packets server.roster.area n (packets_in (framing.held ++ body)) s)) (sym time_is) leads, edges_of_roster);
      after_is = λ seen. subst (λ (f : Stream). with_links_of new after seen ≡ seen_after_links (with_links_of (record old { stream = f }) server seen) body kind.Links new.database.state new.edges) (sym stream)
          (λ i. record seen {
            roster = roster_is i;
            stream = (ap stream_in (next ∙ ap (λ (f : Stream). stream_after f body) stream) ∙ stream_is framing body) i;
            link_state = new.database.state;
            shards = ap (λ (s : ServerOf). s.shards) acts i;
          });
      output = λ seen. subst (λ (f : Stream). lost_record (lost_by f body) ≡ output_of_links (with_links_of (record old { stream = f }) server seen) body kind.Links) (sym stream) (lost_is framing body);
    }

  -- time
  module _ (now : ℕ) (later : time ≤ now) (moment : new.database.moment ≡ max now old.database.moment) (next : new.stream ≡ old.stream)
      (state : (s : LinkState) → Holds old.database.state s → Holds new.database.state (aged (max now old.database.moment) s)) where
    then_is : max now old.database.moment ≡ now
    then_is = rw followed.time_is (omega arith)

    ages : (s : LinkState) → Holds old.database.state s → Holds new.database.state (aged now s)
    unfolding then_is
    ages s holds = subst (λ (n : ℕ). Holds new.database.state (aged n s)) then_is (state s holds)

    pub young_time : IsYoung now new.database.state
    unfolding ages
    young_time = young_by now new.database.state (aged now old.database.state) (ages old.database.state followed.held) (aged_stays now old.database.state)

    pub moment_is : new.database.moment ≡ now
    unfolding then_is
    moment_is = moment ∙ then_is

    pub time_leads : (body : List ℕ) → Links body kind.Time now old new server after []
    unfolding ages roster_is edges_of_roster
    time_leads body = record {
      state = new.database.state;
      edges = new.edges;
      linked = λ seen time_is. (subst (λ (n : ℕ). (s : LinkState) → Holds old.database.state s → Holds new.database.state (aged n s)) (sym time_is) ages, edges_of_roster);
      after_is = λ seen i. record seen {
        roster = roster_is i;
        stream = ap stream_in next i;
        link_state = new.database.state;
        shards = ap (λ (s : ServerOf). s.shards) acts i;
      };
      output = λ seen. refl;
    }

-- octets, where the framing is lost: nothing is done
pub lost_leads : (old : IgpOf) (server : ServerOf) (time : ℕ) (body : List ℕ) → IsFollowed old server time → old.stream ≡ None → Links body kind.Links time old old server server []
unfolding installed_all
lost_leads old server time body followed gone = record {
  state = old.database.state;
  edges = old.edges;
  linked = λ seen time_is. subst (λ (f : Stream). IsLinkedBy (with_links_of (record old { stream = f }) server seen) body kind.Links old.database.state old.edges) (sym gone)
      (λ s holds. holds, λ s holds. followed.edges_are s holds ∙ ap (edges_of s) followed.links);
  after_is = λ seen. subst (λ (f : Stream). with_links_of (record old { stream = f }) server seen ≡ seen_after_links (with_links_of (record old { stream = f }) server seen) body kind.Links old.database.state old.edges) (sym gone) refl;
  output = λ seen. subst (λ (f : Stream). [] ≡ output_of_links (with_links_of (record old { stream = f }) server seen) body kind.Links) (sym gone) refl;
}

-- the edges afterwards come in both directions
pub two_way_after : (server after : ServerOf) (state : LinkState) (edges : List Edge) → after ≡ acted (LinksEvent edges) server → edges ≡ edges_of state server.roster.links → IsTwoWay server.roster.links
    → IsTwoWay (edges_in server.shards) → IsTwoWay (edges_in after.shards)
two_way_after server after state edges acts edges_are links before =
    subst (λ (s : ServerOf). IsTwoWay (edges_in s.shards)) (sym acts)
    (edges_head server.roster edges server.shards IsTwoWay (subst IsTwoWay (sym edges_are) (edges-two_way state server.roster.links links)) before)

-- ---- answers

pub on_all : {X E A B C D : Type 0} (r : Result X E) → (A → B → C → D) → OnOk r A → OnOk r B → OnOk r C → OnOk r D
on_all (Ok x) f a b c = f a b c
on_all (Err e) f a b c = tt

pub on_any : {X E A : Type 0} (r : Result X E) → A → OnOk r A
on_any (Ok x) h = h
on_any (Err e) h = tt

pub on_ok : {X E A B : Type 0} (r : Result X E) → (A → B) → OnOk r A → OnOk r B
on_ok (Ok x) f h = f h
on_ok (Err e) f h = tt

pub two_way_follow : {X E : Type 0} (r : Result X E) (server after : ServerOf) (igp : IgpOf) → OnOk r (after ≡ acted (LinksEvent igp.edges) server) → OnOk r (AreEdgesOf igp.database.state igp.links igp.edges)
    → OnOk r (Holds igp.database.state igp.database.state) → OnErr r (after ≡ server) → igp.links ≡ server.roster.links → IsTwoWay server.roster.links → IsTwoWay (edges_in server.shards) → IsTwoWay (edges_in after.shards)
two_way_follow (Ok x) server after igp acts edges held same links_are links before =
    two_way_after server after igp.database.state igp.edges acts (edges igp.database.state held ∙ ap (edges_of igp.database.state) links_are) links before
two_way_follow (Err e) server after igp acts edges held same links_are links before = subst (λ (s : ServerOf). IsTwoWay (edges_in s.shards)) (sym same) before

pub some_of : {X : Type 0} (o : Option X) → is_none o ≡ false → (x : X) × (o ≡ Some x)
some_of None is = absurd cc
some_of (Some x) is = (x, refl)

pub none_of : {X : Type 0} (o : Option X) → is_none o ≡ true → o ≡ None
none_of None is = refl
none_of (Some x) is = absurd cc
