-- Pending prefixes rise, and a slice works the least ones, one after another.
use Rattle.std.proofs.Common.{◌≡◌, ℕ, zero, suc, Bool, not, List, [], ◌∷◌, get_or, take, drop, filter, refl, sym, ap, subst, ◌∙◌, inl, inr}
use Rattle.std.proofs.lemmas.Bool.{cases_Bool}
use Rattle.rcp_base.specs.IpPrefix.{IpPrefix}
use Rattle.rcp_base.specs.declared.kinds.Kind.{Kind}
use Rattle.rcp_base.specs.declared.kinds.Kind.TheVariants as kind
use Rattle.rcp_base.specs.Feed.{FeedRecord}
use Rattle.rcp_base.specs.Maps.{same_prefix}
use Rattle.rcp_model.specs.Rising.{IsBelow, IsRising}
use Rattle.rcp_base.specs.Roster.{RosterOf}
use Rattle.rcp_model.specs.Edges.{edges_of}
use Rattle.rcp_model.specs.RouteServer.{Domain, Server, Links, Work, after}
use Rattle.feed_meaning.specs.LinkStream.{LinkStream, Reading, Lost}
use Rattle.feed_meaning.specs.Platform.{Platform, domain_of, fresh}
use Rattle.feed_meaning.specs.SessionTurns.{Turn, turn_events, after_turn, after_turns, noted, record_turns, turns_act}
use Rattle.feed_meaning.specs.LinkRecords.{stream_act, links_act}
use Rattle.feed_meaning.specs.Work.{pending_in, slice, work_events, work_act}
use Rattle.feed_meaning.specs.Runs.{act, platform_after}
use Rattle.rcp_base.proofs.MapLemmas.{same_prefix-itself}
use Rattle.rcp_model.proofs.RisingLemmas.{apart}
use Rattle.feed_meaning.proofs.EventLemmas.{rising-event, rising-all}

-- ---- they rise

Rises : Platform → Type 0
Rises platform = IsRising platform.server.pending

turns-rise : (turns : List Turn) (platform : Platform) → Rises platform → Rises (after_turns turns platform)
unfolding Rises
turns-rise [] platform h = h
turns-rise (turn ∷ turns) platform h = turns-rise turns (after_turn turn platform) (rising-all (domain_of platform.roster) (turn_events turn) platform.server h)

links-rise : (platform : Platform) (body : List ℕ) (k : Kind) → Rises platform → Rises (links_act platform body k).after
unfolding Rises
links-rise platform body kind.Links h = stream-rises platform.stream where
  stream-rises : (stream : LinkStream) → IsRising (stream_act stream body platform).after.server.pending
  stream-rises (Reading held place) = rising-event (domain_of platform.roster) (Links (edges_of _ platform.roster.links)) platform.server h
  stream-rises Lost = h
links-rise platform body kind.Time h = rising-event (domain_of platform.roster) (Links (edges_of _ platform.roster.links)) platform.server h
links-rise platform body kind.Roster h = h
links-rise platform body kind.Ready h = h
links-rise platform body kind.Raw h = h
links-rise platform body kind.Octets h = h
links-rise platform body kind.Closed h = h
links-rise platform body kind.Slice h = h
links-rise platform body kind.Drain h = h
links-rise platform body kind.Finish h = h

work-rises : (platform : Platform) (body : List ℕ) (k : Kind) → Rises platform → Rises (work_act platform body k).after
unfolding Rises
work-rises platform body kind.Slice h = rising-all (domain_of platform.roster) (work_events (slice platform body)) platform.server h
work-rises platform body kind.Drain h = rising-all (domain_of platform.roster) (work_events platform.server.pending) platform.server h
work-rises platform body kind.Roster h = h
work-rises platform body kind.Ready h = h
work-rises platform body kind.Raw h = h
work-rises platform body kind.Octets h = h
work-rises platform body kind.Closed h = h
work-rises platform body kind.Links h = h
work-rises platform body kind.Time h = h
work-rises platform body kind.Finish h = h

act-rises : (platform : Platform) (item : FeedRecord) → Rises platform → Rises (act platform item).after
unfolding act Rises
act-rises platform item h =
    let turned = turns_act platform item in
    work-rises (links_act turned.after item.body item.kind).after item.body item.kind
    (links-rise turned.after item.body item.kind (turns-rise (record_turns platform item) (noted item platform) h))

run-rises : (platform : Platform) (items : List FeedRecord) → Rises platform → Rises (platform_after platform items)
unfolding platform_after
run-rises platform [] h = h
run-rises platform (item ∷ items) h = run-rises (act platform item).after items (act-rises platform item h)

pub pending-rise : (roster : RosterOf) (items : List FeedRecord) → IsRising (platform_after (fresh roster) items).server.pending
unfolding Rises
pending-rise roster items = run-rises (fresh roster) items tt

-- ---- the least ones

-- A prefix that is before each of a list isn't among them, so nothing of the list is worked with it.
others-stay : (test : IpPrefix → Bool) (p : IpPrefix) (ps : List IpPrefix) → IsBelow p ps → filter test (filter (λ q. not (same_prefix p q)) ps) ≡ filter test ps
others-stay test p [] below = refl
others-stay test p (q ∷ ps) below =
    rw (apart p.addr q.addr p.len q.len below.0) (
    elim (cases_Bool (test q)) [
      | inl t ↦ rw t (ap (λ (l : List IpPrefix). q ∷ l) (others-stay test p ps below.1))
      | inr t ↦ rw t (others-stay test p ps below.1)
    ])

-- the first that passes a test, and the others that do once it is gone
first-gone : (test : IpPrefix → Bool) (ps : List IpPrefix) (least : IpPrefix) (others : List IpPrefix) → IsRising ps → filter test ps ≡ least ∷ others
    → filter test (filter (λ q. not (same_prefix least q)) ps) ≡ others
first-gone test [] least others rising is = absurd cc
first-gone test (p ∷ ps) least others rising is =
    elim (cases_Bool (test p)) [
      | inl t ↦
          let same : p ∷ filter test ps ≡ least ∷ others = rw t at is in
          let p_is : p ≡ least = ap (λ (l : List IpPrefix). get_or l 0 p) same in
          let rest_is : filter test ps ≡ others = ap (λ (l : List IpPrefix). drop 1 l) same in
          let gone : filter test (filter (λ q. not (same_prefix p q)) (p ∷ ps)) ≡ others = rw (same_prefix-itself p) (others-stay test p ps rising.0 ∙ rest_is) in
          subst (λ (r : IpPrefix). filter test (filter (λ q. not (same_prefix r q)) (p ∷ ps)) ≡ others) p_is gone
      | inr t ↦
          let rest : filter test ps ≡ least ∷ others = rw t at is in
          elim (cases_Bool (same_prefix least p)) [
            | inl s ↦ rw s (first-gone test ps least others rising.1 rest)
            | inr s ↦ rw (s, t) (first-gone test ps least others rising.1 rest)
          ]
    ]

pub slice-some : (domain : Domain) (shards shard count : ℕ) (server : Server) (least : IpPrefix) (others : List IpPrefix) → IsRising server.pending
    → pending_in shards shard server ≡ least ∷ others
    → take (suc count) (pending_in shards shard server) ≡ least ∷ take count (pending_in shards shard (after domain (Work least) server))
unfolding after
slice-some domain shards shard count server least others rising is =
    ap (take (suc count)) is ∙ ap (λ (l : List IpPrefix). least ∷ take count l) (sym (first-gone _ server.pending least others rising is))

pub slice-none : (shards shard count : ℕ) (server : Server) → pending_in shards shard server ≡ [] → take count (pending_in shards shard server) ≡ []
slice-none shards shard zero server is = refl
slice-none shards shard (suc count) server is = ap (take (suc count)) is
