-- How the parts of a platform belong together after a record.
use Rattle.std.proofs.Common.{◌≡◌, ℕ, Bool, true, false, List, [], ◌++◌, length, refl, sym, ap, subst, ◌∙◌}
use Rattle.std.specs.List.{flat_map}
use Rattle.rcp_base.specs.Feed.{FeedRecord, OutRecord}
use Rattle.rcp_base.specs.Roster.{RosterOf}
use Rattle.rcp_model.specs.Costs.{IsTwoWay}
use Rattle.rcp_model.specs.Routes.{RouteFields}
use Rattle.rcp_model.specs.ServerRibs.{RibEvent}
use Rattle.igp_view.specs.Igp.{IgpOf}
use Rattle.feed_meaning.specs.SessionTurns.{turn_output}
use Rattle.platform_laws.specs.Parts.{shards_after_all}
use Rattle.platform_laws.specs.Turns.{shard_events}
use Rattle.rcs_shards.specs.Servers.{ServerOf, edges_in}
use Rattle.platform_core.specs.Open.{OpenOf}
use Rattle.platform_core.specs.Turns.{turns_at, sessions_after, events_in, output_in, Take}
use Rattle.platform_core.specs.Following.{IsFollowed, Keeps}
use Rattle.platform_core.specs.Joins.{IsJoined}
use Rattle.platform_core.specs.declared.turns.Turn.{Turn}

-- ---- what stays of it

-- where memory was wanting
pub joined_spent : (server after : ServerOf) (opened next : OpenOf) (time now : ℕ) (igp then : IgpOf) (was : Bool) → IsTwoWay (edges_in after.shards) → after.roster ≡ server.roster
    → IsJoined was server opened time igp → IsJoined true after next now then
joined_spent server after opened next time now igp then was two_way roster joined = record {
  two_way = two_way;
  links = subst (λ (r : RosterOf). IsTwoWay r.links) (sym roster) joined.links;
  whole = λ fresh. absurd cc;
  seats = λ fresh. absurd cc;
  followed = λ fresh. absurd cc;
}

pub two_way_kept : (server after : ServerOf) (opened : OpenOf) (time : ℕ) (igp : IgpOf) (was : Bool) → Keeps server after → IsJoined was server opened time igp → IsTwoWay (edges_in after.shards)
two_way_kept server after opened time igp was kept joined = subst IsTwoWay (sym kept.edges) joined.two_way

pub followed_kept : (server after : ServerOf) (igp : IgpOf) (time : ℕ) → Keeps server after → IsFollowed igp server time → IsFollowed igp after time
followed_kept server after igp time kept followed = record {
  unspent = followed.unspent;
  area = followed.area ∙ ap (λ (r : RosterOf). r.area) (sym kept.roster);
  members = followed.members ∙ ap (λ (r : RosterOf). r.members) (sym kept.roster);
  links = followed.links ∙ ap (λ (r : RosterOf). r.links) (sym kept.roster);
  time_is = followed.time_is;
  young = followed.young;
  held = followed.held;
  edges_are = followed.edges_are;
  shards_have = kept.each igp.edges followed.shards_have;
}

-- with other connections of as many routers, and what follows
pub joined_now : (server after : ServerOf) (opened next : OpenOf) (time now : ℕ) (igp then : IgpOf) (was : Bool) → was ≡ false → IsTwoWay (edges_in after.shards) → after.roster ≡ server.roster
    → next.spent ≡ opened.spent → next.members ≡ opened.members → IsFollowed then after now → IsJoined was server opened time igp → IsJoined false after next now then
joined_now server after opened next time now igp then was fresh two_way roster spent members followed joined = record {
  two_way = two_way;
  links = subst (λ (r : RosterOf). IsTwoWay r.links) (sym roster) joined.links;
  whole = λ _. spent ∙ joined.whole fresh;
  seats = λ _. members ∙ joined.seats fresh ∙ ap (λ (r : RosterOf). length r.members) (sym roster);
  followed = λ _. followed;
}

pub kept_spent : (server after : ServerOf) (opened next : OpenOf) (time now : ℕ) (igp then : IgpOf) (was : Bool) → Keeps server after → IsJoined was server opened time igp → IsJoined true after next now then
kept_spent server after opened next time now igp then was kept joined =
    joined_spent server after opened next time now igp then was (two_way_kept server after opened time igp was kept joined) kept.roster joined

pub kept_joined : (server after : ServerOf) (opened : OpenOf) (time : ℕ) (igp : IgpOf) (was : Bool) → was ≡ false → Keeps server after → IsJoined was server opened time igp → IsJoined false after opened time igp
kept_joined server after opened time igp was fresh kept joined =
    joined_now server after opened opened time time igp igp was fresh (two_way_kept server after opened time igp was kept joined) kept.roster refl refl
    (followed_kept server after igp time kept (joined.followed fresh)) joined

-- ---- after the turns of a record

module _ (server : ServerOf) (roster : RosterOf) (roster_is : roster ≡ server.roster) (opened next : OpenOf) (time : ℕ) (item : FeedRecord) (taken : List Turn)
    (take : Take roster (turns_at roster time opened.sessions item) opened next taken) where
  pub taken_sessions : next.sessions ≡ sessions_after (turns_at server.roster time opened.sessions item) opened.sessions
  taken_sessions = ap (λ (o : OpenOf). o.sessions) take.after ∙ ap (λ (r : RosterOf). sessions_after (turns_at r time opened.sessions item) opened.sessions) roster_is

  pub taken_shards : (after : ServerOf) → after.shards ≡ shards_after_all server.roster (flat_map events_in taken) server.shards
      → after.shards ≡ shards_after_all server.roster (flat_map shard_events (turns_at server.roster time opened.sessions item)) server.shards
  taken_shards after is = is ∙ ap (λ (es : List (RibEvent RouteFields)). shards_after_all server.roster es server.shards)
      (take.do_as.events ∙ ap (λ (r : RosterOf). flat_map shard_events (turns_at r time opened.sessions item)) roster_is)

  pub taken_output : (start out : List OutRecord) → start ≡ [] → out ≡ start ++ flat_map output_in taken → out ≡ flat_map turn_output (turns_at server.roster time opened.sessions item)
  taken_output start out nothing is = is ∙ ap (λ (l : List OutRecord). l ++ flat_map output_in taken) nothing ∙ take.do_as.output
      ∙ ap (λ (r : RosterOf). flat_map turn_output (turns_at r time opened.sessions item)) roster_is

  pub taken_joined : (after : ServerOf) (igp : IgpOf) (was : Bool) → was ≡ false → Keeps server after → IsJoined was server opened time igp → IsJoined false after next time igp
  taken_joined after igp was fresh kept joined =
      joined_now server after opened next time time igp igp was fresh (two_way_kept server after opened time igp was kept joined) kept.roster
      (ap (λ (o : OpenOf). o.spent) take.after) (ap (λ (o : OpenOf). o.members) take.after) (followed_kept server after igp time kept (joined.followed fresh)) joined
