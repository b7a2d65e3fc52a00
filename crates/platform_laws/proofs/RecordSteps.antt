-- A whole record, and the platform to which nothing happened.
use Rattle.std.proofs.Common.{◌≡◌, ℕ, zero, suc, ◌≤◌, Bool, true, false, cond, ◌&&◌, List, [], ◌++◌, replicate, Option, None, IfSome, option_map, refl, sym, ap, ◌∙◌, subst}
use Rattle.std.specs.FinMap as map_of
use Rattle.std.specs.FinSet as set_of
use Rattle.std.proofs.lemmas.List.{length-replicate}
use Rattle.rcp_base.specs.declared.names.Edge.{Edge}
use Rattle.rcp_base.specs.Feed.{FeedRecord}
use Rattle.rcp_base.specs.IpPrefix.{IpPrefix, prefix_cmp}
use Rattle.rcp_base.specs.Octets.{AreOctets}
use Rattle.rcp_base.specs.Roster.{RosterOf}
use Rattle.rcp_model.specs.LinkState.{LinkState}
use Rattle.rcp_model.specs.Edges.{rising_edges, edges_of}
use Rattle.rcp_model.specs.Ribs.{rib_cmp}
use Rattle.rcp_model.specs.RouteServer.{Server}
use Rattle.rcp_model.specs.ServerRibs.{Rib, at_prefix, ribs_of, empty_ribs, is_of}
use Rattle.rcp_model.proofs.RibLemmas.{prefix_total, prefix_exact}
use Rattle.rib_laws.specs.Readings.{IsCanonical}
use Rattle.rib_laws.proofs.PartLemmas.{get-owned, contains-owned}
use Rattle.feed_meaning.specs.Platform.{Platform, fresh}
use Rattle.feed_meaning.specs.SessionTurns.{turns_act}
use Rattle.feed_meaning.specs.LinkRecords.{links_act}
use Rattle.feed_meaning.specs.Runs.{act}
use Rattle.platform_laws.specs.Parts.{shard_number, own_route, AreReadFrom}
use Rattle.platform_laws.specs.Platforms.{PlatformOf, IsSeen}
use Rattle.platform_laws.specs.Records.{new_platform, seen_turned, IsLinkedAt, seen_linked, seen_after, output_of}
use Rattle.platform_laws.proofs.TurnSteps.{seen-turns_act, same-output}
use Rattle.platform_laws.proofs.LinkSteps.{seen-links, links-out}
use Rattle.platform_laws.proofs.WorkSteps.{seen-work, work-out}

-- ---- a record

module _ (platform : Platform) (seen : PlatformOf) (item : FeedRecord) (state : LinkState) (edges : List Edge) (h : IsSeen platform seen) (small : AreOctets item.body) (linked : IsLinkedAt seen item state edges) where
  turned : IsSeen (turns_act platform item).after (seen_turned seen item)
  turned = seen-turns_act platform seen item h small

  with_links : IsSeen (links_act (turns_act platform item).after item.body item.kind).after (seen_linked seen item state edges)
  with_links = seen-links (turns_act platform item).after (seen_turned seen item) turned state edges item.body item.kind linked

  pub seen-act : IsSeen (act platform item).after (seen_after seen item state edges)
  unfolding act
  seen-act = seen-work (links_act (turns_act platform item).after item.body item.kind).after (seen_linked seen item state edges) item.body item.kind with_links

  pub act-out : (act platform item).out ≡ output_of seen item state edges
  unfolding act
  act-out = λ i. same-output platform seen item h i
      ++ links-out (turns_act platform item).after (seen_turned seen item) item.body item.kind turned i
      ++ work-out (links_act (turns_act platform item).after item.body item.kind).after (seen_linked seen item state edges) item.body item.kind with_links i

-- ---- the beginning

pub first-edges : (roster : RosterOf) → edges_of (record { routers = [] }) roster.links ≡ rising_edges roster.links
unfolding edges_of
first-edges roster = refl

empty_server : RosterOf → Server
empty_server roster = record { tables = []; announcements = []; pending = []; edges = rising_edges roster.links }

none_either : {A : Type 0} (b : Bool) (o : Option A) → o ≡ None → cond b o None ≡ None
none_either true o is = is
none_either false o is = refl

abbrev empty_rib : Rib (List ℕ)
empty_rib = map_of.empty

no_value : (owns : IpPrefix → Bool) (p : IpPrefix) (slot : ℕ) → at_prefix (map_of.retain_keys empty_rib (λ key. owns key.0)) p slot ≡ None
no_value owns p slot = get-owned owns empty_rib p slot ∙ none_either (owns p) (map_of.get empty_rib (p, slot)) (map_of.get-empty rib_cmp (p, slot))

none_waits : (owns : IpPrefix → Bool) → set_of.empty ≡ set_of.retain (set_of.empty {R = prefix_cmp}) owns
none_waits owns = set_of.same_set prefix_total prefix_exact set_of.empty (set_of.retain set_of.empty owns) (λ p.
    set_of.contains-empty prefix_cmp p ∙ sym (contains-owned owns set_of.empty p ∙ ap (λ b. b && owns p) (set_of.contains-empty prefix_cmp p)))

first-read : (roster : RosterOf) (number count : ℕ) → AreReadFrom roster (ribs_of (empty_server roster)) number (replicate count (empty_ribs (rising_edges roster.links)))
unfolding empty_server
first-read roster number zero = tt
first-read roster number (suc count) = (
  record {
    connected = refl;
    announced = λ p slot. map_of.get-empty rib_cmp (p, slot) ∙ sym (ap (option_map (own_route roster)) (no_value (is_of (shard_number roster) number) p slot));
    given = λ p slot. map_of.get-empty rib_cmp (p, slot) ∙ sym (ap (option_map (own_route roster)) (no_value (is_of (shard_number roster) number) p slot));
    pending = none_waits (is_of (shard_number roster) number);
    edges = refl;
  },
  first-read roster (suc number) count,
)

empty-form : (o : Option (List ℕ)) → o ≡ None → IfSome o IsCanonical
empty-form o none = subst (λ x. IfSome x IsCanonical) (sym none) tt

pub seen-fresh : (roster : RosterOf) → 1 ≤ roster.shards → IsSeen (fresh roster) (new_platform roster)
unfolding empty_server
seen-fresh roster some = record {
  roster = refl;
  sessions = refl;
  time = refl;
  stream = refl;
  link_state = record { same = λ router. refl; once = tt };
  shards = record {
    some = some;
    count = length-replicate roster.shards (empty_ribs (rising_edges roster.links));
    read = first-read roster 0 roster.shards;
    canonical = record {
      announced = λ p slot. empty-form (at_prefix (ribs_of (empty_server roster)).announced p slot) (map_of.get-empty rib_cmp (p, slot));
      given = λ p slot. empty-form (at_prefix (ribs_of (empty_server roster)).given p slot) (map_of.get-empty rib_cmp (p, slot));
    };
  };
  updates = refl;
  rising = tt;
  once = tt;
  octets = tt;
}
