-- The work of a record: the same prefixes are worked, in their shards, and the same UPDATEs are put out.
use Rattle.std.proofs.Common.{◌≡◌, ℕ, ◌+◌, List, [], ◌∷◌, ◌++◌, length, map, min, Option, Some, None, refl, sym, ap, ◌∙◌, subst}
use Rattle.std.specs.Prelude.{slice_get, slice_set}
use Rattle.std.specs.FinSet as set_of
use Rattle.std.specs.List.{AllByRecursion, flat_map}
use Rattle.rcp_base.specs.IpPrefix.{IpPrefix}
use Rattle.rcp_base.specs.declared.kinds.Kind.{Kind}
use Rattle.rcp_base.specs.declared.kinds.Kind.TheVariants as kind
use Rattle.rcp_base.specs.Roster.{RosterOf}
use Rattle.rcp_model.specs.Rising.{IsRising}
use Rattle.rcp_model.specs.Routes.{RouteFields}
use Rattle.rcp_model.specs.ServerRibs.{Work, Ribs, ribs_of}
use Rattle.rcp_model.proofs.RisingLemmas.{rising-take, rising-include_all}
use Rattle.feed_meaning.specs.Platform.{Platform, domain_of}
use Rattle.feed_meaning.specs.OutRecords.{MOST, counted, summary}
use Rattle.feed_meaning.specs.Work.{count_in, shard_in, slice, work_events, worked_server, work_updates, work_on, drain_act, work_act}
use Rattle.feed_meaning.proofs.EventLemmas.{rising-all}
use Rattle.platform_laws.specs.Parts.{route_event, IsCanonicalEvent, AreParts, shards_after_all}
use Rattle.platform_laws.specs.Platforms.{PlatformOf, IsSeen}
use Rattle.platform_laws.specs.Asked.{rising_of, all_pending}
use Rattle.platform_laws.specs.Work.{works, worked_least, worked_all, least_of, AreChanged, changed_prefixes, updates_to_all, slice_of, shards_worked, updates_of_work, seen_worked, summary_of, seen_after_work, output_of_work}
use Rattle.platform_laws.proofs.PartEvents.{parts-after_all}
use Rattle.platform_laws.proofs.TableLemmas.{once-all}
use Rattle.platform_laws.proofs.PendingLists.{slice-seen, all-pending-seen}
use Rattle.platform_laws.proofs.Counts.{connected-counted, announced-counted}
use Rattle.platform_laws.proofs.RisingLists.{rising-rising_of}
use Rattle.platform_laws.proofs.ShardWork.{drained-shards, sliced-shards}
use Rattle.platform_laws.proofs.CellSteps.{all-sent, changed-are}

work-routes : (roster : RosterOf) (ps : List IpPrefix) → map (route_event roster) (work_events ps) ≡ works ps
work-routes roster [] = refl
work-routes roster (p ∷ ps) = ap (λ l. Work p ∷ l) (work-routes roster ps)

work-canonical : (ps : List IpPrefix) → AllByRecursion IsCanonicalEvent (work_events ps)
work-canonical [] = tt
work-canonical (p ∷ ps) = (tt, work-canonical ps)

module _ (platform : Platform) (seen : PlatformOf) (h : IsSeen platform seen) where
  pub parts-worked : (ps : List IpPrefix) → AreParts platform.roster (ribs_of (worked_server ps platform)) (shards_worked ps seen)
  parts-worked ps =
      subst (AreParts platform.roster (ribs_of (worked_server ps platform))) (λ i. shards_after_all (sym h.roster i) (work-routes platform.roster ps i) seen.shards)
      (parts-after_all platform.roster (work_events ps) platform.server seen.shards h.shards (work-canonical ps))

  pub same-updates : (ps : List IpPrefix) → work_updates ps platform ≡ updates_of_work ps seen
  same-updates ps =
      all-sent platform.roster platform.server (worked_server ps platform) seen.shards (shards_worked ps seen) h.shards (parts-worked ps) ps platform.connections
      ∙ (λ i. updates_to_all (sym h.roster i) ps seen.shards (shards_worked ps seen) (sym h.sessions i))

  pub seen-worked : (ps : List IpPrefix) → IsSeen (work_on ps platform).after (seen_worked ps seen)
  seen-worked ps = record {
    roster = h.roster;
    sessions = h.sessions;
    time = h.time;
    stream = h.stream;
    link_state = h.link_state;
    shards = parts-worked ps;
    updates = λ i. min (h.updates i + length (sym (same-updates ps) i)) MOST;
    rising = rising-all (domain_of platform.roster) (work_events ps) platform.server h.rising;
    once = once-all (domain_of platform.roster) (work_events ps) platform.server h.once;
    octets = h.octets;
  }

  same-slice : (body : List ℕ) → slice platform body ≡ slice_of seen body
  same-slice body = slice-seen platform.roster platform.server seen.shards (shard_in body) (count_in body) h.shards h.rising

  pub same-pending : platform.server.pending ≡ all_pending seen.shards
  same-pending = all-pending-seen platform.roster platform.server seen.shards h.shards h.rising

  pub same-summary : summary platform.server platform.updates ≡ summary_of seen
  same-summary = λ i. record {
    kind = 83;
    connection = 0;
    body = counted (connected-counted platform.roster platform.server seen.shards h.shards h.once i)
        ++ counted (announced-counted platform.roster platform.server seen.shards h.shards i) ++ counted (sym h.updates i);
  }

-- ---- the stage

pub seen-work : (platform : Platform) (seen : PlatformOf) (body : List ℕ) (k : Kind) → IsSeen platform seen → IsSeen (work_act platform body k).after (seen_after_work seen body k)
seen-work platform seen body kind.Slice h = subst (λ ps. IsSeen (work_on (slice platform body) platform).after (seen_worked ps seen)) (same-slice platform seen h body) (seen-worked platform seen h (slice platform body))
seen-work platform seen body kind.Drain h = subst (λ ps. IsSeen (work_on platform.server.pending platform).after (seen_worked ps seen)) (same-pending platform seen h) (seen-worked platform seen h platform.server.pending)
seen-work platform seen body kind.Roster h = h
seen-work platform seen body kind.Ready h = h
seen-work platform seen body kind.Raw h = h
seen-work platform seen body kind.Octets h = h
seen-work platform seen body kind.Closed h = h
seen-work platform seen body kind.Links h = h
seen-work platform seen body kind.Time h = h
seen-work platform seen body kind.Finish h = h

drain-out : (platform : Platform) (seen : PlatformOf) → IsSeen platform seen → (drain_act platform).out ≡ output_of_work seen [] kind.Drain
drain-out platform seen h =
    (λ i. same-updates platform seen h platform.server.pending i
    ++ same-summary (work_on platform.server.pending platform).after (seen_worked platform.server.pending seen) (seen-worked platform seen h platform.server.pending) i ∷ [])
    ∙ ap (λ ps. updates_of_work ps seen ++ summary_of (seen_worked ps seen) ∷ []) (same-pending platform seen h)

pub work-out : (platform : Platform) (seen : PlatformOf) (body : List ℕ) (k : Kind) → IsSeen platform seen → (work_act platform body k).out ≡ output_of_work seen body k
work-out platform seen body kind.Slice h = same-updates platform seen h (slice platform body) ∙ ap (λ ps. updates_of_work ps seen) (same-slice platform seen h body)
work-out platform seen body kind.Drain h = drain-out platform seen h
work-out platform seen body kind.Roster h = refl
work-out platform seen body kind.Ready h = refl
work-out platform seen body kind.Raw h = refl
work-out platform seen body kind.Octets h = refl
work-out platform seen body kind.Closed h = refl
work-out platform seen body kind.Links h = refl
work-out platform seen body kind.Time h = refl
work-out platform seen body kind.Finish h = refl

-- ---- shard by shard

pub drain-shards : (platform : Platform) (seen : PlatformOf) → IsSeen platform seen → shards_worked (all_pending seen.shards) seen ≡ map (worked_all seen.roster) seen.shards
drain-shards platform seen h =
    (λ i. shards_after_all (h.roster i) (works (sym (same-pending platform seen h) i)) seen.shards)
    ∙ drained-shards platform.roster platform.server seen.shards h.shards h.rising
    ∙ ap (λ r. map (worked_all r) seen.shards) (sym h.roster)

pub slice-shards : (platform : Platform) (seen : PlatformOf) (body : List ℕ) (ribs : Ribs RouteFields) → IsSeen platform seen → slice_get seen.shards (shard_in body) ≡ Some ribs
    → shards_worked (slice_of seen body) seen ≡ slice_set seen.shards (shard_in body) (worked_least seen.roster (count_in body) ribs)
slice-shards platform seen body ribs h is =
    (λ i. shards_after_all (h.roster i) (works (least_of (is i) (count_in body))) seen.shards)
    ∙ sliced-shards platform.roster platform.server seen.shards (shard_in body) (count_in body) ribs h.shards h.rising is
    ∙ ap (λ r. slice_set seen.shards (shard_in body) (worked_least r (count_in body) ribs)) (sym h.roster)

pub no-shards : (seen : PlatformOf) (body : List ℕ) → slice_get seen.shards (shard_in body) ≡ None → shards_worked (slice_of seen body) seen ≡ seen.shards
unfolding shards_after_all
no-shards seen body none = ap (λ o. shards_after_all seen.roster (works (least_of o (count_in body))) seen.shards) none

pub rising-slice : (seen : PlatformOf) (body : List ℕ) → IsRising (slice_of seen body)
rising-slice seen body = by_shard (slice_get seen.shards (shard_in body)) where
  by_shard : (found : Option (Ribs RouteFields)) → IsRising (least_of found (count_in body))
  by_shard None = tt
  by_shard (Some ribs) = rising-take (count_in body) (rising_of ribs.pending) (rising-rising_of ribs.pending)

pub rising-pending : (seen : PlatformOf) → IsRising (all_pending seen.shards)
rising-pending seen = rising-include_all (flat_map (λ ribs. set_of.items ribs.pending) seen.shards) [] tt

-- ---- the prefixes of cells

pub cells-of_slot : (platform : Platform) (seen : PlatformOf) → IsSeen platform seen → (ps : List IpPrefix) → IsRising ps → (slot : ℕ) (qs : List IpPrefix)
    → AreChanged seen.roster seen.shards (shards_worked ps seen) slot qs → changed_prefixes seen.roster ps seen.shards (shards_worked ps seen) slot ≡ qs
cells-of_slot platform seen h ps rising slot qs are =
    ap (λ r. changed_prefixes r ps seen.shards (shards_worked ps seen) slot) h.roster
    ∙ changed-are platform.roster (domain_of platform.roster) platform.server seen.shards (shards_worked ps seen) ps h.shards (parts-worked platform seen h ps) rising slot qs
    (subst (λ r. AreChanged r seen.shards (shards_worked ps seen) slot qs) h.roster are)
