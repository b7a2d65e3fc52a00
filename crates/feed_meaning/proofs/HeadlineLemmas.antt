-- The headline: after each record the octets sent to each connection replay to its table, and tables are the offers where nothing is pending.
use Rattle.std.proofs.Common.{◌≡◌, ℕ, ◌<◌, true, cond, List, [], ◌∷◌, ◌++◌, Option, Some, None, refl, ap, subst, ◌∙◌, append_assoc}
use Rattle.std.specs.List.{All, AllByRecursion}
use Rattle.std.proofs.lemmas.List.{append-nil}
use Rattle.rcp_base.specs.declared.kinds.Kind.{Kind}
use Rattle.rcp_base.specs.declared.kinds.Kind.TheVariants as kind
use Rattle.rcp_base.specs.Feed.{FeedRecord, OutRecord, begins}
use Rattle.rcp_base.specs.Roster.{RosterOf}
use Rattle.rcp_base.specs.Maps.{get_at, same_prefix}
use Rattle.rcp_model.specs.Updates.{replay}
use Rattle.rcp_model.specs.LinkState.{same_number}
use Rattle.rcp_model.specs.RouteServer.{announced_at, offer}
use Rattle.rcp_model.specs.Sessions.{SessionState}
use Rattle.rcp_base.specs.Octets.{AreOctets}
use Rattle.feed_meaning.specs.Platform.{Platform, domain_of, fresh, slot_of_session}
use Rattle.feed_meaning.specs.OutRecords.{sent_to}
use Rattle.feed_meaning.specs.SessionTurns.{Turn, after_turn, after_turns, noted, record_turns, turns_act}
use Rattle.feed_meaning.specs.LinkRecords.{links_act}
use Rattle.feed_meaning.specs.Work.{work_act}
use Rattle.feed_meaning.specs.Runs.{act, platform_after, all_output, NumbersRise, Headline}
use Rattle.feed_meaning.proofs.RunLemmas.{Replays-replay}
use Rattle.feed_meaning.proofs.TurnLemmas.{Tells, Kept}
use Rattle.feed_meaning.proofs.SessionTurns.{turns-keep}
use Rattle.feed_meaning.proofs.LinkRecordLemmas.{links-keep, links-roster}
use Rattle.feed_meaning.proofs.WorkLemmas.{work-keeps}

-- ---- every record

-- the octets of a record's body
abbrev pub HasOctets : FeedRecord → Type 0
HasOctets item = AreOctets item.body

-- the greatest number of a connection after a record
abbrev last_after : ℕ → FeedRecord → ℕ
last_after last item = cond (begins item.kind) item.source last

pub act-keeps : (platform : Platform) (outs : List OutRecord) (last : ℕ) (item : FeedRecord) → HasOctets item → (begins item.kind ≡ true → last < item.source)
    → Kept platform outs last → Kept (act platform item).after (outs ++ (act platform item).out) (last_after last item)
unfolding act
act-keeps platform outs last item small rises h =
    let turned = turns_act platform item in
    let linked = links_act turned.after item.body item.kind in
    let worked = work_act linked.after item.body item.kind in
    let joined : ((outs ++ turned.out) ++ linked.out) ++ worked.out ≡ outs ++ ((turned.out ++ linked.out) ++ worked.out) =
    ap (λ (l : List OutRecord). l ++ worked.out) (append_assoc outs turned.out linked.out) ∙ append_assoc outs (turned.out ++ linked.out) worked.out in
    subst (λ (l : List OutRecord). Kept worked.after l (last_after last item)) joined
    (work-keeps linked.after ((outs ++ turned.out) ++ linked.out) (last_after last item) item.body
    (links-keep turned.after (outs ++ turned.out) (last_after last item) (turns-keep platform outs last item small rises h) item.body item.kind) item.kind)

pub kept-run : (platform : Platform) (outs : List OutRecord) (last : ℕ) (items : List FeedRecord) → AllByRecursion HasOctets items → NumbersRise last items
    → Kept platform outs last → (later : ℕ) × Kept (platform_after platform items) (outs ++ all_output platform items) later
unfolding platform_after all_output
kept-run platform outs last [] small rises h = (last, rw (append-nil outs) h)
kept-run platform outs last (item ∷ items) small rises h =
    rw (← append_assoc outs (act platform item).out (all_output (act platform item).after items))
    (kept-run (act platform item).after (outs ++ (act platform item).out) (last_after last item) items small.1 rises.1 (act-keeps platform outs last item small.0 rises.0 h))

kept-fresh : (roster : RosterOf) → Kept (fresh roster) [] 0
kept-fresh roster = record {
  settled = record {
    offers = λ slot table p is not_pending. absurd (none_some is);
    canonical = record { each = λ slot p octets is. absurd (none_some is) };
    pending = tt;
    announced = tt;
  };
  rising = tt;
  distinct = tt;
  seats = λ m n slot s t is_m is_n seat_m seat_n. absurd (none_some is_m);
  are_open = λ n s is. absurd (none_some is);
  octets = λ n s is. absurd (none_some is);
  told = λ n s is. absurd (none_some is);
  absent = λ n above. refl;
  unsent = λ n above. refl;
} where
  none_some : {X : Type 0} {x : X} → None ≡ Some x → ⊥
  none_some e = cc

-- ---- the roster stays

after_turns-roster : (turns : List Turn) (platform : Platform) → (after_turns turns platform).roster ≡ platform.roster
after_turns-roster [] platform = refl
after_turns-roster (turn ∷ turns) platform = after_turns-roster turns (after_turn turn platform)

work-roster : (platform : Platform) (octets : List ℕ) (k : Kind) → (work_act platform octets k).after.roster ≡ platform.roster
work-roster platform octets kind.Slice = refl
work-roster platform octets kind.Drain = refl
work-roster platform octets kind.Roster = refl
work-roster platform octets kind.Ready = refl
work-roster platform octets kind.Raw = refl
work-roster platform octets kind.Octets = refl
work-roster platform octets kind.Closed = refl
work-roster platform octets kind.Links = refl
work-roster platform octets kind.Time = refl
work-roster platform octets kind.Finish = refl

pub act-roster : (platform : Platform) (item : FeedRecord) → (act platform item).after.roster ≡ platform.roster
unfolding act
act-roster platform item =
    let turned = turns_act platform item in
    work-roster (links_act turned.after item.body item.kind).after item.body item.kind
    ∙ links-roster turned.after item.body item.kind
    ∙ after_turns-roster (record_turns platform item) (noted item platform)

pub run-roster : (platform : Platform) (items : List FeedRecord) → (platform_after platform items).roster ≡ platform.roster
unfolding platform_after
run-roster platform [] = refl
run-roster platform (item ∷ items) = run-roster (act platform item).after items ∙ act-roster platform item

headline-holds : (roster : RosterOf) (items : List FeedRecord) → AllByRecursion HasOctets items → NumbersRise 0 items → Headline roster items
headline-holds roster items small rises number slot p on not_pending =
    by_session (get_at same_number number platform.connections) refl on where
      platform : Platform
      platform = platform_after (fresh roster) items

      kept : Kept platform (all_output (fresh roster) items) (kept-run (fresh roster) [] 0 items small rises (kept-fresh roster)).0
      kept = (kept-run (fresh roster) [] 0 items small rises (kept-fresh roster)).1

      -- the table of a connected slot is what it was sent
      by_table : Tells (sent_to number (all_output (fresh roster) items)) platform.server (Some slot)
          → get_at same_prefix p (replay (sent_to number (all_output (fresh roster) items))) ≡ offer (domain_of roster) (announced_at platform.server.announcements p) platform.server.edges slot
      by_table tells =
          Replays-replay (sent_to number (all_output (fresh roster) items)) tells.0 p tells.2
          ∙ kept.settled.offers slot tells.0 p tells.1 not_pending
          ∙ ap (λ (r : RosterOf). offer (domain_of r) (announced_at platform.server.announcements p) platform.server.edges slot) (run-roster (fresh roster) items)

      by_session : (found : Option SessionState) → get_at same_number number platform.connections ≡ found → slot_of_session found ≡ Some slot
          → get_at same_prefix p (replay (sent_to number (all_output (fresh roster) items))) ≡ offer (domain_of roster) (announced_at platform.server.announcements p) platform.server.edges slot
      by_session None is here = absurd cc
      by_session (Some s) is here = by_table (subst (Tells (sent_to number (all_output (fresh roster) items)) platform.server) here (kept.told number s is))

pub headline : (roster : RosterOf) (items : List FeedRecord) → AllByRecursion (λ item. All (λ o. o < 256) item.body) items → NumbersRise 0 items → Headline roster items
headline roster items small rises = headline-holds roster items small rises
