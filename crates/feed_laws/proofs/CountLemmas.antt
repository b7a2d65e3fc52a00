-- The count of UPDATEs is that of the messages that slices and drains put out.
use Rattle.std.proofs.Common.{◌≡◌, ℕ, suc, ◌+◌, ◌≤◌, min, true, false, cond, List, [], ◌∷◌, ◌++◌, length, refl, sym, ap, ◌∙◌, arith}
use Rattle.std.specs.Prelude.{◌==◌}
use Rattle.std.specs.List.{AllByRecursion}
use Rattle.rcp_base.specs.declared.kinds.Kind.{Kind}
use Rattle.rcp_base.specs.declared.kinds.Kind.TheVariants as kind
use Rattle.rcp_base.specs.Feed.{FeedRecord, OutRecord}
use Rattle.rcp_base.specs.IpPrefix.{IpPrefix}
use Rattle.rcp_base.specs.Roster.{RosterOf}
use Rattle.rcp_model.proofs.AllLemmas.{all-append}
use Rattle.rcp_model.specs.RouteServer.{Server}
use Rattle.rcp_model.specs.Sessions.{slot_in}
use Rattle.feed_meaning.specs.LinkStream.{LinkStream, Reading, Lost}
use Rattle.feed_meaning.specs.LinkRecords.{stream_act, links_act}
use Rattle.feed_meaning.specs.OutRecords.{MESSAGE, MOST, messages_to, summary}
use Rattle.feed_meaning.specs.Platform.{Connections, Platform, fresh}
use Rattle.feed_meaning.specs.SessionTurns.{Turn, after_turn, after_turns, noted, turns_of}
use Rattle.feed_meaning.specs.Work.{slot_updates, updates_sent, slice, worked_server, work_updates, work_on}
use Rattle.feed_meaning.specs.Runs.{act, platform_after}
use Rattle.feed_laws.specs.Counts.{count_messages, is_work, count_updates}

-- ---- counts up to the greatest

stay : (u most : ℕ) → u ≤ most → u ≡ min (u + 0) most
stay u most le = omega (arith, le)

more : (a b c most : ℕ) → min (min (a + b) most + c) most ≡ min (a + (b + c)) most
more a b c most = omega arith

within : (n m most : ℕ) → n ≡ min m most → n ≤ most
within n m most is = omega (arith, is)

from_none : (n most : ℕ) → min (0 + n) most ≡ min n most
from_none n most = omega arith

-- ---- messages

abbrev AreMessages : List OutRecord → Type 0
AreMessages outs = AllByRecursion (λ (o : OutRecord). (o.kind == MESSAGE) ≡ true) outs

messages-are : (n : ℕ) (messages : List (List ℕ)) → AreMessages (messages_to n messages)
messages-are n [] = tt
messages-are n (message ∷ messages) = (refl, messages-are n messages)

sent-are : (prefixes : List IpPrefix) (before now : Server) (es : Connections) → AreMessages (updates_sent prefixes before now es)
sent-are prefixes before now [] = tt
sent-are prefixes before now (e ∷ es) =
    all-append (λ (o : OutRecord). (o.kind == MESSAGE) ≡ true) (messages_to e.0 (slot_updates prefixes before now (slot_in e.1.phase))) (updates_sent prefixes before now es)
    (messages-are e.0 (slot_updates prefixes before now (slot_in e.1.phase))) (sent-are prefixes before now es)

count-all : (outs : List OutRecord) → AreMessages outs → count_messages outs ≡ length outs
count-all [] are = refl
count-all (o ∷ outs) are = rw are.0 (ap suc (count-all outs are.1))

count-but_last : (outs : List OutRecord) (last : OutRecord) → (last.kind == MESSAGE) ≡ false → AreMessages outs → count_messages (outs ++ last ∷ []) ≡ length outs
count-but_last [] last other are = rw other refl
count-but_last (o ∷ outs) last other are = rw are.0 (ap suc (count-but_last outs last other are.1))

-- ---- what a record adds

turns-updates : (turns : List Turn) (platform : Platform) → (after_turns turns platform).updates ≡ platform.updates
turns-updates [] platform = refl
turns-updates (one ∷ turns) platform = turns-updates turns (after_turn one platform)

stream-updates : (stream : LinkStream) (octets : List ℕ) (platform : Platform) → (stream_act stream octets platform).after.updates ≡ platform.updates
stream-updates (Reading held place) octets platform = refl
stream-updates Lost octets platform = refl

links-updates : (platform : Platform) (body : List ℕ) (k : Kind) → (links_act platform body k).after.updates ≡ platform.updates
links-updates platform body kind.Links = stream-updates platform.stream body platform
links-updates platform body k = refl

abbrev item_of : ℕ → List ℕ → Kind → FeedRecord
item_of number body k = record { kind = k; source = number; body = body }

kept-updates : (platform : Platform) (number : ℕ) (body : List ℕ) (k : Kind) → platform.updates ≤ MOST
    → (links_act (after_turns (turns_of platform number body k) (noted (item_of number body k) platform)) body k).after.updates ≡ min (platform.updates + 0) MOST
kept-updates platform number body k le =
    links-updates (after_turns (turns_of platform number body k) (noted (item_of number body k) platform)) body k
    ∙ turns-updates (turns_of platform number body k) (noted (item_of number body k) platform)
    ∙ stay platform.updates MOST le

act-updates : (platform : Platform) (number : ℕ) (body : List ℕ) (k : Kind) → platform.updates ≤ MOST
    → (act platform (item_of number body k)).after.updates ≡ min (platform.updates + cond (is_work k) (count_messages (act platform (item_of number body k)).out) 0) MOST
unfolding act
act-updates platform number body kind.Slice le =
    ap (λ (n : ℕ). min (platform.updates + n) MOST)
    (sym (count-all (work_updates (slice platform body) platform) (sent-are (slice platform body) platform.server (worked_server (slice platform body) platform) platform.connections)))
act-updates platform number body kind.Drain le =
    let done = work_on platform.server.pending platform in
    ap (λ (n : ℕ). min (platform.updates + n) MOST)
    (sym (count-but_last (work_updates platform.server.pending platform) (summary done.after.server done.after.updates) refl
    (sent-are platform.server.pending platform.server (worked_server platform.server.pending platform) platform.connections)))
act-updates platform number body kind.Ready le = kept-updates platform number body kind.Ready le
act-updates platform number body kind.Raw le = kept-updates platform number body kind.Raw le
act-updates platform number body kind.Octets le = kept-updates platform number body kind.Octets le
act-updates platform number body kind.Closed le = kept-updates platform number body kind.Closed le
act-updates platform number body kind.Time le = kept-updates platform number body kind.Time le
act-updates platform number body kind.Roster le = kept-updates platform number body kind.Roster le
act-updates platform number body kind.Links le = kept-updates platform number body kind.Links le
act-updates platform number body kind.Finish le = kept-updates platform number body kind.Finish le

-- ---- runs

updates-after : (platform : Platform) (items : List FeedRecord) → platform.updates ≤ MOST → (platform_after platform items).updates ≡ min (platform.updates + count_updates platform items) MOST
unfolding platform_after
updates-after platform [] le = stay platform.updates MOST le
updates-after platform (item ∷ items) le =
    let added = cond (is_work item.kind) (count_messages (act platform item).out) 0 in
    let rest = count_updates (act platform item).after items in
    let one = act-updates platform item.source item.body item.kind le in
    updates-after (act platform item).after items (within (act platform item).after.updates (platform.updates + added) MOST one)
    ∙ ap (λ (n : ℕ). min (n + rest) MOST) one
    ∙ more platform.updates added rest MOST

pub run-updates : (roster : RosterOf) (items : List FeedRecord) → (platform_after (fresh roster) items).updates ≡ min (count_updates (fresh roster) items) MOST
run-updates roster items = updates-after (fresh roster) items (omega arith) ∙ from_none (count_updates (fresh roster) items) MOST
