-- What a time, a slice and a drain put out stands by the numbers of connections.
use Rattle.std.proofs.Common.{◌≡◌, ℕ, ◌<◌, ◌≤◌, List, [], ◌∷◌, ◌++◌, map, Option, Some, None, refl, sym, ap, subst, ◌∙◌, arith, append-nil}
use Rattle.std.specs.List.{flat_map, AllByRecursion}
use Rattle.std.proofs.lemmas.List.Elements.{All-from_recursion}
use Rattle.std.proofs.lemmas.List.Kept.{AllPairs-cons}
use Rattle.rcp_base.specs.declared.kinds.Kind.TheVariants as kind
use Rattle.rcp_base.specs.Feed.{FeedRecord, OutRecord, moment_of}
use Rattle.rcp_base.specs.IpPrefix.{IpPrefix}
use Rattle.rcp_base.specs.Roster.{RosterOf}
use Rattle.rcp_model.proofs.AllLemmas.{all-append}
use Rattle.rcp_model.specs.RouteServer.{Server}
use Rattle.rcp_model.specs.Sessions.{SessionState, Ending, Moment, slot_in}
use Rattle.feed_meaning.specs.OutRecords.{messages_to, end_record, summary}
use Rattle.feed_meaning.specs.Platform.{Connections, Platform, fresh}
use Rattle.feed_meaning.specs.SessionTurns.{Turn, simple_turn, turn_output}
use Rattle.feed_meaning.specs.Work.{slot_updates, updates_sent, slice, worked_server, work_updates, work_on}
use Rattle.feed_meaning.specs.Runs.{act, platform_after, NumbersRise}
use Rattle.feed_laws.specs.Order.{StandByConnection, StandBeforeLast}
use Rattle.feed_laws.proofs.OrderLemmas.{Rise, keys, run-rises}

abbrev OutsRise : List OutRecord → Type 0
OutsRise [] = Unit {0}
OutsRise (o ∷ outs) = AllByRecursion (λ (p : OutRecord). o.connection ≤ p.connection) outs × OutsRise outs

-- all of these go to one connection
abbrev AllTo : ℕ → List OutRecord → Type 0
AllTo n outs = AllByRecursion (λ (o : OutRecord). o.connection ≡ n) outs

abbrev From : ℕ → List OutRecord → Type 0
From n outs = AllByRecursion (λ (o : OutRecord). n ≤ o.connection) outs

from-all : (n : ℕ) (outs : List OutRecord) → AllTo n outs → From n outs
from-all n [] all = tt
from-all n (o ∷ outs) all = (omega (arith, all.0), from-all n outs all.1)

from-later : (n later : ℕ) (outs : List OutRecord) → n < later → From later outs → From n outs
from-later n later [] more from = tt
from-later n later (o ∷ outs) more from = (omega (arith, from.0, more), from-later n later outs more from.1)

first-to : (n : ℕ) (o : OutRecord) (outs : List OutRecord) → o.connection ≡ n → From n outs → AllByRecursion (λ (p : OutRecord). o.connection ≤ p.connection) outs
first-to n o outs is from = subst (λ (k : ℕ). From k outs) (sym is) from

rise-to : (n : ℕ) (outs rest : List OutRecord) → AllTo n outs → From n rest → OutsRise rest → OutsRise (outs ++ rest)
rise-to n [] rest all from rise = rise
rise-to n (o ∷ outs) rest all from rise =
    (first-to n o (outs ++ rest) all.0 (all-append (λ (p : OutRecord). n ≤ p.connection) outs rest (from-all n outs all.1) from), rise-to n outs rest all.1 from rise)

-- ---- connection by connection

module _ (f : ℕ × SessionState → List OutRecord) (to : (e : ℕ × SessionState) → AllTo e.0 (f e)) where
  from-each : (n : ℕ) (es : Connections) → AllByRecursion (λ j. n < j) (keys es) → From n (flat_map f es)
  from-each n [] above = tt
  from-each n (e ∷ es) above =
      all-append (λ (p : OutRecord). n ≤ p.connection) (f e) (flat_map f es) (from-later n e.0 (f e) above.0 (from-all e.0 (f e) (to e))) (from-each n es above.1)

  each-rise : (es : Connections) → Rise (keys es) → OutsRise (flat_map f es)
  each-rise [] rise = tt
  each-rise (e ∷ es) rise = rise-to e.0 (f e) (flat_map f es) (to e) (from-each e.0 es rise.0) (each-rise es rise.1)

messages-to : (n : ℕ) (messages : List (List ℕ)) → AllTo n (messages_to n messages)
messages-to n [] = tt
messages-to n (message ∷ messages) = (refl, messages-to n messages)

end-to : (n : ℕ) (closed : Option Ending) → AllTo n (end_record n closed)
end-to n None = tt
end-to n (Some ending) = (refl, tt)

turn-to : (one : Turn) → AllTo one.number (turn_output one)
turn-to one =
    all-append (λ (o : OutRecord). o.connection ≡ one.number) (messages_to one.number one.answer.does.sent) (end_record one.number one.answer.does.closed)
    (messages-to one.number one.answer.does.sent) (end-to one.number one.answer.does.closed)

-- ---- records

pairs-outs : (outs : List OutRecord) → OutsRise outs → StandByConnection outs
pairs-outs [] rise = λ i j d below within. absurd (omega (arith, below, within))
pairs-outs (o ∷ outs) rise =
    AllPairs-cons (λ (a b : OutRecord). a.connection ≤ b.connection) o outs (All-from_recursion (λ (p : OutRecord). o.connection ≤ p.connection) outs rise.0) (pairs-outs outs rise.1)

turns-map : (f : ℕ × SessionState → Turn) (es : Connections) → flat_map turn_output (map f es) ≡ flat_map (λ e. turn_output (f e)) es
turns-map f [] = refl
turns-map f (e ∷ es) = ap (λ (outs : List OutRecord). turn_output (f e) ++ outs) (turns-map f es)

module _ (platform : Platform) (rise : Rise (keys platform.connections)) where
  time-order : (source : ℕ) (body : List ℕ) → StandByConnection (act platform (record { kind = kind.Time; source = source; body = body })).out
  unfolding act
  time-order source body =
      let f = simple_turn platform.roster (Moment (moment_of body)) in
      let outs = flat_map turn_output (map f platform.connections) in
      let plain : (outs ++ []) ++ [] ≡ flat_map (λ (e : ℕ × SessionState). turn_output (f e)) platform.connections =
      append-nil (outs ++ []) ∙ append-nil outs ∙ turns-map f platform.connections in
      subst StandByConnection (sym plain) (pairs-outs _ (each-rise (λ (e : ℕ × SessionState). turn_output (f e)) (λ e. turn-to (f e)) platform.connections rise))

  sent-order : (prefixes : List IpPrefix) (before now : Server) → StandByConnection (updates_sent prefixes before now platform.connections)
  sent-order prefixes before now =
      pairs-outs _ (each-rise (λ (e : ℕ × SessionState). messages_to e.0 (slot_updates prefixes before now (slot_in e.1.phase))) (λ e. messages-to e.0 (slot_updates prefixes before now (slot_in e.1.phase))) platform.connections rise)

  slice-order : (source : ℕ) (body : List ℕ) → StandByConnection (act platform (record { kind = kind.Slice; source = source; body = body })).out
  unfolding act
  slice-order source body = sent-order (slice platform body) platform.server (worked_server (slice platform body) platform)

  drain-order : (source : ℕ) (body : List ℕ) → StandBeforeLast (act platform (record { kind = kind.Drain; source = source; body = body })).out
  unfolding act
  drain-order source body =
      let done = work_on platform.server.pending platform in
      record {
        before = work_updates platform.server.pending platform;
        last = summary done.after.server done.after.updates;
        whole = refl;
        in_order = sent-order platform.server.pending platform.server (worked_server platform.server.pending platform);
      }

module _ (roster : RosterOf) (items : List FeedRecord) (rises : NumbersRise 0 items) (source : ℕ) (body : List ℕ) where
  pub run-time : StandByConnection (act (platform_after (fresh roster) items) (record { kind = kind.Time; source = source; body = body })).out
  run-time = time-order (platform_after (fresh roster) items) (run-rises roster items rises) source body

  pub run-slice : StandByConnection (act (platform_after (fresh roster) items) (record { kind = kind.Slice; source = source; body = body })).out
  run-slice = slice-order (platform_after (fresh roster) items) (run-rises roster items rises) source body

  pub run-drain : StandBeforeLast (act (platform_after (fresh roster) items) (record { kind = kind.Drain; source = source; body = body })).out
  run-drain = drain-order (platform_after (fresh roster) items) (run-rises roster items rises) source body
