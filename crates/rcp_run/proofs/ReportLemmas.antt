-- Feeds that were read, and the reports on them.
use Rattle.std.proofs.Common.{◌≡◌, ℕ, List, ◌++◌, Option, Some, refl, sym, ap, subst, ◌∙◌, arith}
use Rattle.rcp_base.specs.IpPrefix.{IpPrefix}
use Rattle.rcp_base.specs.Feed.{FeedRecord, FeedState, before_feeds, before_next_feed, feed_of}
use Rattle.rcp_base.specs.Roster.{RosterOf}
use Rattle.feed_meaning.specs.Platform.{Platform, fresh}
use Rattle.feed_meaning.specs.Runs.{platform_after}
use Rattle.feed_meaning.specs.WholeFeeds.{FeedMeaning, FeedEnd, Finished, feed_meaning}
use Rattle.feed_format.specs.declared.status.Status.{Status}
use Rattle.feed_format.specs.declared.status.Status.TheVariants.{Done, Usage, Feed, Roster, Read, Write, NoMemory, NoPath, NetFault}
use Rattle.platform_laws.specs.Platforms.{PlatformOf, IsSeen}
use Rattle.hop_walk.specs.Hops.{Network, IsCause}
use Rattle.hop_walk.specs.Hops as hops
use Rattle.replica_law.specs.Replicas.{Replica, AreAnswers}
use Rattle.feed_run.specs.declared.records.FeedRun.{FeedRun}
use Rattle.feed_run.specs.NextFeeds.{meaning_after, end_after, left_after}
use Rattle.feed_run.specs.Statuses.{EndsSo, StopCause}
use Rattle.feed_run.specs.Going.{ReadsAfter}
use Rattle.feed_run.specs.Whole.{AreFeed, IsWhole}
use Rattle.feed_run.proofs.FeedLemmas.{told_front}
use Rattle.feed_run.proofs.AnswerLemmas.{reads_on}
use Rattle.feed_run.proofs.FirstLemmas.{meaning-first, reads-first}
use Rattle.rcp_run.specs.Commands.{state_after, second_meaning, end_of_two, report_end, report_left}
use Rattle.rcp_run.specs.Tables.{tables_text}
use Rattle.rcp_run.specs.Reports.{replica_on, LeadsTo, ReportCause, WroteReport}
use Rattle.rcp_run.specs.Making.{seen_replica, IsPathOn, IsRefusedOn, IsAgreementOf, IsMade, IsUnmade, RefusesFor, MadeCause}
use Rattle.rcp_words.specs.declared.command.Report.{Report}
use Rattle.rcp_words.specs.declared.command.Report.TheVariants as report
use Rattle.rcp_run.proofs.AskedLemmas.{network-asked, replica-asked}

-- ---- the first feed

-- the first feed of these octets was read to its Z
pub record IsFirst (octets : List ℕ) (feed : FeedRun) (now : Option (List ℕ)) : Type 0 where
  pub rest : List ℕ
  pub left : now ≡ Some rest
  pub ended : (feed_meaning octets).end ≡ Finished
  pub is_left : (feed_meaning octets).left ≡ rest
  pub state : state_after octets ≡ feed.reader
  pub platform : Platform
  pub leads : LeadsTo (feed_meaning octets) platform
  pub seen : IsSeen platform feed.platform.seen

-- what octets come to that begin with a feed
front-meaning : (earlier later : FeedState) (front : List ℕ) (roster : RosterOf) (items : List FeedRecord) → earlier ≡ before_feeds → AreFeed earlier front roster items later → (more : List ℕ)
    → feed_meaning (front ++ more) ≡ record { roster = Some roster; items = items; end = Finished; left = more }
front-meaning earlier later front roster items is h more =
    sym (meaning-first (front ++ more)) ∙ ap (λ (s : FeedState). meaning_after s (front ++ more)) (sym is) ∙ h.meaning more

front-state : (earlier later : FeedState) (front : List ℕ) (roster : RosterOf) (items : List FeedRecord) → earlier ≡ before_feeds → AreFeed earlier front roster items later → (more : List ℕ)
    → state_after (front ++ more) ≡ later
front-state earlier later front roster items is h more =
    ap (λ (s : FeedState). (feed_of (before_next_feed s) (front ++ more)).state) (sym is) ∙ h.state more

pub first-feed : (earlier : FeedState) (octets : List ℕ) (feed : FeedRun) (before now : Option (List ℕ)) → earlier ≡ before_feeds → before ≡ Some octets → IsWhole earlier feed before now
    → IsFirst octets feed now
first-feed earlier octets feed before now is told w =
    let front = told_front w.octets octets now (sym told ∙ w.given) in
    let meaning = ap feed_meaning front.2 ∙ front-meaning earlier feed.reader w.octets w.roster w.items is w.is_feed front.0 in
    record {
      rest = front.0;
      left = front.1;
      ended = ap (λ (m : FeedMeaning). m.end) meaning;
      is_left = ap (λ (m : FeedMeaning). m.left) meaning;
      state = ap state_after front.2 ∙ front-state earlier feed.reader w.octets w.roster w.items is w.is_feed front.0;
      platform = platform_after (fresh w.roster) w.items;
      leads = record {
        roster = w.roster;
        given = ap (λ (m : FeedMeaning). m.roster) meaning;
        reached = ap (λ (m : FeedMeaning). platform_after (fresh w.roster) m.items) (sym meaning);
      };
      seen = w.seen;
    }

-- ---- a path

pub path-made : (octets : List ℕ) (feed : FeedRun) (now : Option (List ℕ)) (router : ℕ) (prefix : IpPrefix) (text : List ℕ) → IsFirst octets feed now
    → IsPathOn feed.platform.seen router prefix text → IsMade (report.Path router prefix) octets text now
path-made octets feed now router prefix text f h = record {
  ended = f.ended;
  left = f.left ∙ ap Some (sym f.is_left);
  is = record {
    platform = f.platform;
    leads = f.leads;
    path = h.path;
    answer = subst (λ (net : Network). hops.IsAnswer net router h.path) (network-asked f.platform feed.platform.seen f.seen prefix) h.answer;
    line = h.line;
  };
}

pub path-unmade : (octets : List ℕ) (feed : FeedRun) (now : Option (List ℕ)) (router : ℕ) (prefix : IpPrefix) (status : Status) → IsFirst octets feed now
    → IsRefusedOn feed.platform.seen router prefix status → IsUnmade (report.Path router prefix) octets status now
path-unmade octets feed now router prefix (NoPath refused) f h = record {
  reads = record { ended = f.ended; through = λ is. absurd cc; stops = tt; cut = λ is. absurd cc };
  refused = record {
    platform = f.platform;
    leads = f.leads;
    cause = subst (λ (net : Network). IsCause net router prefix refused.why) (network-asked f.platform feed.platform.seen f.seen prefix) h;
  };
}
path-unmade octets feed now router prefix NoMemory f h = record {
  reads = record { ended = tt; through = λ is. absurd cc; stops = tt; cut = λ is. absurd cc };
  refused = tt;
}
path-unmade octets feed now router prefix Done f h = absurd cc
path-unmade octets feed now router prefix Usage f h = absurd cc
path-unmade octets feed now router prefix (Feed number why) f h = absurd cc
path-unmade octets feed now router prefix (Roster number line why) f h = absurd cc
path-unmade octets feed now router prefix Read f h = absurd cc
path-unmade octets feed now router prefix Write f h = absurd cc
path-unmade octets feed now router prefix NetFault f h = absurd cc

-- a feed that can't be read on has no path that is refused
refuses-none : (report : Report) (octets : List ℕ) (status : Status) (a b : ℕ) → StopCause status a b → RefusesFor report octets status
refuses-none report octets (NoPath refused) a b cause = absurd cause
refuses-none report octets Done a b cause = tt
refuses-none report octets Usage a b cause = tt
refuses-none report octets (Feed number why) a b cause = tt
refuses-none report octets (Roster number line why) a b cause = tt
refuses-none report octets Read a b cause = tt
refuses-none report octets Write a b cause = tt
refuses-none report octets NoMemory a b cause = tt
refuses-none report octets NetFault a b cause = tt

-- a report on one feed, which can't be read on
pub path-unread : (earlier : FeedState) (octets : List ℕ) (now : Option (List ℕ)) (router : ℕ) (prefix : IpPrefix) (status : Status) (a b : ℕ) → earlier ≡ before_feeds → StopCause status a b
    → ReadsAfter earlier status octets now → IsUnmade (report.Path router prefix) octets status now
path-unread earlier octets now router prefix status a b is cause h = record {
  reads = reads-first earlier status octets now is h;
  refused = refuses-none (report.Path router prefix) octets status a b cause;
}

-- ---- tables

pub tables-made : (octets : List ℕ) (feed : FeedRun) (now : Option (List ℕ)) (text : List ℕ) → IsFirst octets feed now
    → ((platform : Platform) → IsSeen platform feed.platform.seen → text ≡ tables_text platform) → IsMade report.Tables octets text now
tables-made octets feed now text f h = record {
  ended = f.ended;
  left = f.left ∙ ap Some (sym f.is_left);
  is = record { platform = f.platform; leads = f.leads; tables = h f.platform f.seen };
}

pub tables-unread : (earlier : FeedState) (octets : List ℕ) (now : Option (List ℕ)) (status : Status) (a b : ℕ) → earlier ≡ before_feeds → StopCause status a b
    → ReadsAfter earlier status octets now → IsUnmade report.Tables octets status now
tables-unread earlier octets now status a b is cause h = record {
  reads = reads-first earlier status octets now is h;
  refused = refuses-none report.Tables octets status a b cause;
}

-- ---- want of memory

pub memory-unmade : (report : Report) (octets : List ℕ) (now : Option (List ℕ)) → IsUnmade report octets NoMemory now
memory-unmade report octets now = record {
  reads = record { ended = tt; through = λ is. absurd cc; stops = tt; cut = λ is. absurd cc };
  refused = tt;
}

-- ---- two feeds

second-is : (octets rest : List ℕ) (state : FeedState) → state_after octets ≡ state → (feed_meaning octets).left ≡ rest → second_meaning octets ≡ meaning_after state rest
second-is octets rest state is left = λ i. meaning_after (is i) (left i)

pub agreement-made : (octets : List ℕ) (first second : FeedRun) (between now : Option (List ℕ)) (text : List ℕ) → IsFirst octets first between → IsWhole first.reader second between now
    → IsAgreementOf first.platform.seen second.platform.seen text → IsMade report.Agree octets text now
agreement-made octets first second between now text f w h =
    let front = told_front w.octets f.rest now (sym f.left ∙ w.given) in
    let meaning = second-is octets f.rest first.reader f.state f.is_left ∙ ap (meaning_after first.reader) front.2 ∙ w.is_feed.meaning front.0 in
    let other = platform_after (fresh w.roster) w.items in
    record {
      ended = ap (λ (e : FeedEnd). end_of_two e (second_meaning octets).end) f.ended ∙ ap (λ (m : FeedMeaning). m.end) meaning;
      left = front.1 ∙ ap (λ (m : FeedMeaning). Some m.left) (sym meaning);
      is = record {
        first = f.platform;
        first_leads = f.leads;
        second = other;
        second_leads = record {
          roster = w.roster;
          given = ap (λ (m : FeedMeaning). m.roster) meaning;
          reached = ap (λ (m : FeedMeaning). platform_after (fresh w.roster) m.items) (sym meaning);
        };
        answers = h.answers;
        are_answers =
            let one = replica-asked f.platform first.platform.seen f.seen in
            let two = replica-asked (platform_after (fresh w.roster) w.items) second.platform.seen w.seen in
            subst (λ (r : Replica). AreAnswers (replica_on f.platform) r h.answers) two (subst (λ (r : Replica). AreAnswers r (seen_replica second.platform.seen) h.answers) one h.are_answers);
        lines = h.lines;
      };
    }

-- the first of two can't be read on
ended_of_two : (status : Status) (end second : FeedEnd) (a b : ℕ) → StopCause status a b → EndsSo status end → EndsSo status (end_of_two end second)
ended_of_two (Feed number why) end second a b cause h = ap (λ (e : FeedEnd). end_of_two e second) h
ended_of_two (Roster number line why) end second a b cause h = ap (λ (e : FeedEnd). end_of_two e second) h
ended_of_two Read end second a b cause h = tt
ended_of_two NoMemory end second a b cause h = tt
ended_of_two Done end second a b cause h = absurd cause
ended_of_two Usage end second a b cause h = absurd cause
ended_of_two Write end second a b cause h = absurd cause
ended_of_two (NoPath refused) end second a b cause h = absurd cause
ended_of_two NetFault end second a b cause h = absurd cause

through_none : (status : Status) (P : Type 0) (a b : ℕ) → StopCause status a b → status ≡ Done → P
through_none status P a b cause is = absurd (subst (λ (s : Status). StopCause s a b) is cause)

pub first-unread : (earlier : FeedState) (octets : List ℕ) (now : Option (List ℕ)) (status : Status) (a b : ℕ) → earlier ≡ before_feeds → StopCause status a b
    → ReadsAfter earlier status octets now → IsUnmade report.Agree octets status now
first-unread earlier octets now status a b is cause h =
    let r = reads-first earlier status octets now is h in
    record {
      reads = record {
        ended = ended_of_two status (feed_meaning octets).end (second_meaning octets).end a b cause r.ended;
        through = λ done. through_none status _ a b cause done;
        stops = r.stops;
        cut = λ read. let c = r.cut read in record {
          taken = c.taken;
          takes = c.takes;
          number = c.number;
          cut = ap (λ (e : FeedEnd). end_of_two e (second_meaning c.taken).end) c.cut;
        };
      };
      refused = refuses-none report.Agree octets status a b cause;
    }

-- the second can't
pub second-unread : (earlier : FeedState) (octets : List ℕ) (first : FeedRun) (before between now : Option (List ℕ)) (status : Status) (a b : ℕ) → earlier ≡ before_feeds → before ≡ Some octets
    → IsWhole earlier first before between → StopCause status a b → ((rest : List ℕ) → between ≡ Some rest → ReadsAfter first.reader status rest now)
    → IsUnmade report.Agree octets status now
second-unread earlier octets first before between now status a b is told w cause h =
    let front = told_front w.octets octets between (sym told ∙ w.given) in
    let number : earlier.number ≡ 0 = ap (λ (s : FeedState). s.number) is in
    let ended = λ (more : List ℕ). front-meaning earlier first.reader w.octets w.roster w.items is w.is_feed more in
    let second = λ (more : List ℕ). second-is (w.octets ++ more) more first.reader (front-state earlier first.reader w.octets w.roster w.items is w.is_feed more) (ap (λ (m : FeedMeaning). m.left) (ended more)) in
    record {
      reads = reads_on (report_end report.Agree) (end_after first.reader) (report_left report.Agree) (left_after first.reader)
          w.is_feed.records w.is_feed.form w.octets w.is_feed.parts 0 first.reader.number (omega (arith, w.is_feed.count, number))
          (λ more. ap (λ (m : FeedMeaning). end_of_two m.end (second_meaning (w.octets ++ more)).end) (ended more) ∙ ap (λ (m : FeedMeaning). m.end) (second more))
          (λ more. ap (λ (m : FeedMeaning). m.left) (second more))
          octets front.0 front.2 status now (h front.0 front.1);
      refused = refuses-none report.Agree octets status a b cause;
    }

-- ---- what is written where there is no text

pub made-cause : (report : Report) (status : Status) (a b : ℕ) → StopCause status a b → MadeCause report status a b
made-cause report (Feed number why) a b cause = tt
made-cause report (Roster number line why) a b cause = tt
made-cause report Read a b cause = cause
made-cause report NoMemory a b cause = tt
made-cause report Done a b cause = absurd cause
made-cause report Usage a b cause = absurd cause
made-cause report Write a b cause = absurd cause
made-cause report (NoPath refused) a b cause = absurd cause
made-cause report NetFault a b cause = absurd cause

-- a path that is refused
pub refused-cause : (seen : PlatformOf) (router : ℕ) (prefix : IpPrefix) (status : Status) (a b : ℕ) → IsRefusedOn seen router prefix status → MadeCause (report.Path router prefix) status a b
refused-cause seen router prefix (NoPath refused) a b h = tt
refused-cause seen router prefix NoMemory a b h = tt
refused-cause seen router prefix Done a b h = absurd cc
refused-cause seen router prefix Usage a b h = absurd cc
refused-cause seen router prefix (Feed number why) a b h = absurd cc
refused-cause seen router prefix (Roster number line why) a b h = absurd cc
refused-cause seen router prefix Read a b h = absurd cc
refused-cause seen router prefix Write a b h = absurd cc
refused-cause seen router prefix NetFault a b h = absurd cc

pub unmade-cause : (report : Report) (status : Status) (a b c d : ℕ) → MadeCause report status a b → ReportCause report status a b c d
unmade-cause report (Feed number why) a b c d cause = tt
unmade-cause report (Roster number line why) a b c d cause = tt
unmade-cause report Read a b c d cause = cause
unmade-cause report NoMemory a b c d cause = tt
unmade-cause report Done a b c d cause = absurd cause
unmade-cause report Usage a b c d cause = absurd cause
unmade-cause report Write a b c d cause = absurd cause
unmade-cause report.Tables (NoPath refused) a b c d cause = absurd cause
unmade-cause report.Agree (NoPath refused) a b c d cause = absurd cause
unmade-cause (report.Path router prefix) (NoPath refused) a b c d cause = tt
unmade-cause report NetFault a b c d cause = absurd cause

pub unmade-wrote : (report : Report) (octets : List ℕ) (status : Status) (now taken : Option (List ℕ)) (a b : ℕ) → MadeCause report status a b → IsUnmade report octets status now
    → WroteReport report octets status taken taken
unmade-wrote report octets (NoPath refused) now taken a b cause h = (h.refused, refl)
unmade-wrote report octets (Feed number why) now taken a b cause h = refl
unmade-wrote report octets (Roster number line why) now taken a b cause h = refl
unmade-wrote report octets Read now taken a b cause h = refl
unmade-wrote report octets NoMemory now taken a b cause h = refl
unmade-wrote report octets Done now taken a b cause h = absurd cause
unmade-wrote report octets Usage now taken a b cause h = refl
unmade-wrote report octets Write now taken a b cause h = absurd cause
unmade-wrote report octets NetFault now taken a b cause h = refl
