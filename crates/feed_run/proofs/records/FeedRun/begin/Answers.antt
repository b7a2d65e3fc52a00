use Rattle.std.proofs.Common.{◌≡◌, ℕ, ◌+◌, List, Option, Some, None, Err, sym, ap, ◌∙◌, subst, arith}
use Rattle.std.specs.Prelude.{IfSome, ◌≤◌}
use Rattle.rcp_base.specs.Feed.{FeedState, FeedRecord, before_next_feed, fault_of, after}
use Rattle.rcp_base.specs.Roster.{RosterOf, roster_of}
use Rattle.roster.specs.Rosters.{Reads}
use Rattle.platform_laws.specs.Platforms.{IsSeen}
use Rattle.std.proofs.Common.{false}
use Rattle.platform_laws.specs.Records.{new_platform}
use Rattle.platform_core.specs.States.{StateOf}
use Rattle.platform_laws.proofs.RecordSteps.{seen-fresh}
use Rattle.feed_meaning.specs.Platform.{fresh}
use Rattle.feed_format.specs.Reading.{Refuses, TakesLess, TakesPart, WantsMemory}
use Rattle.feed_format.proofs.AgainLemmas.{lawful_parts}
use Rattle.feed_run.specs.Going.{AnswersFrom}
use Rattle.feed_run.proofs.BeginLemmas.{first-refused, roster-refused, no_memory-ends, begins-from, noted_first}
use Rattle.feed_run.proofs.records.FeedRun.begin.Goals as goal

pub returns-in-Err-clause-ends : goal.returns-in-Err-clause-ends
returns-in-Err-clause-ends g c = λ octets taken told.
    let first = c.restart.new.self in
    let now = g.S.Source.left c.next.new.source in
    rw c.status_of.ensures (first-refused c.args.reader c.in-Err.refused octets now taken
    (subst (λ (s : FeedState). Refuses s octets c.in-Err.refused) c.restart.ensures (subst (λ (o : Option (List ℕ)). IfSome o (λ octets. Refuses first octets c.in-Err.refused)) told c.in-Err.ensures.told))
    (subst (λ (o : Option (List ℕ)). TakesPart o now) told c.in-Err.ensures.part)
    (λ is. subst (λ (s : FeedState). TakesLess s (Some octets) now) c.restart.ensures (subst (λ (o : Option (List ℕ)). TakesLess first o now) told (c.in-Err.ensures.less (ap Err is))))
    (λ is. subst (λ (s : FeedState). WantsMemory s (Some octets) now) c.restart.ensures (subst (λ (o : Option (List ℕ)). WantsMemory first o now) told (c.in-Err.ensures.no_memory (ap Err is)))))

pub returns-in-Err-read-clause-ends : goal.returns-in-Err-read-clause-ends
returns-in-Err-read-clause-ends g c = λ octets taken told.
    let body_is : c.first.inside.body.items ≡ c.in-Ok.first.body = ap (λ (r : FeedRecord). r.body) c.first.view_is in
    let valid = subst (λ (s : FeedState). fault_of s c.in-Ok.first ≡ None) c.restart.ensures c.in-Ok.ensures.«record».1 in
    rw (c.status_of_roster.ensures, ap (λ (n : ℕ). n + 1) c.requires.number) (roster-refused c.args.reader octets c.in-Ok.first _ _ told c.in-Ok.ensures.octets c.in-Ok.ensures.«record».0 valid c.in-Err-read.refused taken
    (subst (λ (text : List ℕ). Reads text (Err c.in-Err-read.refused)) (c.deref.ensures.value ∙ body_is) c.in-Err-read.ensures))

-- the platform of the roster to which nothing happened
new_seen : (roster : RosterOf) (platform : StateOf) → platform ≡ record { seen = new_platform roster; spent = false } → 1 ≤ roster.shards → IsSeen (fresh roster) platform.seen
new_seen roster platform is some = subst (λ (p : StateOf). IsSeen (fresh roster) p.seen) (sym is) (seen-fresh roster some)

pub returns-in-Ok-new-clause-going : goal.returns-in-Ok-new-clause-going
returns-in-Ok-new-clause-going g c =
    let valid = subst (λ (s : FeedState). fault_of s c.in-Ok.first ≡ None) c.restart.ensures c.in-Ok.ensures.«record».1 in
    let noted : c.next.new.self ≡ after (before_next_feed c.args.reader) c.in-Ok.first = c.in-Ok.ensures.after ∙ ap (λ (s : FeedState). after s c.in-Ok.first) c.restart.ensures in
    let first = noted_first c.args.reader c.in-Ok.first valid in
    record {
      defined = fresh c.in-Ok-read.roster;
      seen = new_seen c.in-Ok-read.roster c.in-Ok-new.platform c.in-Ok-new.ensures (omega (arith, c.shards.ensures.value, c.shards.ensures.within.least));
      number = ap (λ (n : ℕ). n + 1) c.requires.number ∙ ap (λ (s : FeedState). s.number) (sym noted);
      counts = record {
        least = omega (arith, ap (λ (s : FeedState). s.number) noted, ap (λ (s : FeedState). s.octets) noted, c.requires.counts.least);
        most = let few = (lawful_parts (before_next_feed c.args.reader) c.in-Ok.first valid).few in omega (arith, ap (λ (s : FeedState). s.octets) noted, c.in-Ok.ensures.«record».0.length, few);
      };
      unfinished = ap (λ (s : FeedState). s.closed) noted ∙ first.0;
      connections = tt;
      time = first.1 ∙ ap (λ (s : FeedState). s.moment) (sym noted);
    }

pub returns-in-Ok-new-clause-opened : goal.returns-in-Ok-new-clause-opened
returns-in-Ok-new-clause-opened g c =
    let body_is : c.first.inside.body.items ≡ c.in-Ok.first.body = ap (λ (r : FeedRecord). r.body) c.first.view_is in
    let valid = subst (λ (s : FeedState). fault_of s c.in-Ok.first ≡ None) c.restart.ensures c.in-Ok.ensures.«record».1 in
    let noted : c.next.new.self ≡ after (before_next_feed c.args.reader) c.in-Ok.first = c.in-Ok.ensures.after ∙ ap (λ (s : FeedState). after s c.in-Ok.first) c.restart.ensures in
    record {
      first = c.in-Ok.first;
      given = c.in-Ok.ensures.octets;
      form = c.in-Ok.ensures.«record».0;
      valid = valid;
      noted = noted;
      roster = c.in-Ok-read.roster;
      is_read = ap roster_of (sym (c.deref.ensures.value ∙ body_is)) ∙ c.in-Ok-read.ensures;
      seen = new_seen c.in-Ok-read.roster c.in-Ok-new.platform c.in-Ok-new.ensures (omega (arith, c.shards.ensures.value, c.shards.ensures.within.least));
      begins = λ octets told.
          let on = begins-from c.args.reader octets c.in-Ok.first _ _ told c.in-Ok.ensures.octets c.in-Ok.ensures.«record».0 valid c.in-Ok-read.roster (ap roster_of (sym (c.deref.ensures.value ∙ body_is)) ∙ c.in-Ok-read.ensures) in
          record {
            rest = on.0;
            left = on.1;
            answers = λ status later before final h. on.2 status later before final (subst (λ (s : FeedState). AnswersFrom (fresh c.in-Ok-read.roster) s status on.0 later before final) noted h);
          };
    }

pub returns-in-Err-new-clause-ends : goal.returns-in-Err-new-clause-ends
returns-in-Err-new-clause-ends g c = λ octets taken told.
    let valid = subst (λ (s : FeedState). fault_of s c.in-Ok.first ≡ None) c.restart.ensures c.in-Ok.ensures.«record».1 in
    no_memory-ends c.args.reader octets c.in-Ok.first _ _ told c.in-Ok.ensures.octets c.in-Ok.ensures.«record».0 valid taken
