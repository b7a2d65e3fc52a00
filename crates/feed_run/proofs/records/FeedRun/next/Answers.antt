use Rattle.std.proofs.Common.{◌≡◌, ℕ, ◌+◌, ◌<◌, ◌≤◌, false, List, Option, None, Err, refl, sym, ap, ◌∙◌, subst, arith, if◌then◌else◌}
use Rattle.std.specs.Prelude.{IfSome}
use Rattle.std.specs.List.{AllByRecursion}
use Rattle.rcp_base.specs.Feed.{FeedState, FeedRecord, IsRecord, fault_of, is_finish, is_time, moment_of, after}
use Rattle.rcp_base.specs.Roster.{RosterOf}
use Rattle.feed_meaning.specs.Platform.{Connections}
use Rattle.feed_meaning.specs.Runs.{act}
use Rattle.feed_meaning.specs.WholeFeeds.{roster_fault}
use Rattle.feed_format.specs.Reading.{Refuses, TakesLess, TakesPart, WantsMemory}
use Rattle.feed_format.proofs.AgainLemmas.{lawful_length, lawful_parts}
use Rattle.feed_run.specs.Going.{HasCounts}
use Rattle.feed_run.proofs.FeedLemmas.{new_number, no_earlier}
use Rattle.feed_run.proofs.NumberLemmas.{act-numbers, act-moment, all_below}
use Rattle.feed_run.proofs.StepLemmas.{refuses-ends, faulty-ends, finish-ends, memory-ends}
use Rattle.feed_run.proofs.records.FeedRun.next.Goals as goal

pub returns-in-Err-clause-ends : goal.returns-in-Err-clause-ends
returns-in-Err-clause-ends g c = λ platform octets taken seen told.
    let state = c.args.self.now.reader in
    let now = g.S.Source.left c.next.new.source in
    rw c.status_of.ensures (refuses-ends platform state c.in-Err.refused octets now taken
    (subst (λ (o : Option (List ℕ)). IfSome o (λ octets. Refuses state octets c.in-Err.refused)) told c.in-Err.ensures.told)
    (subst (λ (o : Option (List ℕ)). TakesPart o now) told c.in-Err.ensures.part)
    (λ is. subst (λ (o : Option (List ℕ)). TakesLess state o now) told (c.in-Err.ensures.less (ap Err is)))
    (λ is. subst (λ (o : Option (List ℕ)). WantsMemory state o now) told (c.in-Err.ensures.no_memory (ap Err is))))

-- one record more
counts_after : (state : FeedState) (item : FeedRecord) → IsRecord item → fault_of state item ≡ None → HasCounts state → (next : FeedState) → next ≡ after state item → HasCounts next
counts_after state item form valid h next noted =
    let few = (lawful_parts state item valid).few in
    record {
      least = omega (arith, ap (λ (s : FeedState). s.number) noted, ap (λ (s : FeedState). s.octets) noted, h.least);
      most = omega (arith, ap (λ (s : FeedState). s.octets) noted, form.length, few);
    }

pub overflow_add-self : goal.overflow_add-self
overflow_add-self g c = let few = (lawful_parts c.args.self.now.reader c.in-Ok.item c.in-Ok.ensures.«record».1).few in omega (arith, few, c.requires.counts.least, c.requires.number)

pub check-requires : goal.check-requires
check-requires g c = lawful_length c.args.self.now.reader c.in-Ok.item c.in-Ok.ensures.«record».1

pub returns-in-Some-clause-ends : goal.returns-in-Some-clause-ends
returns-in-Some-clause-ends g c = λ platform octets taken seen told.
    faulty-ends platform c.args.self.now.reader octets c.in-Ok.item _ _ told c.in-Ok.ensures.octets c.in-Ok.ensures.«record».0 c.in-Ok.ensures.«record».1
    (c.args.self.now.number + 1) c.in-Some.why taken (ap (λ (n : ℕ). n + 1) c.requires.number)
    (sym (c.in-Some.ensures ∙ ap (λ (r : RosterOf). roster_fault r c.in-Ok.item) seen.roster))

pub returns-then-is_finish-clause-done : goal.returns-then-is_finish-clause-done
returns-then-is_finish-clause-done g c = λ platform octets taken seen told.
    finish-ends platform c.args.self.now.reader octets c.in-Ok.item _ _ told c.in-Ok.ensures.octets c.in-Ok.ensures.«record».0 c.in-Ok.ensures.«record».1
    (sym (c.in_default.ensures ∙ ap (λ (r : RosterOf). roster_fault r c.in-Ok.item) seen.roster))
    taken (ap (λ (r : FeedRecord). is_finish r.kind) (sym c.item.view_is) ∙ sym c.is_finish.ensures ∙ c.if-is_finish.true)

pub act_on-requires-clause-body : goal.act_on-requires-clause-body
act_on-requires-clause-body g c = λ lifetimes met. lawful_length c.args.self.now.reader c.in-Ok.item c.in-Ok.ensures.«record».1

pub act_on-requires-clause-number : goal.act_on-requires-clause-number
act_on-requires-clause-number g c = λ lifetimes met is.
    let state = c.args.self.now.reader in
    subst (λ (sessions : Connections). AllByRecursion (λ entry. entry.0 < c.in-Ok.item.source) sessions) (sym c.requires.seen.sessions)
    (all_below state.last c.in-Ok.item.source c.requires.defined.connections (new_number state c.in-Ok.item (lawful_parts state c.in-Ok.item c.in-Ok.ensures.«record».1).body is) c.requires.connections)

pub act_on-requires-clause-time : goal.act_on-requires-clause-time
act_on-requires-clause-time g c = λ lifetimes met is.
    let state = c.args.self.now.reader in
    let later = no_earlier state c.in-Ok.item (lawful_parts state c.in-Ok.item c.in-Ok.ensures.«record».1).body is in
    omega (arith, later, c.requires.seen.time, c.requires.time)

pub returns-in-Ok-act_on-clause-going : goal.returns-in-Ok-act_on-clause-going
returns-in-Ok-act_on-clause-going g c =
    let state = c.args.self.now.reader in
    let item = c.in-Ok.item in
    let noted = c.in-Ok.ensures.after in
    let platform = c.requires.defined in
    let further : is_finish c.in-Ok.item.kind ≡ false = ap (λ (r : FeedRecord). is_finish r.kind) (sym c.item.view_is) ∙ sym c.is_finish.ensures ∙ c.if-is_finish.false in
    record {
      defined = (act platform item).after;
      seen = c.in-Ok-act_on.ensures.after platform c.requires.seen;
      number = ap (λ (n : ℕ). n + 1) c.requires.number ∙ ap (λ (s : FeedState). s.number) (sym noted);
      counts = counts_after state item c.in-Ok.ensures.«record».0 c.in-Ok.ensures.«record».1 c.requires.counts _ noted;
      unfinished = ap (λ (s : FeedState). s.closed) noted ∙ further;
      connections = subst (λ (s : FeedState). AllByRecursion (λ entry. entry.0 ≤ s.last) (act platform item).after.connections) (sym noted)
          (act-numbers state.last platform item (new_number state item (lawful_parts state item c.in-Ok.ensures.«record».1).body) c.requires.connections);
      time = act-moment platform item ∙ (λ i. if is_time item.kind then moment_of item.body else c.requires.time i) ∙ ap (λ (s : FeedState). s.moment) (sym noted);
    }

pub returns-clause-ends : goal.returns-clause-ends
returns-clause-ends g c = λ platform octets taken seen told.
    memory-ends platform c.args.self.now.reader octets c.in-Ok.item _ _ told c.in-Ok.ensures.octets c.in-Ok.ensures.«record».0 c.in-Ok.ensures.«record».1
    (sym (c.in_default.ensures ∙ ap (λ (r : RosterOf). roster_fault r c.in-Ok.item) seen.roster))
    (ap (λ (r : FeedRecord). is_finish r.kind) (sym c.item.view_is) ∙ sym c.is_finish.ensures ∙ c.if-is_finish.false) taken

pub returns-then-is_finish-clause-finishes : goal.returns-then-is_finish-clause-finishes
returns-then-is_finish-clause-finishes g c = record {
  item = c.in-Ok.item;
  given = c.in-Ok.ensures.octets;
  form = c.in-Ok.ensures.«record».0;
  valid = c.in-Ok.ensures.«record».1;
  last = ap (λ (r : FeedRecord). is_finish r.kind) (sym c.item.view_is) ∙ sym c.is_finish.ensures ∙ c.if-is_finish.true;
  noted = c.in-Ok.ensures.after;
  same = refl;
}

pub returns-then-is_finish-clause-counts : goal.returns-then-is_finish-clause-counts
returns-then-is_finish-clause-counts g c = (
  counts_after c.args.self.now.reader c.in-Ok.item c.in-Ok.ensures.«record».0 c.in-Ok.ensures.«record».1 c.requires.counts _ c.in-Ok.ensures.after,
  ap (λ (n : ℕ). n + 1) c.requires.number ∙ ap (λ (s : FeedState). s.number) (sym c.in-Ok.ensures.after),
)

pub returns-in-Ok-act_on-clause-counts : goal.returns-in-Ok-act_on-clause-counts
returns-in-Ok-act_on-clause-counts g c = (
  counts_after c.args.self.now.reader c.in-Ok.item c.in-Ok.ensures.«record».0 c.in-Ok.ensures.«record».1 c.requires.counts _ c.in-Ok.ensures.after,
  ap (λ (n : ℕ). n + 1) c.requires.number ∙ ap (λ (s : FeedState). s.number) (sym c.in-Ok.ensures.after),
)
