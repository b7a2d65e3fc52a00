use Rattle.std.proofs.Common.{[], ◌∷◌, ◌++◌, Some, refl, arith}
use Rattle.feed_meaning.specs.Platform.{fresh}
use Rattle.feed_meaning.specs.Runs.{platform_after}
use Rattle.feed_run.specs.Going.{Acts, Finishes}
use Rattle.feed_run.proofs.WholeLemmas.{reached-more, reads-reached, roster-after, whole-feed}
use Rattle.feed_run.proofs.whole.read_rest.Goals as goal

pub records-preserved-in-Ok-Some : goal.records-preserved-in-Ok-Some
records-preserved-in-Ok-Some g c =
    let inv = c.records.invariant in
    let acts : Acts c.records.feed c.next.new.self c.in-Ok-Some.field-0-0.items (g.S.Source.left c.records.source) (g.S.Source.left c.next.new.source) = rw c.in-Ok-Some.field-0-is at c.in-Ok-Some.ensures.acts in
    record {
      going = rw c.in-Ok-Some.field-0-is at c.in-Ok-Some.ensures.going;
      reached = λ earlier roster items before h.
          let on = inv.reached earlier roster items before h in
          (on.0 ++ acts.item ∷ [], reached-more earlier c.records.feed c.next.new.self roster on.0 before (g.S.Source.left c.records.source) (g.S.Source.left c.next.new.source) on.1 _ acts);
      never_falls = omega (arith, inv.never_falls, c.in-Ok-Some.ensures.never_falls);
    }

pub records-smaller-in-Ok-Some : goal.records-smaller-in-Ok-Some
records-smaller-in-Ok-Some g c =
    let further = rw c.in-Ok-Some.field-0-is at c.in-Ok-Some.ensures.further in
    let going = rw c.in-Ok-Some.field-0-is at c.in-Ok-Some.ensures.going in
    omega (arith, further, going.counts.most)

pub returns-in-Ok-None-clause-whole : goal.returns-in-Ok-None-clause-whole
returns-in-Ok-None-clause-whole g c = λ earlier roster items before h.
    let z : Finishes c.records.feed c.next.new.self (g.S.Source.left c.records.source) (g.S.Source.left c.next.new.source) = rw c.in-Ok-None.field-0-is at c.in-Ok-None.ensures.finishes in
    let on = c.records.invariant.reached earlier roster items before h in
    whole-feed earlier c.records.feed c.next.new.self roster on.0 before (g.S.Source.left c.records.source) (g.S.Source.left c.next.new.source) on.1 z

pub returns-in-Err-clause-ends : goal.returns-in-Err-clause-ends
returns-in-Err-clause-ends g c = λ earlier roster items octets h.
    let reached = c.records.invariant.reached earlier roster items (Some octets) h in
    let on = reads-reached earlier c.records.feed roster reached.0 (Some octets) (g.S.Source.left c.records.source) reached.1 octets refl in
    let platform = platform_after (fresh roster) reached.0 in
    on.2 platform c.in-Err.status _ (roster-after (fresh roster) reached.0) (c.in-Err.ensures.ends platform on.0 (Some []) reached.1.seen on.1).reads
