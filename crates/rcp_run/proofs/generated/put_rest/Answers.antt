use Rattle.std.proofs.Common.{[], ◌∷◌, ◌++◌, Some, List, ap, ◌∙◌}
use Rattle.std.specs.List.{flat_map}
use Rattle.rcp_base.specs.Feed.{OutRecord}
use Rattle.feed_run.specs.Going.{Acts, Finishes}
use Rattle.feed_run.proofs.WholeLemmas.{reached-more}
use Rattle.rcp_run.specs.Trials.{summary_line}
use Rattle.rcp_run.proofs.SummaryLemmas.{put-more, put-all}
use Rattle.rcp_run.proofs.generated.put_rest.Goals as goal

pub records-preserved : goal.records-preserved
records-preserved g c =
    let inv = c.records.invariant in
    let between = g.S.Source.left c.records.source in
    let now = g.S.Source.left c.next.new.source in
    let acts : Acts c.records.run c.next.new.self c.in-Ok-Some.outs.items (g.S.Source.left c.records.source) (g.S.Source.left c.next.new.source) = rw c.in-Ok-Some.field-0-is at c.in-Ok-Some.ensures.acts in
    record {
      going = rw c.in-Ok-Some.field-0-is at c.in-Ok-Some.ensures.going;
      reached = λ earlier roster items octets h lines.
          let on = inv.reached earlier roster items octets h lines in (
            on.0 ++ acts.item ∷ [],
            reached-more earlier c.records.run c.next.new.self roster on.0 (Some octets) between now on.1 c.in-Ok-Some.outs.items acts,
            put-more earlier c.records.run c.next.new.self roster on.0 octets between now c.in-Ok-Some.outs.items c.records.text.items c.put_summaries.new.text.items on.1 acts on.2
                (c.in_ok-put_summaries-in-Ok-Some.ensures ∙ ap (λ (outs : List OutRecord). c.records.text.items ++ flat_map summary_line outs) c.deref.ensures.value),
          );
    }

pub returns-in-Ok-None : goal.returns-in-Ok-None
returns-in-Ok-None g c = λ earlier roster items octets h lines.
    let z : Finishes c.records.run c.next.new.self (g.S.Source.left c.records.source) (g.S.Source.left c.next.new.source) = rw c.in-Ok-None.field-0-is at c.in-Ok-None.ensures.finishes in
    let on = c.records.invariant.reached earlier roster items octets h lines in
    put-all earlier c.records.run c.next.new.self roster on.0 octets (g.S.Source.left c.records.source) (g.S.Source.left c.next.new.source) c.records.text.items on.1 z on.2
