-- The lines of the summaries in the output of a feed, record by record.
use Rattle.std.proofs.Common.{◌≡◌, ℕ, List, [], ◌∷◌, ◌++◌, Option, Some, refl, sym, ap, ◌∙◌, append_assoc, append-nil}
use Rattle.std.specs.List.{flat_map}
use Rattle.std.proofs.lemmas.Grind.{flat_map-append}
use Rattle.rcp_base.specs.Feed.{FeedRecord, FeedState, OutRecord, record_octets}
use Rattle.rcp_base.specs.Roster.{RosterOf}
use Rattle.feed_meaning.specs.Platform.{Platform, fresh}
use Rattle.feed_meaning.specs.Runs.{act, platform_after, all_output}
use Rattle.feed_meaning.specs.WholeFeeds.{FeedMeaning}
use Rattle.feed_run.specs.NextFeeds.{meaning_after}
use Rattle.feed_run.specs.Going.{Acts, Finishes}
use Rattle.feed_run.specs.Whole.{IsReached}
use Rattle.feed_run.specs.declared.records.FeedRun.{FeedRun}
use Rattle.feed_run.proofs.FeedLemmas.{told_front}
use Rattle.feed_run.proofs.WholeLemmas.{octets_on, finish-out, is-feed}
use Rattle.rcp_run.proofs.HeadlineLemmas.{output-append}
use Rattle.rcp_run.specs.Trials.{summary_line, summary_lines, summaries_of}

-- before any record
pub no-lines : (roster : RosterOf) → [] ≡ summary_lines roster []
unfolding all_output
no-lines roster = refl

output_one : (platform : Platform) (item : FeedRecord) → all_output platform (item ∷ []) ≡ (act platform item).out
unfolding all_output
output_one platform item = append-nil (act platform item).out

-- one record more
pub lines-more : (roster : RosterOf) (items : List FeedRecord) (item : FeedRecord)
    → summary_lines roster (items ++ item ∷ []) ≡ summary_lines roster items ++ flat_map summary_line (act (platform_after (fresh roster) items) item).out
lines-more roster items item =
    ap (flat_map summary_line) (output-append (fresh roster) items (item ∷ []) ∙ ap (λ (outs : List OutRecord). all_output (fresh roster) items ++ outs) (output_one (platform_after (fresh roster) items) item))
    ∙ flat_map-append summary_line (all_output (fresh roster) items) (act (platform_after (fresh roster) items) item).out

pub put-more : (earlier : FeedState) (old new : FeedRun) (roster : RosterOf) (items : List FeedRecord) (octets : List ℕ) (between now : Option (List ℕ)) (outs : List OutRecord) (text later : List ℕ)
    → IsReached earlier old roster items (Some octets) between → (a : Acts old new outs between now) → text ≡ summary_lines roster items → later ≡ text ++ flat_map summary_line outs
    → later ≡ summary_lines roster (items ++ a.item ∷ [])
put-more earlier old new roster items octets between now outs text later reached a lines put =
    let acted = a.acted (platform_after (fresh roster) items) reached.seen in
    put
    ∙ ap (λ (l : List ℕ). l ++ flat_map summary_line outs) lines
    ∙ ap (λ (os : List OutRecord). summary_lines roster items ++ flat_map summary_line os) acted.1
    ∙ sym (lines-more roster items a.item)

-- the Z puts out nothing
pub put-all : (earlier : FeedState) (old new : FeedRun) (roster : RosterOf) (items : List FeedRecord) (octets : List ℕ) (between now : Option (List ℕ)) (text : List ℕ)
    → IsReached earlier old roster items (Some octets) between → Finishes old new between now → text ≡ summary_lines roster items → text ≡ summaries_of (meaning_after earlier octets)
put-all earlier old new roster items octets between now text reached z lines =
    let front = told_front (reached.octets ++ record_octets z.item) octets now (octets_on earlier old new roster items (Some octets) between now reached z.item z.given) in
    let all = is-feed earlier old new roster items (Some octets) between now reached z in
    lines
    ∙ sym (append-nil (summary_lines roster items))
    ∙ ap (λ (outs : List OutRecord). summary_lines roster items ++ flat_map summary_line outs) (sym (finish-out (platform_after (fresh roster) items) z.item.kind z.item.source z.item.body z.last))
    ∙ sym (lines-more roster items z.item)
    ∙ ap summaries_of (sym (ap (meaning_after earlier) front.2 ∙ all.meaning front.0))
