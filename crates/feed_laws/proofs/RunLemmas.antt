-- Runs of records, one after another.
use Rattle.std.proofs.Common.{◌≡◌, List, [], ◌∷◌, ◌++◌, refl, sym, ap, ◌∙◌, append_assoc}
use Rattle.rcp_base.specs.Feed.{FeedRecord, OutRecord}
use Rattle.feed_meaning.specs.Platform.{Platform, Acted}
use Rattle.feed_meaning.specs.Runs.{act, platform_after, all_output}
use Rattle.feed_laws.specs.Cuts.{run_of}

pub after_append : (platform : Platform) (items more : List FeedRecord) → platform_after platform (items ++ more) ≡ platform_after (platform_after platform items) more
unfolding platform_after
after_append platform [] more = refl
after_append platform (item ∷ items) more = after_append (act platform item).after items more

pub output_append : (platform : Platform) (items more : List FeedRecord)
    → all_output platform (items ++ more) ≡ all_output platform items ++ all_output (platform_after platform items) more
unfolding platform_after all_output
output_append platform [] more = refl
output_append platform (item ∷ items) more =
    ap (λ (outs : List OutRecord). (act platform item).out ++ outs) (output_append (act platform item).after items more)
    ∙ sym (append_assoc (act platform item).out (all_output (act platform item).after items) (all_output (platform_after (act platform item).after items) more))

-- what is done first, and then what is done next
abbrev pub joined : Acted → Acted → Acted
joined first second = record { after = second.after; out = first.out ++ second.out }

pub run_append : (platform : Platform) (items more : List FeedRecord) → run_of platform (items ++ more) ≡ joined (run_of platform items) (run_of (platform_after platform items) more)
run_append platform items more = rw (after_append platform items more, output_append platform items more) refl

pub run_cons : (platform : Platform) (item : FeedRecord) (items : List FeedRecord) → run_of platform (item ∷ items) ≡ joined (act platform item) (run_of (act platform item).after items)
unfolding platform_after all_output
run_cons platform item items = refl

pub run_nil : (platform : Platform) → run_of platform [] ≡ record { after = platform; out = [] }
unfolding platform_after all_output
run_nil platform = refl

-- records that come to the same may stand for each other within a run
pub run_within : (platform : Platform) (before first second later : List FeedRecord)
    → ((now : Platform) → run_of now first ≡ run_of now second) → run_of platform (before ++ (first ++ later)) ≡ run_of platform (before ++ (second ++ later))
run_within platform before first second later same =
    let now = platform_after platform before in
    run_append platform before (first ++ later)
    ∙ ap (joined (run_of platform before))
    (run_append now first later
    ∙ ap (λ (acted : Acted). joined acted (run_of acted.after later)) (same now)
    ∙ sym (run_append now second later))
    ∙ sym (run_append platform before (second ++ later))
