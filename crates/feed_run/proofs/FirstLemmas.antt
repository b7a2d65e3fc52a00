-- The first feed, before which there is none.
use Rattle.std.proofs.Common.{◌≡◌, ℕ, List, Option, refl, subst}
use Rattle.rcp_base.specs.Feed.{FeedState, before_feeds}
use Rattle.feed_meaning.specs.WholeFeeds.{meaning_by, feed_meaning}
use Rattle.feed_format.specs.declared.status.Status.{Status}
use Rattle.feed_run.specs.NextFeeds.{meaning_after}
use Rattle.feed_run.specs.Written.{end_in}
use Rattle.feed_run.specs.Going.{ReadsSo, ReadsAfter, Answers, AnswersAfter}

pub meaning-first : (octets : List ℕ) → meaning_after before_feeds octets ≡ feed_meaning octets
unfolding meaning_by
meaning-first octets = refl

pub reads-first : (earlier : FeedState) (status : Status) (octets : List ℕ) (now : Option (List ℕ)) → earlier ≡ before_feeds → ReadsAfter earlier status octets now
    → ReadsSo end_in (λ o. (feed_meaning o).left) 0 status octets now
unfolding meaning_by
reads-first earlier status octets now is h = subst (λ (s : FeedState). ReadsAfter s status octets now) is h

pub answers-first : (earlier : FeedState) (status : Status) (octets : List ℕ) (now before after : Option (List ℕ)) → earlier ≡ before_feeds
    → AnswersAfter earlier status octets now before after → Answers status octets now before after
unfolding meaning_by
answers-first earlier status octets now before after is h = subst (λ (s : FeedState). AnswersAfter s status octets now before after) is h
