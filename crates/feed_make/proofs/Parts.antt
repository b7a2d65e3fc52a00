-- The octets of a feed, part by part.
use Rattle.std.proofs.Common.{◌≡◌, List, ℕ, ◌∷◌, ◌++◌, ap, ◌∙◌}
use Rattle.std.specs.List.{flat_map}
use Rattle.std.proofs.lemmas.Grind.{flat_map-append}
use Rattle.rcp_base.specs.Feed.{FeedRecord, record_octets}
use Rattle.feed_make.specs.Feeds.{octets_of}

pub octets-append : (items more : List FeedRecord) → octets_of (items ++ more) ≡ octets_of items ++ octets_of more
octets-append items more = flat_map-append record_octets items more

then : (items more : List FeedRecord) (octets : List ℕ) → octets_of more ≡ octets → octets_of (items ++ more) ≡ octets_of items ++ octets
then items more octets is = octets-append items more ∙ ap (λ (xs : List ℕ). octets_of items ++ xs) is

pub seven_parts : (first : FeedRecord) (a b c d e f : List FeedRecord)
    → octets_of (first ∷ (a ++ (b ++ (c ++ (d ++ (e ++ f))))))
    ≡ record_octets first ++ (octets_of a ++ (octets_of b ++ (octets_of c ++ (octets_of d ++ (octets_of e ++ octets_of f)))))
seven_parts first a b c d e f =
    ap (λ (xs : List ℕ). record_octets first ++ xs)
    (then a (b ++ (c ++ (d ++ (e ++ f)))) _ (then b (c ++ (d ++ (e ++ f))) _ (then c (d ++ (e ++ f)) _ (then d (e ++ f) _ (octets-append e f)))))
