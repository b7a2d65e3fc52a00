use Rattle.std.proofs.Common.{◌≡◌, ◌≢◌, ◌++◌, ℕ, List, Option, Some, None, sym}
use Rattle.std.specs.Prelude.{MatchOption, IfSome}
use denote.Ref.{Bor}
use Rattle.std.proofs.lemmas.Bool.Decides.{Decides-eqb}
use Rattle.std.proofs.lemmas.Slice.Eq.{strip_prefix_is}
use Rattle.feed_text.proofs.checker.without_front.Goals as goal

kept : (s p : List ℕ) (r : Option (Bor (List ℕ))) → MatchOption r ((rest : List ℕ) → s ≢ p ++ rest) (λ x. s ≡ p ++ x.now) → IfSome r (λ rest. p ++ rest.now ≡ s)
kept s p None h = tt
kept s p (Some x) h = sym h

pub returns : goal.returns
returns c = kept c.args.octets.now c.args.front.now c.strip_prefix.result (strip_prefix_is Decides-eqb c.args.octets.now c.args.front.now c.strip_prefix.result c.strip_prefix.ensures.cases)
