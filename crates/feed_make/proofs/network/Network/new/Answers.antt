use Rattle.std.proofs.Common.{ℕ, List, length, get_or, sym, ap, ◌∙◌, arith}
use Rattle.std.proofs.lemmas.List.{length-replicate, get_or-replicate}
use Rattle.feed_make.specs.Networks.{first_links}
use Rattle.feed_make.proofs.Networks.{no_rises}
use Rattle.feed_make.proofs.network.Network.new.Goals as goal

pub invariant_of-result : goal.invariant_of-result
invariant_of-result c = (
  omega arith,
  c.in_ok-links.ensures.links ∙ ap first_links (sym c.number-number.ensures),
  no_rises c.number-number.result c.zeros.result
      (ap length c.zeros.ensures ∙ length-replicate {A = ℕ} 400 0)
      (λ i less. ap (λ (zs : List ℕ). get_or zs i 0) c.zeros.ensures ∙ get_or-replicate {A = ℕ} 400 i 0 0 less),
)
