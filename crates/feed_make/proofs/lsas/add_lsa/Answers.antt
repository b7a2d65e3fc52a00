use Rattle.std.proofs.Common.{ℕ, List, ◌++◌, take, ap, ◌∙◌}
use Rattle.feed_make.proofs.Checksums.{spelled_once}
use Rattle.feed_make.proofs.lsas.add_lsa.Goals as goal

pub returns : goal.returns
returns c =
    c.in_ok-extend_from_slice-in-Some.ensures.items
    ∙ ap (λ (t : List ℕ). c.args.octets.now.items ++ t) (spelled_once c.args.lsa.now (take c.in-Some.len c.write.new.out) c.in-Some.ensures.spelled)
