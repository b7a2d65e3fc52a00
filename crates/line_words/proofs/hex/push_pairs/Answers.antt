use Rattle.std.proofs.Common.{sym, ◌∙◌}
use Rattle.line_words.proofs.HexLemmas.{two_off}
use Rattle.line_words.proofs.hex.push_pairs.Goals as goal

pub loop-rest-preserved : goal.loop-rest-preserved
loop-rest-preserved c =
    rw c.in_ok-push.ensures.items
    (sym (two_off c.loop-rest.rest.now c.loop-rest.out.items c.in-Some.octet c.in-len2-up.len_at_least (sym c.in-Some.ensures)) ∙ c.loop-rest.invariant)
