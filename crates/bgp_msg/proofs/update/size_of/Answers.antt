-- The octets of the sections, and 23 besides, are those of the UPDATE.
use Rattle.std.proofs.Common.{arith}
use Rattle.bgp_msg.proofs.Lengths.{length-update_octets}
use Rattle.bgp_msg.proofs.update.size_of.Goals as goal

pub returns-in_err-withdrawn_count-clause-fits : goal.returns-in_err-withdrawn_count-clause-fits
returns-in_err-withdrawn_count-clause-fits c =
    rw length-update_octets (grind arith)

pub returns-in_err-nlri_count-clause-fits : goal.returns-in_err-nlri_count-clause-fits
returns-in_err-nlri_count-clause-fits c = rw length-update_octets (grind arith)

pub returns-then-attrs-gt-MOST_OCTETS-clause-fits :
    goal.returns-then-attrs-gt-MOST_OCTETS-clause-fits
returns-then-attrs-gt-MOST_OCTETS-clause-fits c = rw length-update_octets (grind arith)

pub returns-then-whole-gt-MOST_OCTETS-clause-fits :
    goal.returns-then-whole-gt-MOST_OCTETS-clause-fits
returns-then-whole-gt-MOST_OCTETS-clause-fits c = rw length-update_octets (grind arith)

pub returns-clause-fits : goal.returns-clause-fits
returns-clause-fits c = rw length-update_octets (grind arith)
