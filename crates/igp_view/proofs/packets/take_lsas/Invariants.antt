use Rattle.std.proofs.Common.{◌-◌, length}
use Rattle.igp_view.proofs.ReadLemmas.{Walking}
use Rattle.igp_view.proofs.packets.take_lsas.Given as goal

abbrev pub invariant-loop-found : goal.invariant-loop-found
invariant-loop-found l = Walking l.packet l.place l.fn.lsdb l.lsdb l.fn.got l.got

abbrev pub decreases-loop-found : goal.decreases-loop-found
decreases-loop-found l = length l.packet - l.place
