use Rattle.std.proofs.Common.{refl, arith}
use Rattle.rcpd_run.proofs.EndsLemmas.{followed_none}
use Rattle.rcpd_run.proofs.ends.hand_row_back.Goals as goal

pub loop-link-init : goal.loop-link-init
loop-link-init g c = record { iterator = (tt, tt); back = followed_none (g.N.Net.handed_back c.args.net.now); handed_out = refl; never_falls = omega arith }
