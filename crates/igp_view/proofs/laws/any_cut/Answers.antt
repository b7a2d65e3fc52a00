use Rattle.igp_view.proofs.StreamLemmas.{stream_twice, lost_twice}
use Rattle.igp_view.proofs.YoungLemmas.{state_twice}
use Rattle.igp_view.proofs.laws.any_cut.Goals as goal

pub returns : goal.returns
returns c = record { stream = stream_twice; lost = lost_twice; state = λ area now stream first second state. state_twice now area stream first second state }
