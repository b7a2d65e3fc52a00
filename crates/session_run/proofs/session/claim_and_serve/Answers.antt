-- The seat that was served rests.
use Rattle.session_run.proofs.RestLemmas.{rests}
use Rattle.session_run.proofs.session.claim_and_serve.Goals as goal

pub give_back-requires : goal.give_back-requires
give_back-requires g c =
    let served = c.serve_seated-end.ensures in
    rests _ _ c.args.slot _ _ _ _ _ _ _ _ _ served.0 served.1 c.in-Ok.ensures.seat served.2
