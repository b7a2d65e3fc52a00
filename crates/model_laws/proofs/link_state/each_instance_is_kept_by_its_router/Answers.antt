use Rattle.model_laws.proofs.LinkStateLemmas.{kept-start, kept-lsa, kept-lsas, kept-time}
use Rattle.model_laws.proofs.link_state.each_instance_is_kept_by_its_router.Goals as goal

pub returns : goal.returns
returns c = record { start = kept-start; lsa = kept-lsa; lsas = kept-lsas; time = kept-time }
