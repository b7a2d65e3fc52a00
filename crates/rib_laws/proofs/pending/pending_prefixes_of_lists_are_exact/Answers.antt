use Rattle.rib_laws.proofs.PendingLemmas.{pending_after_in_lists}
use Rattle.rib_laws.proofs.pending.pending_prefixes_of_lists_are_exact.Goals as goal

pub returns : goal.returns
returns c = pending_after_in_lists
