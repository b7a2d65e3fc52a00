use Rattle.std.proofs.Common.{Option, sym, subst}
use Rattle.rcp_base.specs.IpPrefix.{IpPrefix}
use Rattle.rcp_model.specs.Assigned.{IsLeast, IsAfter, IsAnnounced}
use Rattle.replica_law.specs.Steps.{IsAnnouncedIn}
use Rattle.replica_law.proofs.PrefixLemmas.{next_lower}
use Rattle.replica_law.proofs.routes.next_of.Goals as goal

pub returns-clause-least : goal.returns-clause-least
returns-clause-least g c =
    let A = g.X.Assigned.announced c.args.first.now in
    let B = g.Y.Assigned.announced c.args.second.now in
    subst (λ (o : Option IpPrefix). IsLeast (λ p. IsAfter c.args.after.now p × IsAnnouncedIn A B p) o) (sym c.in_ok-next.ensures)
    (next_lower (IsAfter c.args.after.now) (IsAnnounced A) (IsAnnounced B) c.next_prefix-here.result c.next_prefix-there.result c.next_prefix-here.ensures c.next_prefix-there.ensures)
