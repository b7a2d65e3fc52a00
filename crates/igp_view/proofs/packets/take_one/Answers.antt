use Rattle.std.proofs.Common.{sym, subst, ◌∙◌}
use Rattle.igp_view.specs.Reading.{Installs}
use Rattle.igp_view.proofs.ReadLemmas.{installs_none, other_read}
use Rattle.igp_view.proofs.packets.take_one.Goals as goal

pub returns-else-kind-eq-ROUTER_LSA-clause-state : goal.returns-else-kind-eq-ROUTER_LSA-clause-state
returns-else-kind-eq-ROUTER_LSA-clause-state c =
    subst (λ read. Installs read c.args.lsdb.now c.args.lsdb.now) (sym (other_read c.args.octets.now (λ same. c.if-kind-eq-ROUTER_LSA.false (c.requires.kind ∙ same)))) (installs_none c.args.lsdb.now)
