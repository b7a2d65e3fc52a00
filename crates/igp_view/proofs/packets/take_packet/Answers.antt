use Rattle.std.proofs.Common.{sym, subst, ◌∙◌}
use Rattle.igp_view.specs.Reading.{Installs, Counts}
use Rattle.igp_view.proofs.ReadLemmas.{installs_none, counts_none, update_is, other_is}
use Rattle.igp_view.proofs.packets.take_packet.Goals as goal

pub returns-in_ok-take_lsas-clause-state : goal.returns-in_ok-take_lsas-clause-state
returns-in_ok-take_lsas-clause-state c =
    subst (λ read. Installs read c.args.lsdb.now c.take_lsas.new.lsdb) (sym (update_is c.args.area c.args.packet.now (sym c.is_update_of.ensures ∙ c.if-is_update_of.true))) c.in_ok-take_lsas.ensures.state

pub returns-in_ok-take_lsas-clause-counts : goal.returns-in_ok-take_lsas-clause-counts
returns-in_ok-take_lsas-clause-counts c =
    subst (λ read. Counts read c.args.got.now c.take_lsas.new.got) (sym (update_is c.args.area c.args.packet.now (sym c.is_update_of.ensures ∙ c.if-is_update_of.true))) c.in_ok-take_lsas.ensures.counts

pub returns-else-is_update_of-clause-state : goal.returns-else-is_update_of-clause-state
returns-else-is_update_of-clause-state c =
    subst (λ read. Installs read c.args.lsdb.now c.args.lsdb.now) (sym (other_is c.args.area c.args.packet.now (sym c.is_update_of.ensures ∙ c.if-is_update_of.false))) (installs_none c.args.lsdb.now)

pub returns-else-is_update_of-clause-counts : goal.returns-else-is_update_of-clause-counts
returns-else-is_update_of-clause-counts c =
    subst (λ read. Counts read c.args.got.now c.args.got.now) (sym (other_is c.args.area c.args.packet.now (sym c.is_update_of.ensures ∙ c.if-is_update_of.false))) (counts_none c.args.got.now)
