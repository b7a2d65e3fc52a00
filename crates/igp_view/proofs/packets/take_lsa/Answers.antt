use Rattle.std.proofs.Common.{Ok, sym, subst}
use Rattle.rcp_model.specs.RouterLsas.{lsa_at}
use Rattle.lsa_reader.specs.Answers.{Refuses}
use Rattle.igp_view.proofs.ReadLemmas.{installs_one, installs_fault}
use Rattle.igp_view.proofs.packets.take_lsa.Goals as goal

pub returns-in_ok-_answer-in-Ok-clause-state : goal.returns-in_ok-_answer-in-Ok-clause-state
returns-in_ok-_answer-in-Ok-clause-state c =
    installs_one c.in-Ok.lsa (lsa_at c.args.octets.now) c.time-now.result c.args.lsdb.now c.install.new.self c.in-Ok.ensures.gives c.time-now.ensures.time c.in_ok-_answer-in-Ok.ensures.after
    c.in_ok-_answer-in-Ok.ensures.moment

pub returns-in-Err-Fault-clause-state : goal.returns-in-Err-Fault-clause-state
returns-in-Err-Fault-clause-state c =
    installs_fault c.in-Err-Fault._fault (lsa_at c.args.octets.now) c.args.lsdb.now (subst (λ e. Refuses e (lsa_at c.args.octets.now)) c.in-Err-Fault.field-0-is c.in-Err-Fault.ensures.gives)
