use Rattle.std.proofs.Common.{List, map, sym, ap, subst, ◌∙◌}
use Rattle.shard_worker.specs.Runs.{Letter, RunOf, started, after_messages}
use Rattle.shard_worker.specs.Ends.{port_of}
use Rattle.shard_worker.specs.Workers.{AreAlike, IsWorker}
use Rattle.shard_worker.proofs.StartLemmas.{alike_itself}
use Rattle.shard_worker.proofs.KeptLemmas.{kept_first}
use Rattle.shard_worker.proofs.MailLemmas.{no_messages}
use Rattle.shard_worker.proofs.worker.Worker.new.Goals as goal

pub invariant_of-result : goal.invariant_of-result
invariant_of-result c =
    subst (λ (run : RunOf). IsWorker run (map port_of c.args.offers.items)) (sym c.new.ensures)
    (kept_first c.args.shard c.args.offers.items c.requires.idle c.requires.offers c.requires.nothing)

pub returns-clause-run : goal.returns-clause-run
returns-clause-run c =
    let run = started c.args.shard in
    let none = no_messages run ∙ ap (λ (letters : List Letter). after_messages letters run) (sym c.requires.mail) in
    subst (λ (r : RunOf). AreAlike r (after_messages c.args.mail.pass.me.0.client.taken run)) (sym c.new.ensures) (subst (λ (r : RunOf). AreAlike run r) none (alike_itself run))
