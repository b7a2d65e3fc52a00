use Rattle.std.proofs.Common.{subst}
use Rattle.crossbeam_queue.specs.Passes.{view}
use Rattle.mailbox.specs.Boxes.{Mail}
use Rattle.mailbox.proofs.Moves.{learns, listed}
use Rattle.mailbox.proofs.making.learn.Goals as goal

pub learn_as-requires : goal.learn_as-requires
learn_as-requires g c = record { queue = c.requires.queue; rule = learns _ _ }

pub returns-clause-mail : goal.returns-clause-mail
returns-clause-mail g c =
    let told = c.learn_as.ensures.rule in
    let v = view c.args.pass.now in
    (told.0, subst (λ taken. Mail taken told.0 v.held) (told.1.1.known c.requires.reads) (listed v told.0 told.1.0 told.1.1))
