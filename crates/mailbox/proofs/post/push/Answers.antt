use Rattle.mailbox.proofs.Moves.{puts, learns, was_full}
use Rattle.mailbox.proofs.post.push.Goals as goal

pub push_as-requires : goal.push_as-requires
push_as-requires g c = record {
  queue = c.requires.queue;
  rule = (puts _ _ _ c.args.number _ c.args.m c.requires.holds, learns _ _);
}

pub returns-in-Err-clause-full : goal.returns-in-Err-clause-full
returns-in-Err-clause-full g c = was_full _ _ _ _ c.requires.holds c.in-Err.ensures.rule.2
