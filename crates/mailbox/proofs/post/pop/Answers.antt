-- A take keeps the rule, and one that found nothing learned that nothing was queued.
use Rattle.std.proofs.Common.{◌≡◌, ℕ, true, [], Option, None, Some, IfNone, MatchOption}
use Rattle.crossbeam_queue.specs.Fifo.{Held}
use Rattle.mailbox.specs.declared.rule.View.{View}
use Rattle.mailbox.specs.Mail.{Learned}
use Rattle.mailbox.specs.Boxes.{Mail}
use Rattle.mailbox.proofs.Moves.{takes, learns, was_empty}
use Rattle.mailbox.proofs.post.pop.Goals as goal

found_nothing : {M : Type 0} (r : Option (ℕ × M)) (v : View M) (P : Type 0) (Q : ℕ × M → Type 0) →
    v.reads ≡ true → MatchOption r (P × Held 0 (Learned v)) Q → IfNone r (Mail v.taken [] v.held)
found_nothing None v P Q reads told = was_empty v reads told.1
found_nothing (Some m) v P Q reads told = tt

pub pop_as-requires : goal.pop_as-requires
pop_as-requires g c = record {
  queue = c.requires.queue;
  rule = (takes _ _ c.requires.reads, learns _ _);
}

pub returns-clause-none : goal.returns-clause-none
returns-clause-none g c = found_nothing c.pop_as.result _ _ _ c.requires.reads c.pop_as.ensures.rule
