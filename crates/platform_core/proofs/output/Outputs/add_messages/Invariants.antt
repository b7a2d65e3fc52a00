-- The messages so far were added.
use Rattle.std.proofs.Common.{◌≡◌, ◌++◌, map}
use Rattle.feed_meaning.specs.OutRecords.{messages_to}
use Rattle.platform_core.proofs.output.Outputs.add_messages.Given as goal

abbrev pub invariant-loop-message : goal.invariant-loop-message
invariant-loop-message l = l.self ≡ l.initial.self ++ messages_to l.connection (map (λ m. m.items) l.yielded)
