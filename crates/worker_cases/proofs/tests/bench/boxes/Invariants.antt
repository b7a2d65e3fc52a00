use Rattle.std.proofs.Common.{◌≡◌, [], length}
use Rattle.std.specs.Prelude.{All}
use Rattle.mailbox.specs.Boxes.{sent}
use Rattle.worker_cases.proofs.tests.bench.boxes.Given as goal

abbrev pub invariant-loop-slot : goal.invariant-loop-slot
invariant-loop-slot g l = (length l.senders.items ≡ l._slot) × All (λ sender. sent sender ≡ []) l.senders.items
