-- The senders that are left belong to the mailbox, and those taken back with those that are left are all.
use Rattle.std.proofs.Common.{◌≡◌, ◌++◌, length, map, All}
use Rattle.mailbox.specs.Boxes.{received, empties_of, finished, IsSameReceiver, IsOf, entry}
use Rattle.mailbox.proofs.making.finish.Given as goal

abbrev pub invariant-loop-sender : goal.invariant-loop-sender
invariant-loop-sender g l = record {
  of : All (λ s. IsOf l.receiver s) l.rest.items;
  lists : finished l.receiver ++ map entry l.rest.items ≡ finished l.initial.receiver ++ map entry l.initial.rest.items;
  same : IsSameReceiver l.initial.receiver l.receiver;
  taken : received l.receiver ≡ received l.initial.receiver;
  empties : empties_of l.receiver ≡ empties_of l.initial.receiver;
}

abbrev pub decreases-loop-sender : goal.decreases-loop-sender
decreases-loop-sender g l = length l.rest.items
