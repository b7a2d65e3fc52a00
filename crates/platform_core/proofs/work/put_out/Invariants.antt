-- What the first connections are sent is put out.
use Rattle.std.proofs.Common.{◌≡◌, ◌++◌, length, map}
use Rattle.platform_core.specs.Working.{records_to}
use Rattle.platform_core.proofs.work.put_out.Given as goal

abbrev pub invariant-loop-messages : goal.invariant-loop-messages
invariant-loop-messages l = record {
  place : l.place ≡ length l.yielded;
  out : l.out ≡ l.initial.out ++ records_to l.numbers (map (λ messages. map (λ m. m.items) messages.items) l.yielded);
}
