use Rattle.std.proofs.Common.{◌≡◌, find}
use Rattle.pending_marks.specs.Marks.{Flag, flags_from}
use Rattle.pending_marks.proofs.flags.first_from.Given as goal

-- none of those before is set
abbrev pub invariant-loop-p : goal.invariant-loop-p
invariant-loop-p l = find (λ (flag : Flag). flag.1) (flags_from l.fn.low l.flags.entries) ≡ find (λ (flag : Flag). flag.1) l.p-iterator
