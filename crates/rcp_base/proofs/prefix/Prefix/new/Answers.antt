use Rattle.std.proofs.Common.{arith}
use Rattle.rcp_base.proofs.PrefixLemmas.{masked_by_shifts, IsPrefix-masked}
use Rattle.rcp_base.proofs.prefix.Prefix.new.Goals as goal

pub invariant_of-result : goal.invariant_of-result
invariant_of-result c =
    let e = masked_by_shifts c.from.result c.args.len (omega arith) in
    rw e (IsPrefix-masked c.from.result c.args.len (omega arith) (omega arith))
