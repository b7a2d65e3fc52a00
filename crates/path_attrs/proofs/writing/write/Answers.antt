use Rattle.std.proofs.Common.{arith}
use Rattle.path_attrs.proofs.Canonical.{canonical_short}
use Rattle.path_attrs.proofs.writing.write.Goals as goal

pub put_canonical-requires-clause-kept : goal.put_canonical-requires-clause-kept
put_canonical-requires-clause-kept c = rw c.values.ensures.values c.values.ensures.kept

pub put_canonical-requires-clause-room : goal.put_canonical-requires-clause-room
put_canonical-requires-clause-room c =
    let short = canonical_short c.values.result.now (rw c.values.ensures.values c.values.ensures.kept) in
    omega (arith, short)
