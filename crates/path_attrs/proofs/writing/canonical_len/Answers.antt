use Rattle.std.proofs.Common.{Bool, length, ap, arith}
use Rattle.path_attrs.proofs.Canonical.{canonical_long, default_long, default_octets}
use Rattle.path_attrs.proofs.writing.canonical_len.Goals as goal

pub values_len-len-requires : goal.values_len-len-requires
values_len-len-requires c = omega (arith, c.requires.short)

pub returns-then-is_there : goal.returns-then-is_there
returns-then-is_there c =
    omega (arith, c.values_len-len.ensures, canonical_long c.args.values.now c.is_there.result c.requires c.is_there.ensures, ap (λ (b : Bool). length (default_octets b)) c.if-is_there.true)

pub returns-else-is_there : goal.returns-else-is_there
returns-else-is_there c =
    omega (arith, c.values_len-len.ensures, canonical_long c.args.values.now c.is_there.result c.requires c.is_there.ensures, default_long, ap (λ (b : Bool). length (default_octets b)) c.if-is_there.false)
