use Rattle.std.proofs.Common.{arith}
use Rattle.std.proofs.lemmas.List.{length-set}
use Rattle.rcp_base.proofs.WritingLemmas.{short}
use Rattle.rcp_base.proofs.text.put_dot_and.Goals as goal

pub put_number-requires : goal.put_number-requires
put_number-requires c = omega (arith, short c.args.number (omega arith), length-set c.args.out.now c.args.place 46)
