use Rattle.std.proofs.Common.{rules, eqb}
use Rattle.std.specs.Prelude.{not}
use Rattle.std.proofs.lemmas.Fn.{filter_same}
use Rattle.feed_format.proofs.reader.remove.Goals as goal

pub returns : goal.returns
returns c = filter_same _ (λ n. not (eqb n c.args.number)) _ (λ x b q h. (search rules, search rules)) _ _ c.retain.ensures.filtered
