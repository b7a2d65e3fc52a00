use Rattle.std.proofs.Common.{◌∙◌, None, arith}
use Rattle.std.proofs.lemmas.Str.Pattern.{split_once_first}
use Rattle.rcpd_words.proofs.WordLemmas.{no_colon}
use Rattle.rcpd_words.proofs.settings.endpoint_in.Goals as goal

pub returns-in_err-address : goal.returns-in_err-address
returns-in_err-address c = c.from_residual.ensures ∙ no_colon c.args.text.now (split_once_first 58 c.args.text.now None c.in_err-address.ensures.cases (omega arith))
