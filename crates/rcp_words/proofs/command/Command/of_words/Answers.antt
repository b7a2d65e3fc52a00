use Rattle.std.proofs.Common.{arith}
use Rattle.rcp_words.proofs.WordLemmas.{no_command}
use Rattle.rcp_words.proofs.command.Command.of_words.Goals as goal

pub returns-in_default : goal.returns-in_default
returns-in_default c = no_command c.args.words.now (λ one. omega (arith, one)) (λ two. omega (arith, two)) (λ three. omega (arith, three))
