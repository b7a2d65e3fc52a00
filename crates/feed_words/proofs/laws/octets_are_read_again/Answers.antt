use Rattle.std.proofs.Common.{◌++◌, refl, inr}
use Rattle.std.specs.Prelude.{codes}
use Rattle.line_words.specs.Words.{hex_text}
use Rattle.feed_words.proofs.OctetsLineLemmas.{octets_line_is}
use Rattle.feed_words.proofs.laws.octets_are_read_again.Goals as goal

pub returns-clause-again : goal.returns-clause-again
returns-clause-again c = octets_line_is

pub returns-clause-ends : goal.returns-clause-ends
returns-clause-ends c = λ octets. inr (codes "octets " ++ hex_text octets, refl)
