use Rattle.line_words.specs.Words.{is_blank}
use Rattle.line_words.proofs.WordLemmas.{searched}
use Rattle.line_words.proofs.words.first_blank.Goals as goal

pub returns : goal.returns
returns c = searched is_blank c.args.line.now c.memchr2.result c.memchr2.ensures
