use Rattle.std.proofs.Common.{sym, ◌≡◌}
use Rattle.line_words.specs.Words.{words_of}
use Rattle.line_words.proofs.WordLemmas.{start_words, start_is, no_start}
use Rattle.line_words.proofs.words.split_word.Goals as goal

pub returns-in_err-start-clause-words : goal.returns-in_err-start-clause-words
returns-in_err-start-clause-words c = rw c.from_residual.ensures (no_start c.args.line.now (sym c.in_err-start.ensures))

pub word_in_front-requires-clause-word : goal.word_in_front-requires-clause-word
word_in_front-requires-clause-word c = rw c.split_at.ensures.back (start_is c.args.line.now c.in_ok-start.start (sym c.in_ok-start.ensures))

pub returns-clause-words : goal.returns-clause-words
returns-clause-words c =
    let same : words_of c.args.line.now ≡ words_of c.split_at.result.1.now =
    rw c.split_at.ensures.back (start_words c.args.line.now c.in_ok-start.start (sym c.in_ok-start.ensures)) in
    rw same c.word_in_front.ensures.words
