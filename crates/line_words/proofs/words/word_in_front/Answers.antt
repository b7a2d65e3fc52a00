use Rattle.std.proofs.Common.{sym, ne_eqb}
use Rattle.line_words.proofs.WordLemmas.{word_at, last_word_by_search}
use Rattle.line_words.proofs.words.word_in_front.Goals as goal

pub returns-in-Some-clause-words : goal.returns-in-Some-clause-words
returns-in-Some-clause-words c =
    rw (c.split_at.ensures.front, c.split_at.ensures.back)
    (word_at c.args.line.now c.in-Some.end c.requires.some c.requires.word (ne_eqb _ _ c.if-line-eq35.false) (sym c.in-Some.ensures))

pub returns-in-None-clause-words : goal.returns-in-None-clause-words
returns-in-None-clause-words c = last_word_by_search c.args.line.now c.requires.some (ne_eqb _ _ c.if-line-eq35.false) (sym c.in-None.ensures)
