use Rattle.std.proofs.Common.{sym}
use Rattle.std.proofs.lemmas.Bool.{eqb-true, eqb-false}
use Rattle.roster.proofs.WordLemmas.{lines_of-front, lines_of-last, lines_of-none}
use Rattle.roster.proofs.words.split_line.Goals as goal

pub returns-then-is_empty-clause-lines : goal.returns-then-is_empty-clause-lines
returns-then-is_empty-clause-lines c = lines_of-none c.args.text.now (eqb-true _ _ (sym c.if-is_empty.ensures))

pub returns-in-Some-clause-lines : goal.returns-in-Some-clause-lines
returns-in-Some-clause-lines c = lines_of-front c.args.text.now c.in-Some.found.0.now c.in-Some.found.1.now c.in-Some.ensures.parts

pub returns-in-None-clause-lines : goal.returns-in-None-clause-lines
returns-in-None-clause-lines c = lines_of-last c.args.text.now (eqb-false _ _ (sym c.if-is_empty.ensures)) c.in-None.ensures.parts
