use Rattle.std.proofs.Common.{[]}
use Rattle.replica_law.specs.Texts.{answer_line}
use Rattle.replica_law.proofs.TextLemmas.{pieces_more, pieces_all}
use Rattle.replica_law.proofs.text.text_of.Goals as goal

pub loop-answer-preserved : goal.loop-answer-preserved
loop-answer-preserved c =
    pieces_more answer_line [] c.loop-answer.text.items c.put_line.new.text.items c.args.answers.now c.loop-answer.answer-index c.answer-item.result c.loop-answer.invariant c.loop-answer-test.true c.answer-item.is
    c.in_ok-put_line.ensures

pub returns : goal.returns
returns c = pieces_all answer_line [] c.loop-answer.text.items c.args.answers.now c.loop-answer.answer-index c.loop-answer.invariant c.loop-answer-test.false
