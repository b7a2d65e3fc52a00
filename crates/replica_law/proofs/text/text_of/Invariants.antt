use Rattle.std.proofs.Common.{◌≡◌, ◌++◌, [], take}
use Rattle.std.specs.List.{flat_map}
use Rattle.replica_law.specs.Texts.{answer_line}
use Rattle.replica_law.proofs.text.text_of.Given as goal

abbrev pub invariant-loop-answer : goal.invariant-loop-answer
invariant-loop-answer l = l.text.items ≡ [] ++ flat_map answer_line (take l.answer-index l.answers)
