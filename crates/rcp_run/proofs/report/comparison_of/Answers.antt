use Rattle.std.proofs.Common.{ap, ◌∙◌}
use Rattle.replica_law.specs.Texts.{answers_text}
use Rattle.rcp_run.proofs.report.comparison_of.Goals as goal

pub returns : goal.returns
returns c = record {
  answers = c.in_ok-answers.answers.items;
  are_answers = c.in_ok-answers.ensures;
  lines = c.in_ok-text.ensures ∙ ap answers_text c.deref.ensures.value;
}
