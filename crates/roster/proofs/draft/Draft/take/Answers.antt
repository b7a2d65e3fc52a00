use Rattle.std.proofs.Common.{sym, ◌∙◌}
use Rattle.roster.specs.Lines.{said_of}
use Rattle.roster.proofs.RoomLemmas.{short_line}
use Rattle.roster.proofs.draft.Draft.take.Goals as goal

pub returns-in-Ok-clause-no_memory : goal.returns-in-Ok-clause-no_memory
returns-in-Ok-clause-no_memory c = λ short.
    short_line c.args.self.now c.args.text.now (said_of c.in-Ok.line) (sym c.is_skipped.ensures ∙ c.if-is_skipped.false) c.in-Ok.ensures (c.take_line.ensures.faultless short) (c.take_line.ensures.room short)
