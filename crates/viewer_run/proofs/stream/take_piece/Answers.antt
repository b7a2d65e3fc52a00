use Rattle.std.proofs.Common.{rules, []}
use Rattle.viewer_run.specs.Viewing.{PutToAll}
use Rattle.viewer_run.proofs.ViewLemmas.{none_to_all, shown_passed}
use Rattle.viewer_run.proofs.stream.take_piece.Goals as goal

pub returns-in_err-got-clause-shown : goal.returns-in_err-got-clause-shown
returns-in_err-got-clause-shown g c =
    let none : PutToAll [] c.args.shards.now c.args.shards.now = none_to_all c.args.shards.now in
    search rules

pub returns-clause-shown : goal.returns-clause-shown
returns-clause-shown g c =
    shown_passed c.args.igp.now c.octets.new.self c.args.shards.now c.pass_on.new.shards c.changes-before.result c.in_ok-got.ensures.changes c.octets.ensures.roster c.changes-before.ensures
    c.in_ok-pass_on.ensures.put
