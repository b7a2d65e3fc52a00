use Rattle.std.proofs.Common.{◌≡◌, ◌∙◌, sym, Some, Ok, Err, arith}
use Rattle.std.proofs.lemmas.Grind.{common_steps}
use Rattle.std.proofs.lemmas.Result.{err_from_is_err_and}
use Rattle.rcp_base.specs.Feed.{kind_of, letter_at, length_at}
use Rattle.feed_format.proofs.FrontLemmas.{frame_fault}
use Rattle.feed_format.proofs.reader.Reader.header.Goals as goal

pub returns-in_err-judge_header-clause-fault : goal.returns-in_err-judge_header-clause-fault
returns-in_err-judge_header-clause-fault c =
    let known : kind_of (letter_at c.args.octets.now) ≡ Some c.in_ok-kind.kind = sym c.kind_of.ensures ∙ c.in_ok-kind.ensures.ok_part in
    let len-is : c.from_be_bytes-len.result ≡ length_at c.args.octets.now = grind (arith, common_steps) in
    let p = err_from_is_err_and c.from_residual-in_err-judge_header.result c.from_residual-in_err-judge_header.ensures.1 in
    let fault = frame_fault c.args.self.now c.args.octets.now c.in_ok-kind.kind c.from_be_bytes-len.result (Err c.in_err-judge_header.field-0.0) tt known len-is c.in_err-judge_header.ensures in
    rw (p.1, p.2) fault

pub returns-clause-fault : goal.returns-clause-fault
returns-clause-fault c =
    let known : kind_of (letter_at c.args.octets.now) ≡ Some c.in_ok-kind.kind = sym c.kind_of.ensures ∙ c.in_ok-kind.ensures.ok_part in
    let len-is : c.from_be_bytes-len.result ≡ length_at c.args.octets.now = grind (arith, common_steps) in
    frame_fault c.args.self.now c.args.octets.now c.in_ok-kind.kind c.from_be_bytes-len.result (Ok c.in_ok-judge_header.field-0) tt known len-is c.in_ok-judge_header.ensures
