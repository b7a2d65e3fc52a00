use Rattle.std.proofs.Common.{◌<◌, ◌^◌, Err, ap}
use Rattle.std.proofs.lemmas.Result.{err_from_is_err_and}
use Rattle.feed_format.proofs.TakingLemmas.{stops_too_long, stops_at_header, stops_by_header, stops_at_body, stops_by_body, takes_record, fault_is, no_fault}
use Rattle.feed_format.proofs.reader.Reader.take.Goals as goal

pub returns-then-self-ge-MOST_OCTETS-clause-takes :
    goal.returns-then-self-ge-MOST_OCTETS-clause-takes
returns-then-self-ge-MOST_OCTETS-clause-takes g c = stops_too_long c.args.self.now (g.S.Source.left c.args.source.now) (rw (← c.self.view_is) c.if-self-ge-MOST_OCTETS.true)

pub returns-in_err-read_exactly-clause-takes : goal.returns-in_err-read_exactly-clause-takes
returns-in_err-read_exactly-clause-takes g c =
    let p = err_from_is_err_and c.from_residual.result c.from_residual.ensures.1 in
    let few : c.args.self.now.octets < 2 ^ 40 = rw (← c.self.view_is) c.if-self-ge-MOST_OCTETS.false in
    let call = c.in_err-read_exactly.ensures in
    rw (p.1, p.2) (stops_at_header c.args.self.now (g.S.Source.left c.args.source.now) (g.S.Source.left c.read_exactly.new.source) c.in_err-read_exactly.field-0.0 few
    call.cause (λ e. call.short (ap Err e)) call.err)

pub returns-in_err-header-clause-takes : goal.returns-in_err-header-clause-takes
returns-in_err-header-clause-takes g c =
    let p = err_from_is_err_and c.from_residual-in_err-header.result c.from_residual-in_err-header.ensures.1 in
    let few : c.args.self.now.octets < 2 ^ 40 = rw (← c.self.view_is) c.if-self-ge-MOST_OCTETS.false in
    rw (p.1, p.2) (stops_by_header c.args.self.now c.read_exactly.new.buf (g.S.Source.left c.args.source.now) (g.S.Source.left c.read_exactly.new.source) c.in_err-header.field-0.0 few
    c.read_exactly.auto.buf c.in_ok-read_exactly.ensures.ok c.in_err-header.ensures.fault)

pub returns-in_err-body-clause-takes : goal.returns-in_err-body-clause-takes
returns-in_err-body-clause-takes g c =
    let p = err_from_is_err_and c.from_residual-in_err-body.result c.from_residual-in_err-body.ensures.1 in
    let few : c.args.self.now.octets < 2 ^ 40 = rw (← c.self.view_is) c.if-self-ge-MOST_OCTETS.false in
    let call = c.in_err-body.ensures in
    rw (p.1, p.2) (stops_at_body c.args.self.now c.read_exactly.new.buf c.in_ok-header.header (g.S.Source.left c.args.source.now) (g.S.Source.left c.read_exactly.new.source) (g.S.Source.left c.read_body.new.source)
    c.in_err-body.field-0.0
    (record { few = few; nine = c.read_exactly.auto.buf; given = c.in_ok-read_exactly.ensures.ok; passed = c.in_ok-header.ensures.fault; says = c.in_ok-header.ensures.value })
    call.cause (λ e. call.short (ap Err e)) call.err (λ e. call.less (ap Err e)))

pub returns-in_err-judge_body-clause-takes : goal.returns-in_err-judge_body-clause-takes
returns-in_err-judge_body-clause-takes g c =
    let p = err_from_is_err_and c.from_residual-in_err-judge_body.result c.from_residual-in_err-judge_body.ensures.1 in
    let few : c.args.self.now.octets < 2 ^ 40 = rw (← c.self.view_is) c.if-self-ge-MOST_OCTETS.false in
    rw (p.1, p.2) (stops_by_body c.args.self.now c.read_exactly.new.buf c.in_ok-header.header c.in_ok-body.body.items (g.S.Source.left c.args.source.now) (g.S.Source.left c.read_exactly.new.source) (g.S.Source.left c.read_body.new.source)
    c.in_err-judge_body.field-0.0
    (record { few = few; nine = c.read_exactly.auto.buf; given = c.in_ok-read_exactly.ensures.ok; passed = c.in_ok-header.ensures.fault; says = c.in_ok-header.ensures.value })
    c.in_ok-body.ensures.len c.in_ok-body.ensures.ok (fault_is _ _ _ c.in_err-judge_body.ensures))

pub returns-clause-takes : goal.returns-clause-takes
returns-clause-takes g c =
    let few : c.args.self.now.octets < 2 ^ 40 = rw (← c.self.view_is) c.if-self-ge-MOST_OCTETS.false in
    takes_record c.args.self.now c.read_exactly.new.buf c.in_ok-header.header c.in_ok-body.body.items (g.S.Source.left c.args.source.now) (g.S.Source.left c.read_exactly.new.source) (g.S.Source.left c.read_body.new.source)
    (record { few = few; nine = c.read_exactly.auto.buf; given = c.in_ok-read_exactly.ensures.ok; passed = c.in_ok-header.ensures.fault; says = c.in_ok-header.ensures.value })
    c.read_exactly.ensures.octets c.in_ok-body.ensures.len c.in_ok-body.ensures.ok c.in_ok-body.ensures.octets (no_fault _ _ _ c.in_ok-judge_body.ensures)
