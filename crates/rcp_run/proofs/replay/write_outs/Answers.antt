use Rattle.std.proofs.Common.{List, ℕ, sym, subst}
use Rattle.feed_run.proofs.WrittenLemmas.{wrote_less, parts_of, on_err}
use Rattle.feed_format.specs.Writing.{WritesLess}
use Rattle.rcp_run.proofs.replay.write_outs.Goals as goal

pub returns-in_err-write_out-clause-less : goal.returns-in_err-write_out-clause-less
returns-in_err-write_out-clause-less g c =
    on_err _ (subst (λ (octets : List ℕ). WritesLess octets (g.K.Sink.taken c.args.sink.now) (g.K.Sink.taken c.write_out.new.sink))
    (sym (parts_of c.args.outs.now c.loop-out.out-index c.out-item.result c.loop-out-test.true c.out-item.is))
    (wrote_less _ _ _ _ _ _ c.loop-out.invariant.wrote c.in_err-write_out.ensures.less))
