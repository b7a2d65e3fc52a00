use Rattle.std.proofs.Common.{sym, subst, ◌∙◌, ℕ, arith}
use Rattle.link_acceptor.specs.Accepting.{RoseBy}
use Rattle.link_acceptor.proofs.AcceptLemmas.{rose_on, rose_then}
use Rattle.link_acceptor.proofs.acceptor.accept.Goals as goal

pub returns-in_default-accept_stream-clause-handed_on : goal.returns-in_default-accept_stream-clause-handed_on
returns-in_default-accept_stream-clause-handed_on g c =
    subst (λ (n : ℕ). RoseBy n (g.N.Net.handed_out c.args.net.now) (g.N.Net.handed_out c.accept_stream.new.net)) (sym c.stopped-in_default-accept_stream.ensures.handed_on)
    (rose_then _ _ _ _ (rose_on c.loop.handed_on c.in-Ok.count _ _ _ c.loop.invariant.handed_on c.in-Ok.ensures.one.0) c.in_default-accept_stream.ensures.handed_out)

pub loop-preserved : goal.loop-preserved
loop-preserved g c = record {
  iterator = (tt, tt);
  handed_on = rose_then _ _ _ _ (rose_on c.loop.handed_on c.in-Ok.count _ _ _ c.loop.invariant.handed_on c.in-Ok.ensures.one.0) c.in-Ok-accept_stream.ensures.handed_out;
  few = c.in-Ok.ensures.one.1;
  never = omega (arith, c.loop.invariant.never, c.in-Ok.ensures.never_falls, c.in-Ok-accept_stream.ensures.never_falls);
  back = c.in-Ok-accept_stream.ensures.handed_back ∙ (c.in-Ok.ensures.handed_back ∙ c.loop.invariant.back);
}
