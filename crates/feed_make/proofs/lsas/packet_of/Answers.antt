use Rattle.std.proofs.Common.{◌++◌, sym, ◌∙◌}
use Rattle.feed_make.specs.Checksums.{lsa_octets}
use Rattle.feed_make.proofs.Lengths.{lsas-more}
use Rattle.feed_make.proofs.lsas.packet_of.Goals as goal

pub loop-router-preserved : goal.loop-router-preserved
loop-router-preserved c =
    let n = c.args.network.now in
    c.in_ok-add_lsa.ensures
    ∙ (λ i. c.loop-router.invariant i ++ lsa_octets (c.in_ok-lsa.ensures.lsa i))
    ∙ sym (lsas-more n.number n.changes c.args.routers.now c.loop-router.router-index c.loop-router-test.true)
