use Rattle.lsa_reader.proofs.Sums.{sums_more}
use Rattle.ospf_words.proofs.checksums.sums.Goals as goal

pub loop-octet-preserved : goal.loop-octet-preserved
loop-octet-preserved c =
    sums_more c.args.octets.now c.loop-octet.octet-index _ _ _ c.loop-octet-test.true c.from.ensures c.loop-octet.invariant.0 c.loop-octet.invariant.1
