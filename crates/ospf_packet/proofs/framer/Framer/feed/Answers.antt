-- The header's octets and those after it were copied one after the other.
use Rattle.ospf_packet.proofs.Filling.{filled_twice, framing_with}
use Rattle.ospf_packet.proofs.framer.Framer.feed.Goals as goal

pub returns-clause-taken : goal.returns-clause-taken
returns-clause-taken c =
    framing_with _ _ _ _ _ c.self.view_is
    (filled_twice _ c.args.piece.now _ _ _ _ _ c.split_at-2.ensures.back c.fill-count.ensures.filled c.fill-more.ensures.filled)
