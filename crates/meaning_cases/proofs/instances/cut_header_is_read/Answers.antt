use Rattle.meaning_cases.proofs.Computed.{in_pieces_is}
use Rattle.meaning_cases.proofs.instances.cut_header_is_read.Goals as goal

pub returns : goal.returns
returns c = in_pieces_is
