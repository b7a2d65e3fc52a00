use Rattle.std.proofs.Common.{refl}
use Rattle.rcp_model.specs.Opens.{open_octets}
use Rattle.bgp_msg.proofs.Again.{whole_again}
use Rattle.bgp_msg.proofs.Offers.{IsMessage-open, open_fields-written, open_fault-written}
use Rattle.bgp_msg.proofs.laws.written_open_is_read_again.Goals as goal

pub returns : goal.returns
returns c = record {
  whole = IsMessage-open;
  kind = λ offer. refl;
  fields = open_fields-written;
  fault = open_fault-written;
  again = λ offer more. whole_again (open_octets offer) more (IsMessage-open offer);
}
