use Rattle.std.proofs.Common.{refl}
use Rattle.bgp_msg.specs.Written.{keepalive_octets}
use Rattle.bgp_msg.proofs.Again.{whole_again, IsMessage-keepalive}
use Rattle.bgp_msg.proofs.laws.written_keepalive_is_read_again.Goals as goal

pub returns : goal.returns
returns c = record {
  whole = IsMessage-keepalive;
  kind = refl;
  body = refl;
  again = λ more. whole_again keepalive_octets more IsMessage-keepalive;
}
