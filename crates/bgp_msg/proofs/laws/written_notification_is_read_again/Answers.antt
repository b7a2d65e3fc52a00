use Rattle.rcp_model.specs.Messages.{notification_octets}
use Rattle.std.proofs.Common.{refl}
use Rattle.bgp_msg.proofs.Again.{whole_again, IsMessage-notification}
use Rattle.bgp_msg.proofs.laws.written_notification_is_read_again.Goals as goal

pub returns : goal.returns
returns c = record {
  whole = IsMessage-notification;
  kind = λ fault. refl;
  body = λ fault. refl;
  again = λ fault more short. whole_again (notification_octets fault) more (IsMessage-notification fault short);
}
