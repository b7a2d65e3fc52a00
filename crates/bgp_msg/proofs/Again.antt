-- Messages that are written are whole, and are read again whatever follows them.
use Rattle.std.proofs.Common.{◌≡◌, ℕ, ◌+◌, ◌≤◌, false, List, [], ◌∷◌, ◌++◌, length, refl, arith}
use Rattle.std.proofs.lemmas.Bool.{or_from, le-ltb}
use Rattle.std.proofs.Common.{ltb}
use Rattle.rcp_model.specs.Messages.{FaultOf, is_outside, IsMessage, messages_in, notification_octets}
use Rattle.rcp_model.proofs.ReadingLemmas.{IsMessage-message_octets, messages_in-cons}
use Rattle.bgp_msg.specs.Written.{keepalive_octets}

pub whole_again : (message more : List ℕ) → IsMessage message → messages_in (message ++ more) ≡ message ∷ messages_in more
whole_again message more whole = (messages_in-cons message more whole).0

-- a number within bounds isn't outside
pub within_bounds : (low high n : ℕ) → low ≤ n → n ≤ high → is_outside low high n ≡ false
within_bounds low high n least most = or_from (ltb n low) (ltb high n) (le-ltb n low least) (le-ltb high n most)

pub IsMessage-keepalive : IsMessage keepalive_octets
IsMessage-keepalive = IsMessage-message_octets 4 [] (omega arith) refl refl

pub IsMessage-notification : (fault : FaultOf) → length fault.content ≤ 4075 → IsMessage (notification_octets fault)
IsMessage-notification fault short =
    IsMessage-message_octets 3 (fault.code ∷ fault.sub ∷ fault.content) (omega arith) refl
    (within_bounds 21 4096 (19 + length (fault.code ∷ fault.sub ∷ fault.content)) (omega arith) (omega arith))
