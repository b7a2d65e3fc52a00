-- Messages that are written: KEEPALIVE (RFC 4271 section 4.4), and how long the data of a NOTIFICATION is (section 4.5).
use Rattle.std.specs.Prelude.{ℕ, List, []}
use Rattle.bgp_fault.specs.declared.Data.{Data}
use Rattle.bgp_fault.specs.declared.Data.TheVariants as extra
use Rattle.rcp_model.specs.Messages.{message_octets}

-- no body
abbrev pub keepalive_octets : List ℕ
keepalive_octets = message_octets 4 []

-- how many octets the data of a fault has
abbrev pub data_length : Data → ℕ
data_length extra.None = 0
data_length (extra.Octet n) = 1
data_length (extra.Pair n) = 2
data_length (extra.Span start len) = len
