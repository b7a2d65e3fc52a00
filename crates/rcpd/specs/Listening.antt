-- Where the daemon listens.
use Rattle.std.specs.Prelude.{◌≡◌}
use Rattle.std.specs.declared.net.ip_addr.IpAddr.TheVariants as ip
use Rattle.std.specs.declared.net.ipv4_addr.Ipv4Addr.{Ipv4Addr}
use Rattle.std.specs.declared.net.socket_addr.SocketAddr.{SocketAddr}
use Rattle.std.specs.Net.Addr.{IsIpv4OfBits}
use Rattle.std.specs.Net.Socket.{socket_ip, socket_port}
use Rattle.rcpd_words.specs.declared.settings.Endpoint.{Endpoint}

-- the socket address has the endpoint's address and port
pub record IsAt (at : SocketAddr) (endpoint : Endpoint) : Type 0 where
  pub address : Ipv4Addr
  pub ip_is : socket_ip at ≡ ip.V4 address
  pub bits : IsIpv4OfBits address endpoint.address
  pub port : socket_port at ≡ endpoint.port
