-- Where peers listen.
use Rattle.std.specs.Net.Grammar.{IsNumber, IsSocketText}
use Rattle.std.specs.Net.Socket.{socket_port}
use Rattle.std.specs.Net.Text.{socket_text}
use Rattle.std.specs.Prelude.{Bool, List, Option, codes, decimal, map, option_map, ℕ, ◌++◌, ◌≡◌, ◌≤◌}
use Rattle.std.specs.Char.{to_ascii_lowercase}
use Rattle.std.specs.declared.net.socket_addr.SocketAddr.{SocketAddr}
use Rattle.zq_settings.specs.Addresses.{IsLoopback, address_of, first_of_two, is_local}
use Rattle.zq_settings.specs.Hosts.{IsHost, is_localhost, named_in}
use Rattle.zq_settings.specs.declared.peer_address.PeerAddress.{PeerAddress}
use Rattle.zq_settings.specs.declared.peer_address.PeerAddress.TheVariants.{Ip, Named}

-- the name of a host and a port
abbrev pub named : List ℕ × ℕ → PeerAddress
named parts = Named parts.0 parts.1

-- the address that a text writes: an IP address with a port that is not 0, or a name and a port
abbrev pub peer_address_of : List ℕ → Option PeerAddress
peer_address_of text = first_of_two (option_map Ip (address_of text))
    (option_map named (named_in text))

-- a loopback address, or the name `localhost`
abbrev pub is_local_peer : PeerAddress → Bool
is_local_peer (Ip address) = is_local address
is_local_peer (Named name port) = is_localhost name

-- how an address is written
abbrev pub peer_address_text : PeerAddress → List ℕ
peer_address_text (Ip address) = socket_text address
peer_address_text (Named name port) = name ++ (codes ":" ++ decimal port)

-- a text that writes an address with a port that is not 0
abbrev pub IsAddressText : List ℕ → SocketAddr → Type 0
IsAddressText text address = IsSocketText text address × (1 ≤ socket_port address)

-- it is the name of a host, a colon, and the port in decimal digits, maybe with zeros before them
abbrev pub IsNamedText : List ℕ → List ℕ → ℕ → Type 0
IsNamedText text name port = (digits : List ℕ) × (text ≡ name ++ (codes ":" ++ digits)) × IsHost name
    × IsNumber 10 digits port × (1 ≤ port) × (port ≤ 65535)

-- a text that writes the address of a peer
abbrev pub IsPeerText : List ℕ → PeerAddress → Type 0
IsPeerText text (Ip address) = IsAddressText text address
IsPeerText text (Named name port) = IsNamedText text name port

-- `localhost`, in small letters or in capital ones
abbrev pub IsLocalhost : List ℕ → Type 0
IsLocalhost name = map to_ascii_lowercase name ≡ codes "localhost"

-- an address of this host alone
abbrev pub IsLocalPeer : PeerAddress → Type 0
IsLocalPeer (Ip address) = IsLoopback address
IsLocalPeer (Named name port) = IsLocalhost name
