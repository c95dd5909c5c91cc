-- The addresses that texts write, as the library reads them.
use Rattle.std.specs.Prelude.{◌≡◌, ℕ, ◌==◌, List, [], ◌∷◌, take, Bool, Option, Some, None, option_map, if◌then◌else◌}
use Rattle.std.specs.Net.Addr.{MatchIp, IsLoopbackV4, IsLoopbackV6, ipv4_octets, ipv6_segments}
use Rattle.std.specs.Net.Grammar.{IsSocketText}
use Rattle.std.specs.Net.Reader.{read_ipv4, read_ipv6, read_socket_v4, read_socket_v6, whole_value}
use Rattle.std.specs.Net.Socket.{socket_ip, socket_port}
use Rattle.std.specs.Str.{bytes_eq}
use Rattle.std.specs.declared.net.ip_addr.IpAddr.{IpAddr}
use Rattle.std.specs.declared.net.ip_addr.IpAddr.TheVariants as ip
use Rattle.std.specs.declared.net.socket_addr.SocketAddr.{SocketAddr}
use Rattle.std.specs.declared.net.socket_addr.SocketAddr.TheVariants as socket

-- the first of two that is there
abbrev pub first_of_two : {A : Type 0} → Option A → Option A → Option A
first_of_two (Some a) other = Some a
first_of_two None other = other

-- the IPv4 address of four octets, and the IPv6 address of eight segments
abbrev pub v4 : List ℕ → IpAddr
v4 octets = ip.V4 (record { octets = octets })

abbrev pub v6 : List ℕ → IpAddr
v6 segments = ip.V6 (record { segments = segments })

-- 127.0.0.1
abbrev pub localhost : IpAddr
localhost = v4 (127 ∷ 0 ∷ 0 ∷ 1 ∷ [])

-- the IP address that a text writes
abbrev pub ip_of : List ℕ → Option IpAddr
ip_of text = first_of_two (option_map v4 (whole_value (read_ipv4 text)))
    (option_map v6 (whole_value (read_ipv6 text)))

-- the address with a port, of what is read
abbrev pub socket_v4 : List ℕ × ℕ → SocketAddr
socket_v4 parts = socket.V4 (record { ip = record { octets = parts.0 }; port = parts.1 })

abbrev pub socket_v6 : List ℕ × ℕ × ℕ × ℕ → SocketAddr
socket_v6 parts = socket.V6
    (record { ip = record { segments = parts.0 }; port = parts.1; flowinfo = parts.2; scope_id = parts.3 })

-- the address with a port that a text writes
abbrev pub socket_of : List ℕ → Option SocketAddr
socket_of text = first_of_two (option_map socket_v4 (whole_value (read_socket_v4 text)))
    (option_map socket_v6 (whole_value (read_socket_v6 text)))

-- the address, unless its port is 0
abbrev pub unless_zero : Option SocketAddr → Option SocketAddr
unless_zero None = None
unless_zero (Some address) = if socket_port address == 0 then None else Some address

-- the address that a text writes, with a port that is not 0
abbrev pub address_of : List ℕ → Option SocketAddr
address_of text = unless_zero (socket_of text)

-- a loopback address: 127.0.0.0/8 or ::1
abbrev pub is_loopback : IpAddr → Bool
is_loopback (ip.V4 a) = bytes_eq (take 1 (ipv4_octets a)) (127 ∷ [])
is_loopback (ip.V6 a) = bytes_eq (ipv6_segments a) (0 ∷ 0 ∷ 0 ∷ 0 ∷ 0 ∷ 0 ∷ 0 ∷ 1 ∷ [])

abbrev pub is_local : SocketAddr → Bool
is_local address = is_loopback (socket_ip address)

abbrev pub IsLoopback : SocketAddr → Type 0
IsLoopback address = MatchIp (socket_ip address) IsLoopbackV4 IsLoopbackV6

abbrev pub IsLoopbackIp : IpAddr → Type 0
IsLoopbackIp ip = MatchIp ip IsLoopbackV4 IsLoopbackV6

-- a text writes no address with a port that is not 0
abbrev pub IsNoAddress : List ℕ → Type 0
IsNoAddress text = (address : SocketAddr) → IsSocketText text address → socket_port address ≡ 0
