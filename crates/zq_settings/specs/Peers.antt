-- Lists of peers.
use Rattle.std.specs.Prelude.{ℕ, ◌≤◌, nat_eq, List, length, map}
use Rattle.std.specs.List.{IsDistinct}
use Rattle.zq_settings.specs.declared.peer.Peer.{Peer}

-- the numbers of the peers
abbrev pub sites_of : List Peer → List ℕ
sites_of peers = map (λ peer. peer.site) peers

-- at most 63 peers, no two of which have the same number
abbrev pub ArePeers : List Peer → Type 0
ArePeers peers = (length peers ≤ 63) × IsDistinct nat_eq (sites_of peers)
