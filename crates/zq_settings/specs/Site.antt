-- The settings of one site that a table has, or the first rule that it breaks.
use Rattle.std.specs.Prelude.{ℕ, ◌+◌, ◌==◌, nat_lt, ◌||◌, Bool, false, List, [], length, Option, Some, None, Result, Ok, Err, if◌then◌else◌, option_map}
use Rattle.std.specs.Option.{is_some, ok_or}
use Rattle.std.specs.declared.net.ip_addr.IpAddr.{IpAddr}
use Rattle.std.specs.declared.net.socket_addr.SocketAddr.{SocketAddr}
use Rattle.toml.specs.Data.{Data, Items, Members, as_array, as_str, as_table}
use Rattle.zq_settings.specs.Addresses.{address_of, ip_of, is_local, localhost}
use Rattle.zq_settings.specs.AdminKeys.{admin_bind_of, admin_token_of}
use Rattle.zq_settings.specs.Accepting.{accept_named}
use Rattle.zq_settings.specs.DataKeys.{data_keys_of}
use Rattle.zq_settings.specs.PeerAddresses.{is_local_peer, peer_address_of}
use Rattle.zq_settings.specs.Peers.{sites_of}
use Rattle.zq_settings.specs.Ports.{first_twice}
use Rattle.zq_settings.specs.Protecting.{protection_of}
use Rattle.zq_settings.specs.Settings.{◌>>=◌, common_of, count_of, each, known_keys, log_level_of, number_of, required_of, rule_of, site_of}
use Rattle.zq_settings.specs.Tables.{value_at}
use Rattle.zq_settings.specs.declared.accept.Accept.{Accept}
use Rattle.zq_settings.specs.declared.accept.Accept.TheVariants.{Any}
use Rattle.zq_settings.specs.declared.form.Form.TheVariants as form
use Rattle.zq_settings.specs.declared.key.Key.{Key}
use Rattle.zq_settings.specs.declared.key.Key.TheVariants as key
use Rattle.zq_settings.specs.declared.peer.Peer.{Peer}
use Rattle.zq_settings.specs.declared.peer_address.PeerAddress.{PeerAddress}
use Rattle.zq_settings.specs.declared.values.AdminSettings.{AdminSettings}
use Rattle.zq_settings.specs.declared.values.SiteSettings.{SiteSettings}
use Rattle.zq_settings.specs.declared.why.Why.{Why}
use Rattle.zq_settings.specs.declared.why.Why.TheVariants.{Missing, Count, Kind, Range, PeerTwice, OwnPeer, Exposed}

-- the address, which without a secret is a loopback address
abbrev pub unless_exposed : Bool → Key → SocketAddr → Result SocketAddr Why
unless_exposed secured key address =
    if secured || is_local address then Ok address else Err (Exposed key)

-- an address with a port, which has to be there
abbrev pub address_at : Bool → Key → Option Data → Result SocketAddr Why
address_at secured key None = Err (Missing key)
address_at secured key (Some value) =
    ok_or (as_str value) (Kind key) >>=
    (λ text. ok_or (address_of text) (Range key) >>= unless_exposed secured key)

-- the address of a peer, which without a secret is a loopback address or `localhost`
abbrev pub unless_far : Bool → PeerAddress → Result PeerAddress Why
unless_far secured address =
    if secured || is_local_peer address then Ok address else Err (Exposed key.PeerAddress)

-- the address of a peer, which has to be there
abbrev pub peer_address_at : Bool → Option Data → Result PeerAddress Why
peer_address_at secured None = Err (Missing key.PeerAddress)
peer_address_at secured (Some value) =
    ok_or (as_str value) (Kind key.PeerAddress) >>=
    (λ text. ok_or (peer_address_of text) (Range key.PeerAddress) >>= unless_far secured)

-- an address, and 127.0.0.1 where there is no value
abbrev pub bind_of : Option Data → Result IpAddr Why
bind_of None = Ok localhost
bind_of (Some value) = ok_or (as_str value) (Kind key.Bind) >>=
    (λ text. ok_or (ip_of text) (Range key.Bind))

-- a text of at least 16 bytes
abbrev pub unless_short : List ℕ → Result (Option (List ℕ)) Why
unless_short text = if nat_lt (length text) 16 then Err (Range key.Secret) else Ok (Some text)

-- a secret, where there is one
abbrev pub secret_of : Option Data → Result (Option (List ℕ)) Why
secret_of None = Ok None
secret_of (Some value) = ok_or (as_str value) (Kind key.Secret) >>= unless_short

-- the number of another site
abbrev pub unless_own : ℕ → ℕ → Result ℕ Why
unless_own own site = if site == own then Err (OwnPeer site) else Ok site

-- the peer that a table has
abbrev pub peer_at : ℕ → Bool → Members → Result Peer Why
peer_at own secured table =
    known_keys form.Peer table >>= (λ known.
    site_of key.PeerSite (value_at key.PeerSite table) >>= (λ number.
    unless_own own number >>= (λ site.
    peer_address_at secured (value_at key.PeerAddress table) >>= (λ address.
    Ok (record { site = site; address = address })))))

-- an entry that is a peer
abbrev pub peer_of : ℕ → Bool → Data → Result Peer Why
peer_of own secured entry = ok_or (as_table entry) (Kind key.Peers) >>= peer_at own secured

-- the peers, unless two of them have the same number
abbrev pub unless_met : Option ℕ → List Peer → Result (List Peer) Why
unless_met None peers = Ok peers
unless_met (Some site) peers = Err (PeerTwice site)

abbrev pub apart : List Peer → Result (List Peer) Why
apart peers = unless_met (first_twice (sites_of peers)) peers

-- the peers of at most 63 entries
abbrev pub peers_in : ℕ → Bool → Items → Result (List Peer) Why
peers_in own secured entries =
    if nat_lt 63 (count_of entries) then Err (Count key.Peers (count_of entries))
    else each (peer_of own secured) entries >>= apart

-- the peers of an array, and none where there is no value
abbrev pub peers_of : ℕ → Bool → Option Data → Result (List Peer) Why
peers_of own secured None = Ok []
peers_of own secured (Some value) = ok_or (as_array value) (Kind key.Peers) >>= peers_in own secured

-- a number, where there is a value
abbrev pub if_given : ℕ → Option Data → Option ℕ
if_given n value = option_map (λ _. n) value

-- how many bytes of operations are kept for peers, and 64 MiB where there is no value
abbrev pub link_backlog_of : Option Data → Result ℕ Why
link_backlog_of value = number_of key.LinkBacklog 1048576 1099511627776 67108864 value

-- how many seconds a site waits for its peers, and 10 where there is no value
abbrev pub alone_of : Option Data → Result ℕ Why
alone_of value = number_of key.Alone 0 1000000 10 value

-- whom a site accepts by its word, and any where there is no value
abbrev pub accept_of : Option Data → Result Accept Why
accept_of None = Ok Any
accept_of (Some value) = ok_or (as_str value) (Kind key.Accept) >>=
    (λ word. ok_or (accept_named word) (Range key.Accept))

-- where the admin port is, a loopback address as without a secret, and none where there is no value
abbrev pub admin_of : Option Data → Result (Option SocketAddr) Why
admin_of None = Ok None
admin_of (Some value) = address_at false key.Admin (Some value) >>= (λ address. Ok (Some address))

-- the keys of the admin port
abbrev pub admin_keys_of : Members → Result AdminSettings Why
admin_keys_of table =
    admin_of (value_at key.Admin table) >>= (λ address.
    admin_token_of (value_at key.AdminToken table) >>= (λ token.
    admin_bind_of (is_some token) (value_at key.AdminBind table) >>= (λ bind.
    Ok (record { address = address; token = token; bind = bind }))))

-- how many seconds a site that ends waits for its peers, and 10 where there is no value
abbrev pub drain_of : Option Data → Result ℕ Why
drain_of value = number_of key.Drain 0 1000000 10 value

-- how many bytes of memory a process may take, and 0, which is no bound, where there is no value
abbrev pub max_memory_of : Option Data → Result ℕ Why
max_memory_of value = number_of key.MaxMemory 0 1099511627776 0 value

-- what the draws of a site are made with, and its number and 1 where there is no value
abbrev pub site_seed_of : ℕ → Option Data → Result ℕ Why
site_seed_of site value = number_of key.Seed 0 9223372036854775807 (site + 1) value

-- the values of the keys in turn, in a table with no other key
abbrev pub site_values_of : Members → Result SiteSettings Why
site_values_of table =
    site_of key.Site (value_at key.Site table) >>= (λ site.
    required_of key.Port 1 65535 (value_at key.Port table) >>= (λ port.
    bind_of (value_at key.Bind table) >>= (λ bind.
    secret_of (value_at key.Secret table) >>= (λ secret.
    address_at (is_some secret) key.Listen (value_at key.Listen table) >>= (λ listen.
    peers_of site (is_some secret) (value_at key.Peers table) >>= (λ peers.
    common_of table >>= (λ common.
    link_backlog_of (value_at key.LinkBacklog table) >>= (λ link_backlog.
    alone_of (value_at key.Alone table) >>= (λ alone.
    accept_of (value_at key.Accept table) >>= (λ accept.
    admin_keys_of table >>= (λ admin.
    protection_of bind table >>= (λ protection.
    drain_of (value_at key.Drain table) >>= (λ drain.
    data_keys_of table >>= (λ disk.
    log_level_of (value_at key.LogLevel table) >>= (λ log_level.
    max_memory_of (value_at key.MaxMemory table) >>= (λ max_memory.
    site_seed_of site (value_at key.Seed table) >>= (λ seed.
    rule_of (value_at key.Rule table) >>= (λ rule.
    Ok (record {
      site = site;
      port = port;
      bind = bind;
      listen = listen;
      peers = peers;
      heaps = common.heaps;
      rule = rule;
      workers = if_given common.workers (value_at key.Workers table);
      connections = common.connections;
      limits = common.limits;
      link_backlog = link_backlog;
      alone = alone;
      accept = accept;
      admin = admin;
      protection = protection;
      drain = drain;
      disk = disk;
      log_level = log_level;
      max_memory = max_memory;
      seed = seed;
      secret = secret;
    })))))))))))))))))))

-- the settings that a table has, or the first rule that it breaks
abbrev pub site_settings_of : Members → Result SiteSettings Why
site_settings_of table = known_keys form.Site table >>= (λ known. site_values_of table)
