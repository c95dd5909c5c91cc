-- What a table of settings of one site has to say, key by key.
use Rattle.std.specs.Prelude.{◌+◌, ◌≡◌, ◌≤◌, ◌⊎◌, ◌↔◌, Bool, ℕ, false, pos, List, [], ◌∷◌, length, All, IsTrue, Option, Some, None, Ok, true}
use Rattle.std.specs.Net.Grammar.{IsIpText, IsSocketText}
use Rattle.std.specs.Net.Socket.{socket_port}
use Rattle.std.specs.declared.net.ip_addr.IpAddr.{IpAddr}
use Rattle.std.specs.declared.net.socket_addr.SocketAddr.{SocketAddr}
use Rattle.toml.specs.Data.{Data, Members, boolean, integer, string, array, table as subtable}
use Rattle.toml.specs.View.{items_of}
use Rattle.zq_settings.specs.Accepting.{accept_word}
use Rattle.zq_settings.specs.Addresses.{IsLoopback, IsLoopbackIp, localhost}
use Rattle.zq_settings.specs.AdminKeys.{is_token}
use Rattle.zq_settings.specs.DataKeys.{sync_word}
use Rattle.zq_settings.specs.Folders.{is_folder}
use Rattle.zq_settings.specs.Paths.{is_path}
use Rattle.zq_settings.specs.Keys.{is_known}
use Rattle.zq_settings.specs.PeerAddresses.{IsLocalPeer, IsPeerText}
use Rattle.zq_settings.specs.Peers.{ArePeers}
use Rattle.zq_settings.specs.Rules.{AreClientLimits, IsLimit, IsLogLevel, IsNumber, IsRule}
use Rattle.zq_settings.specs.Site.{if_given, site_settings_of}
use Rattle.zq_settings.specs.Tables.{names_in, value_at}
use Rattle.zq_settings.specs.declared.accept.Accept.{Accept}
use Rattle.zq_settings.specs.declared.accept.Accept.TheVariants.{Any}
use Rattle.zq_settings.specs.declared.form.Form.TheVariants as form
use Rattle.zq_settings.specs.declared.key.Key.TheVariants as key
use Rattle.zq_settings.specs.declared.peer.Peer.{Peer}
use Rattle.zq_settings.specs.declared.peer_address.PeerAddress.{PeerAddress}
use Rattle.zq_settings.specs.declared.sync_mode.SyncMode.{SyncMode}
use Rattle.zq_settings.specs.declared.sync_mode.SyncMode.TheVariants.{Always}
use Rattle.zq_settings.specs.declared.values.AdminSettings.{AdminSettings}
use Rattle.zq_settings.specs.declared.values.Protection.{Protection}
use Rattle.zq_settings.specs.declared.values.DiskSettings.{DiskSettings}
use Rattle.zq_settings.specs.declared.values.SiteSettings.{SiteSettings}

-- the value is the number, which lies between the bounds
abbrev pub IsRequired : ℕ → ℕ → Option Data → ℕ → Type 0
IsRequired least most value n = (value ≡ Some (integer (pos n))) × (least ≤ n) × (n ≤ most)

-- there is no value, and the address is 127.0.0.1, or the value is a text that writes the address
abbrev pub IsBind : Option Data → IpAddr → Type 0
IsBind value ip = ((value ≡ None) × (ip ≡ localhost)) ⊎ ((text : List ℕ) × (value ≡ Some (string text)) × IsIpText text ip)

-- there is neither a value nor a secret, or the value is the secret, a text of at least 16 bytes
abbrev pub IsSecret : Option Data → Option (List ℕ) → Type 0
IsSecret value secret = ((value ≡ None) × (secret ≡ None)) ⊎ ((text : List ℕ) × (value ≡ Some (string text)) × (16 ≤ length text) × (secret ≡ Some text))

-- the value is a text that writes the address, with a port that is not 0; where there is no secret,
-- a loopback address
abbrev pub IsAddress : Option (List ℕ) → Option Data → SocketAddr → Type 0
IsAddress secret value address = (text : List ℕ) × (value ≡ Some (string text))
    × IsSocketText text address × (1 ≤ socket_port address) × (secret ≡ None → IsLoopback address)

-- the value is a text that writes the address of a peer; where there is no secret, a loopback
-- address or `localhost`
abbrev pub IsPeerAddress : Option (List ℕ) → Option Data → PeerAddress → Type 0
IsPeerAddress secret value address = (text : List ℕ) × (value ≡ Some (string text))
    × IsPeerText text address × (secret ≡ None → IsLocalPeer address)

-- a table has the keys of a peer alone, and they say this peer, which is another site than its own
pub record IsPeerTable (own : ℕ) (secret : Option (List ℕ)) (table : Members) (peer : Peer) : Type 0
  where
    pub known : All (λ name. IsTrue (is_known form.Peer name)) (names_in table)
    pub site : IsRequired 0 63 (value_at key.PeerSite table) peer.site
    pub other : ¬ (peer.site ≡ own)
    pub address : IsPeerAddress secret (value_at key.PeerAddress table) peer.address

abbrev pub IsPeer : ℕ → Option (List ℕ) → Data → Peer → Type 0
IsPeer own secret entry peer = (table : Members) × (entry ≡ subtable table)
    × IsPeerTable own secret table peer

-- the entries say these peers, one by one
abbrev pub AreEach : {A : Type 0} → (Data → A → Type 0) → List Data → List A → Type 0
AreEach R [] [] = Unit {0}
AreEach R (entry ∷ entries) (first ∷ others) = R entry first × AreEach R entries others
AreEach R _ _ = ⊥

-- there is no value, and there are no peers, or the value is the array of the peers, no two of
-- which have the same number
abbrev pub IsArrayOf : ℕ → Option (List ℕ) → Option Data → List Peer → Type 0
IsArrayOf own secret value peers =
    ((value ≡ None) × (peers ≡ []))
    ⊎ ((entries : List Data) × (value ≡ Some (array (items_of entries)))
    × AreEach (IsPeer own secret) entries peers × ArePeers peers)

-- there is neither a value nor a number, or the value is the number of workers
abbrev pub AreWorkers : Option Data → Option ℕ → Type 0
AreWorkers value workers = (n : ℕ) × IsNumber 1 64 4 value n × (workers ≡ if_given n value)

-- there is no value, and any site is accepted, or the value is the word of whom is
abbrev pub IsAccept : Option Data → Accept → Type 0
IsAccept value accept = ((value ≡ None) × (accept ≡ Any))
    ⊎ (value ≡ Some (string (accept_word accept)))

-- there is neither a value nor an address, or the value is a text that writes the address, which is
-- a loopback address with a port that is not 0
abbrev pub IsAdmin : Option Data → Option SocketAddr → Type 0
IsAdmin value admin = ((value ≡ None) × (admin ≡ None))
    ⊎ ((text : List ℕ) × (address : SocketAddr) × (value ≡ Some (string text))
    × IsSocketText text address × (1 ≤ socket_port address) × IsLoopback address
    × (admin ≡ Some address))

-- there is neither a value nor a token, or the value is the token
abbrev pub IsAdminToken : Option Data → Option (List ℕ) → Type 0
IsAdminToken value token = ((value ≡ None) × (token ≡ None))
    ⊎ ((text : List ℕ) × (value ≡ Some (string text)) × (is_token text ≡ true)
    × (token ≡ Some text))

-- there is neither a value nor an address, or the value is a text that writes the address; where
-- there is no token, a loopback address
abbrev pub IsAdminBind : Option (List ℕ) → Option Data → Option IpAddr → Type 0
IsAdminBind token value bind = ((value ≡ None) × (bind ≡ None))
    ⊎ ((text : List ℕ) × (ip : IpAddr) × (value ≡ Some (string text)) × IsIpText text ip
    × (token ≡ None → IsLoopbackIp ip) × (bind ≡ Some ip))

-- the admin port, key by key
pub record AreAdminKeys (table : Members) (admin : AdminSettings) : Type 0 where
  pub address : IsAdmin (value_at key.Admin table) admin.address
  pub token : IsAdminToken (value_at key.AdminToken table) admin.token
  pub bind : IsAdminBind admin.token (value_at key.AdminBind table) admin.bind

-- there is neither a value nor a file, or the value is the name of the file
abbrev pub IsPasswordFile : Option Data → Option (List ℕ) → Type 0
IsPasswordFile value file = ((value ≡ None) × (file ≡ None))
    ⊎ ((text : List ℕ) × (value ≡ Some (string text)) × (is_path text ≡ true)
    × (file ≡ Some text))

-- there is no value, and a password is wanted, or the value says whether none is
abbrev pub IsUnprotected : Option Data → Bool → Type 0
IsUnprotected value unprotected = ((value ≡ None) × (unprotected ≡ false))
    ⊎ (value ≡ Some (boolean unprotected))

-- what protects the port of clients at this address, key by key: where there is no password, and
-- it is not said that none is wanted, others do not reach it
pub record IsProtection (table : Members) (bind : IpAddr) (protection : Protection) : Type 0 where
  pub password_file : IsPasswordFile (value_at key.PasswordFile table) protection.password_file
  pub unprotected : IsUnprotected (value_at key.Unprotected table) protection.unprotected
  pub near : protection.password_file ≡ None → protection.unprotected ≡ false → IsLoopbackIp bind

-- there is neither a value nor a folder, or the value is the folder's path, a text of 1 to 3072 bytes
-- with no byte 0
abbrev pub IsData : Option Data → Option (List ℕ) → Type 0
IsData value path = ((value ≡ None) × (path ≡ None))
    ⊎ ((text : List ℕ) × (value ≡ Some (string text)) × IsTrue (is_folder text)
    × (path ≡ Some text))

-- there is no value, and all replies wait, or the value is the word of what waits
abbrev pub IsSync : Option Data → SyncMode → Type 0
IsSync value sync = ((value ≡ None) × (sync ≡ Always)) ⊎ (value ≡ Some (string (sync_word sync)))

-- what a site keeps, key by key
pub record AreDataKeys (table : Members) (disk : DiskSettings) : Type 0 where
  pub path : IsData (value_at key.Data table) disk.path
  pub sync : IsSync (value_at key.Sync table) disk.sync

-- each key of the table is known, and each value is as its key wants it
pub record IsSiteSettings (table : Members) (settings : SiteSettings) : Type 0 where
  pub known : All (λ name. IsTrue (is_known form.Site name)) (names_in table)
  pub site : IsRequired 0 63 (value_at key.Site table) settings.site
  pub port : IsRequired 1 65535 (value_at key.Port table) settings.port
  pub bind : IsBind (value_at key.Bind table) settings.bind
  pub secret : IsSecret (value_at key.Secret table) settings.secret
  pub listen : IsAddress settings.secret (value_at key.Listen table) settings.listen
  pub peers : IsArrayOf settings.site settings.secret (value_at key.Peers table) settings.peers
  pub heaps : IsNumber 2 16 4 (value_at key.Heaps table) settings.heaps
  pub workers : AreWorkers (value_at key.Workers table) settings.workers
  pub connections : IsLimit (value_at key.Connections table) settings.connections
  pub limits : AreClientLimits table settings.limits
  pub link_backlog : IsNumber 1048576 1099511627776 67108864 (value_at key.LinkBacklog table)
      settings.link_backlog
  pub alone : IsNumber 0 1000000 10 (value_at key.Alone table) settings.alone
  pub accept : IsAccept (value_at key.Accept table) settings.accept
  pub admin : AreAdminKeys table settings.admin
  pub protection : IsProtection table settings.bind settings.protection
  pub drain : IsNumber 0 1000000 10 (value_at key.Drain table) settings.drain
  pub disk : AreDataKeys table settings.disk
  pub log_level : IsLogLevel (value_at key.LogLevel table) settings.log_level
  pub max_memory : IsNumber 0 1099511627776 0 (value_at key.MaxMemory table) settings.max_memory
  pub seed : IsNumber 0 9223372036854775807 (settings.site + 1) (value_at key.Seed table)
      settings.seed
  pub rule : IsRule (value_at key.Rule table) settings.rule

-- a table has settings where it breaks no rule, and no others
abbrev pub SiteSettingsAreOfTheTable : Type 0
SiteSettingsAreOfTheTable = (table : Members) (settings : SiteSettings) →
    (site_settings_of table ≡ Ok settings) ↔ IsSiteSettings table settings
