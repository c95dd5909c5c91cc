-- The rules of settings of one site that a table can break.
use Rattle.std.specs.Prelude.{◌≡◌, ◌<◌, true, ℕ, pos, List, ◌∷◌, ◌++◌, length, Some, None, Err}
use Rattle.std.specs.Net.Grammar.{IsIpText, IsSocketText}
use Rattle.std.specs.declared.net.ip_addr.IpAddr.{IpAddr}
use Rattle.std.specs.declared.net.socket_addr.SocketAddr.{SocketAddr}
use Rattle.toml.specs.Data.{Data, Members, boolean, integer, string, array, table as subtable}
use Rattle.toml.specs.View.{items_of}
use Rattle.zq_settings.specs.Addresses.{IsLoopback, IsLoopbackIp}
use Rattle.zq_settings.specs.Breaks.{HasUnknown, IsOfOtherKind, IsOutOfRange}
use Rattle.zq_settings.specs.PeerAddresses.{IsLocalPeer, IsPeerText}
use Rattle.zq_settings.specs.Site.{site_settings_of}
use Rattle.zq_settings.specs.Tables.{value_at}
use Rattle.zq_settings.specs.declared.form.Form.TheVariants as form
use Rattle.zq_settings.specs.declared.key.Key.{Key}
use Rattle.zq_settings.specs.declared.key.Key.TheVariants as key
use Rattle.zq_settings.specs.declared.peer_address.PeerAddress.{PeerAddress}
use Rattle.zq_settings.specs.declared.why.Why.{Why}
use Rattle.zq_settings.specs.declared.why.Why.TheVariants.{Unknown, Missing, Count, Kind, Range, PeerTwice, OwnPeer, Exposed}

-- the value is an array, of which one entry is such a table
abbrev pub HasPeer : (Members → Type 0) → Members → Type 0
HasPeer P table = (before : List Data) × (peer : Members) × (others : List Data)
    × (value_at key.Peers table ≡ Some (array (items_of (before ++ subtable peer ∷ others))))
    × P peer

-- this holds of the table that the key is of: of a peer's for the keys of peers
abbrev pub HasKey : Key → (Members → Type 0) → Members → Type 0
HasKey key.PeerSite P table = HasPeer P table
HasKey key.PeerAddress P table = HasPeer P table
HasKey key P table = P table

-- the key has such a value
abbrev pub HasValue : Key → (Data → Type 0) → Members → Type 0
HasValue key P table =
    HasKey key (λ t. (value : Data) × (value_at key t ≡ Some value) × P value) table

-- two entries at different places are peers with this number
abbrev pub HasTwice : ℕ → Members → Type 0
HasTwice site table = (before : List Data) × (first : Members) × (between : List Data)
    × (second : Members) × (others : List Data)
    × (value_at key.Peers table
    ≡ Some (array (items_of
    (before ++ subtable first ∷ (between ++ subtable second ∷ others)))))
    × (value_at key.PeerSite first ≡ Some (integer (pos site)))
    × (value_at key.PeerSite second ≡ Some (integer (pos site)))

-- a text that writes an address that is no loopback address; of a peer, neither that nor `localhost`
abbrev pub IsExposed : Key → Data → Type 0
IsExposed key.PeerAddress value = (text : List ℕ) × (address : PeerAddress)
    × (value ≡ string text) × IsPeerText text address × ¬ IsLocalPeer address
IsExposed key.AdminBind value = (text : List ℕ) × (ip : IpAddr) × (value ≡ string text)
    × IsIpText text ip × ¬ IsLoopbackIp ip
IsExposed key.Bind value = (text : List ℕ) × (ip : IpAddr) × (value ≡ string text)
    × IsIpText text ip × ¬ IsLoopbackIp ip
IsExposed key value = (text : List ℕ) × (address : SocketAddr) × (value ≡ string text)
    × IsSocketText text address × ¬ IsLoopback address

-- the rule that is broken, apart from the order of rules; where `admin` is exposed, with a secret
-- too; where `admin_bind` is, there is no token; and where `bind` is, there is no password, nor is
-- it said that none is wanted
abbrev pub SiteBreaks : Members → Why → Type 0
SiteBreaks table (Unknown form.Site name) = HasUnknown form.Site name table
SiteBreaks table (Unknown form.Peer name) = HasPeer (HasUnknown form.Peer name) table
SiteBreaks table (Missing key) = HasKey key (λ t. value_at key t ≡ None) table
SiteBreaks table (Count key.Peers count) = (entries : List Data)
    × (value_at key.Peers table ≡ Some (array (items_of entries))) × (length entries ≡ count)
    × (63 < count)
SiteBreaks table (Kind key) = HasValue key (IsOfOtherKind key) table
SiteBreaks table (Range key) = HasValue key (IsOutOfRange key) table
SiteBreaks table (PeerTwice site) = HasTwice site table
SiteBreaks table (OwnPeer site) = (value_at key.Site table ≡ Some (integer (pos site)))
    × HasPeer (λ peer. value_at key.PeerSite peer ≡ Some (integer (pos site))) table
SiteBreaks table (Exposed key.Admin) = HasValue key.Admin (IsExposed key.Admin) table
SiteBreaks table (Exposed key.AdminBind) = (value_at key.AdminToken table ≡ None)
    × HasValue key.AdminBind (IsExposed key.AdminBind) table
SiteBreaks table (Exposed key.Bind) = (value_at key.PasswordFile table ≡ None)
    × ¬ (value_at key.Unprotected table ≡ Some (boolean true))
    × HasValue key.Bind (IsExposed key.Bind) table
SiteBreaks table (Exposed address) = (value_at key.Secret table ≡ None)
    × HasValue address (IsExposed address) table
SiteBreaks table _ = ⊥

-- a table is refused for a rule that it breaks
abbrev pub EachRefusalOfASiteIsOfABrokenRule : Type 0
EachRefusalOfASiteIsOfABrokenRule = (table : Members) (why : Why) →
    site_settings_of table ≡ Err why → SiteBreaks table why
