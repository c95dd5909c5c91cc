-- The rules of settings of several sites that a table can break.
use Rattle.std.specs.Prelude.{◌≡◌, ◌<◌, ◌⊎◌, ℕ, ℤ, false, List, ◌∷◌, ◌++◌, length, map, Some, None, Err}
use Rattle.std.specs.Net.Grammar.{IsIpText}
use Rattle.std.specs.declared.net.ip_addr.IpAddr.{IpAddr}
use Rattle.toml.specs.Data.{Data, Members, integer, string, array, as_bool, as_integer, as_array, as_str, as_table}
use Rattle.toml.specs.View.{items_of}
use Rattle.zq_settings.specs.Addresses.{IsNoAddress}
use Rattle.zq_settings.specs.AdminKeys.{is_token}
use Rattle.zq_settings.specs.DataKeys.{sync_named}
use Rattle.zq_settings.specs.Folders.{is_folder}
use Rattle.zq_settings.specs.Keys.{is_known}
use Rattle.zq_settings.specs.Numbers.{within}
use Rattle.zq_settings.specs.PeerAddresses.{IsPeerText}
use Rattle.zq_settings.specs.Paths.{is_path}
use Rattle.zq_settings.specs.Rules.{entry_of}
use Rattle.zq_settings.specs.Settings.{rule_named, settings_of}
use Rattle.zq_settings.specs.Accepting.{accept_named}
use Rattle.zq_settings.specs.LogLevels.{log_level_named}
use Rattle.zq_settings.specs.Tables.{names_in, value_at}
use Rattle.zq_settings.specs.declared.form.Form.{Form}
use Rattle.zq_settings.specs.declared.form.Form.TheVariants as form
use Rattle.zq_settings.specs.declared.key.Key.{Key}
use Rattle.zq_settings.specs.declared.key.Key.TheVariants as key
use Rattle.zq_settings.specs.declared.peer_address.PeerAddress.{PeerAddress}
use Rattle.zq_settings.specs.declared.why.Why.{Why}
use Rattle.zq_settings.specs.declared.why.Why.TheVariants.{Unknown, Missing, Count, Kind, Range, Twice}

-- a whole number that does not lie between the bounds
abbrev pub IsOutside : ℕ → ℕ → Data → Type 0
IsOutside least most value = (z : ℤ) × (value ≡ integer z) × (within least most z ≡ None)

-- an array with such an entry behind whole numbers
abbrev pub HasEntry : (Data → Type 0) → Data → Type 0
HasEntry P value = (before : List ℕ) × (entry : Data) × (others : List Data)
    × (value ≡ array (items_of (map entry_of before ++ entry ∷ others))) × P entry

-- an array with such an entry
abbrev pub HasItem : (Data → Type 0) → Data → Type 0
HasItem P value = (before : List Data) × (entry : Data) × (others : List Data)
    × (value ≡ array (items_of (before ++ entry ∷ others))) × P entry

-- a text of which this holds
abbrev pub IsText : (List ℕ → Type 0) → Data → Type 0
IsText P value = (text : List ℕ) × (value ≡ string text) × P text

-- it writes no IP address, and no address of a peer
abbrev pub IsNoIp : List ℕ → Type 0
IsNoIp text = (ip : IpAddr) → ¬ IsIpText text ip

abbrev pub IsNoPeerAddress : List ℕ → Type 0
IsNoPeerAddress text = (address : PeerAddress) → ¬ IsPeerText text address

-- the value, or one of the entries of an array, is of another kind than the key takes
abbrev pub IsOfOtherKind : Key → Data → Type 0
IsOfOtherKind key.Ports value = (as_array value ≡ None)
    ⊎ HasEntry (λ entry. as_integer entry ≡ None) value
IsOfOtherKind key.Peers value = (as_array value ≡ None)
    ⊎ HasItem (λ entry. as_table entry ≡ None) value
IsOfOtherKind key.Heaps value = as_integer value ≡ None
IsOfOtherKind key.Workers value = as_integer value ≡ None
IsOfOtherKind key.Connections value = as_integer value ≡ None
IsOfOtherKind key.Clients value = as_integer value ≡ None
IsOfOtherKind key.Timeout value = as_integer value ≡ None
IsOfOtherKind key.WriteTimeout value = as_integer value ≡ None
IsOfOtherKind key.Output value = as_integer value ≡ None
IsOfOtherKind key.LinkBacklog value = as_integer value ≡ None
IsOfOtherKind key.Alone value = as_integer value ≡ None
IsOfOtherKind key.Accept value = as_str value ≡ None
IsOfOtherKind key.Admin value = as_str value ≡ None
IsOfOtherKind key.AdminToken value = as_str value ≡ None
IsOfOtherKind key.AdminBind value = as_str value ≡ None
IsOfOtherKind key.PasswordFile value = as_str value ≡ None
IsOfOtherKind key.Unprotected value = as_bool value ≡ None
IsOfOtherKind key.Drain value = as_integer value ≡ None
IsOfOtherKind key.Data value = as_str value ≡ None
IsOfOtherKind key.Sync value = as_str value ≡ None
IsOfOtherKind key.LogLevel value = as_str value ≡ None
IsOfOtherKind key.MaxMemory value = as_integer value ≡ None
IsOfOtherKind key.Seed value = as_integer value ≡ None
IsOfOtherKind key.Site value = as_integer value ≡ None
IsOfOtherKind key.Port value = as_integer value ≡ None
IsOfOtherKind key.PeerSite value = as_integer value ≡ None
IsOfOtherKind key.Rule value = as_str value ≡ None
IsOfOtherKind key.Bind value = as_str value ≡ None
IsOfOtherKind key.Secret value = as_str value ≡ None
IsOfOtherKind key.Listen value = as_str value ≡ None
IsOfOtherKind key.PeerAddress value = as_str value ≡ None

-- the value, or one of the entries of `ports`, is not one that the key takes
abbrev pub IsOutOfRange : Key → Data → Type 0
IsOutOfRange key.Ports value = HasEntry (IsOutside 1 65535) value
IsOutOfRange key.Peers value = ⊥
IsOutOfRange key.Heaps value = IsOutside 2 16 value
IsOutOfRange key.Workers value = IsOutside 1 64 value
IsOutOfRange key.Connections value = IsOutside 0 1000000 value
IsOutOfRange key.Clients value = IsOutside 1 1000000 value
IsOutOfRange key.Timeout value = IsOutside 0 1000000 value
IsOutOfRange key.WriteTimeout value = IsOutside 0 1000000 value
IsOutOfRange key.Output value = IsOutside 1048576 1099511627776 value
IsOutOfRange key.LinkBacklog value = IsOutside 1048576 1099511627776 value
IsOutOfRange key.Alone value = IsOutside 0 1000000 value
IsOutOfRange key.Accept value = IsText (λ word. accept_named word ≡ None) value
IsOutOfRange key.Admin value = IsText IsNoAddress value
IsOutOfRange key.AdminToken value = IsText (λ text. is_token text ≡ false) value
IsOutOfRange key.AdminBind value = IsText IsNoIp value
IsOutOfRange key.PasswordFile value = IsText (λ text. is_path text ≡ false) value
IsOutOfRange key.Unprotected value = ⊥
IsOutOfRange key.Drain value = IsOutside 0 1000000 value
IsOutOfRange key.Data value = IsText (λ text. is_folder text ≡ false) value
IsOutOfRange key.Sync value = IsText (λ word. sync_named word ≡ None) value
IsOutOfRange key.LogLevel value = IsText (λ word. log_level_named word ≡ None) value
IsOutOfRange key.MaxMemory value = IsOutside 0 1099511627776 value
IsOutOfRange key.Seed value = IsOutside 0 9223372036854775807 value
IsOutOfRange key.Site value = IsOutside 0 63 value
IsOutOfRange key.Port value = IsOutside 1 65535 value
IsOutOfRange key.PeerSite value = IsOutside 0 63 value
IsOutOfRange key.Rule value = IsText (λ word. rule_named word ≡ None) value
IsOutOfRange key.Bind value = IsText IsNoIp value
IsOutOfRange key.Secret value = IsText (λ text. length text < 16) value
IsOutOfRange key.Listen value = IsText IsNoAddress value
IsOutOfRange key.PeerAddress value = IsText IsNoPeerAddress value

-- a key that such a table does not have
abbrev pub HasUnknown : Form → List ℕ → Members → Type 0
HasUnknown form name table = (before : List (List ℕ)) × (others : List (List ℕ))
    × (names_in table ≡ before ++ name ∷ others) × (is_known form name ≡ false)

-- the rule that is broken, apart from the order of rules
abbrev pub Breaks : Members → Why → Type 0
Breaks table (Unknown form.Sites name) = HasUnknown form.Sites name table
Breaks table (Missing key.Ports) = value_at key.Ports table ≡ None
Breaks table (Count key.Ports count) = (entries : List Data)
    × (value_at key.Ports table ≡ Some (array (items_of entries))) × (length entries ≡ count)
    × ((count ≡ 0) ⊎ (64 < count))
Breaks table (Kind key) = (value : Data) × (value_at key table ≡ Some value)
    × IsOfOtherKind key value
Breaks table (Range key) = (value : Data) × (value_at key table ≡ Some value)
    × IsOutOfRange key value
Breaks table (Twice port) = (before : List ℕ) × (between : List ℕ) × (others : List ℕ)
    × (value_at key.Ports table
    ≡ Some (array (items_of (map entry_of (before ++ port ∷ (between ++ port ∷ others))))))
Breaks table _ = ⊥

-- a table is refused for a rule that it breaks
abbrev pub EachRefusalIsOfABrokenRule : Type 0
EachRefusalIsOfABrokenRule = (table : Members) (why : Why) → settings_of table ≡ Err why →
    Breaks table why
