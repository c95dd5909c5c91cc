-- Where the reading of a table asks for memory: nowhere else is it refused.
use Rattle.std.specs.Prelude.{◌≡◌, ◌≤◌, ◌⊎◌, ℕ, IsTrue, List, length, Option, Some, Ok}
use Rattle.std.specs.Option.{IsSome, is_some}
use Rattle.std.specs.declared.net.ip_addr.IpAddr.{IpAddr}
use Rattle.std.specs.declared.net.socket_addr.SocketAddr.{SocketAddr}
use Rattle.toml.specs.Data.{Data, Items, Members, array, string}
use Rattle.zq_settings.specs.AdminKeys.{is_token}
use Rattle.zq_settings.specs.Folders.{is_folder}
use Rattle.zq_settings.specs.Paths.{is_path}
use Rattle.zq_settings.specs.Settings.{count_of, known_keys, required_of, site_of}
use Rattle.zq_settings.specs.Site.{address_at, bind_of, secret_of}
use Rattle.zq_settings.specs.Tables.{first_unknown, value_at}
use Rattle.zq_settings.specs.declared.form.Form.{Form}
use Rattle.zq_settings.specs.declared.form.Form.TheVariants as form
use Rattle.zq_settings.specs.declared.key.Key.TheVariants as key

-- for the name of a key that tables of this kind do not have
abbrev pub AsksForName : Form → Members → Type 0
AsksForName form table = IsSome (first_unknown form table)

-- for a list of so many entries
abbrev pub AsksForList : ℕ → Items → Type 0
AsksForList most entries = (1 ≤ count_of entries) × (count_of entries ≤ most)

-- for the ports of an array, or the peers
abbrev pub AsksForEntries : ℕ → Option Data → Type 0
AsksForEntries most value = (entries : Items) × (value ≡ Some (array entries))
    × AsksForList most entries

-- for a copy of a secret
abbrev pub AsksForSecret : Option Data → Type 0
AsksForSecret value = (text : List ℕ) × (value ≡ Some (string text)) × (16 ≤ length text)

-- for a copy of a token
abbrev pub AsksForToken : Option Data → Type 0
AsksForToken value = (text : List ℕ) × (value ≡ Some (string text)) × IsTrue (is_token text)

-- for a copy of the name of a file
abbrev pub AsksForPath : Option Data → Type 0
AsksForPath value = (text : List ℕ) × (value ≡ Some (string text)) × IsTrue (is_path text)

-- for a copy of the path of a folder
abbrev pub AsksForFolder : Option Data → Type 0
AsksForFolder value = (text : List ℕ) × (value ≡ Some (string text)) × IsTrue (is_folder text)

-- of several sites: for a key that is not known, or for the ports where each is known
abbrev pub AsksOfSites : Members → Type 0
AsksOfSites table = AsksForName form.Sites table
    ⊎ ((known_keys form.Sites table ≡ Ok tt) × AsksForEntries 64 (value_at key.Ports table))

-- of one site: for its peers, where the secret and the address before them can be read
pub record AsksForPeers (table : Members) : Type 0 where
  pub secret : Option (List ℕ)
  pub secret_is : secret_of (value_at key.Secret table) ≡ Ok secret
  pub listen : SocketAddr
  pub listen_is : address_at (is_some secret) key.Listen (value_at key.Listen table) ≡ Ok listen
  pub peers : AsksForEntries 63 (value_at key.Peers table)

-- for its secret, its peers, its token, the name of its password's file or its folder, where the
-- values before can be read
pub record AsksForValues (table : Members) : Type 0 where
  pub site : ℕ
  pub site_is : site_of key.Site (value_at key.Site table) ≡ Ok site
  pub port : ℕ
  pub port_is : required_of key.Port 1 65535 (value_at key.Port table) ≡ Ok port
  pub bind : IpAddr
  pub bind_is : bind_of (value_at key.Bind table) ≡ Ok bind
  pub next : (((AsksForSecret (value_at key.Secret table) ⊎ AsksForPeers table)
      ⊎ AsksForToken (value_at key.AdminToken table))
      ⊎ AsksForPath (value_at key.PasswordFile table))
      ⊎ AsksForFolder (value_at key.Data table)

-- for a key that is not known, or for these where each is known
abbrev pub AsksOfSite : Members → Type 0
AsksOfSite table = AsksForName form.Site table
    ⊎ ((known_keys form.Site table ≡ Ok tt) × AsksForValues table)
