-- Why a text of settings is refused, in words.

use Rattle.std.specs.Fmt.{debug_str, option_append}
use Rattle.std.specs.Prelude.{List, None, Option, Some, [], codes, decimal, ℕ, ◌++◌}
use Rattle.zq_settings.specs.Keys.{name_of}
use Rattle.zq_settings.specs.declared.fault.SettingsFault.{SettingsFault}
use Rattle.zq_settings.specs.declared.fault.SettingsFault.TheVariants.{NoMemory, Refused}
use Rattle.zq_settings.specs.declared.form.Form.{Form}
use Rattle.zq_settings.specs.declared.form.Form.TheVariants as form
use Rattle.zq_settings.specs.declared.key.Key.{Key}
use Rattle.zq_settings.specs.declared.key.Key.TheVariants as key
use Rattle.zq_settings.specs.declared.why.Why.{Why}
use Rattle.zq_settings.specs.declared.why.Why.TheVariants as why

-- whose key it is, before its name
abbrev pub owner_of : Key → List ℕ
owner_of key.PeerSite = codes "a peer's "
owner_of key.PeerAddress = codes "a peer's "
owner_of other = []

-- what the key's value has to be
abbrev pub takes_of : Key → List ℕ
takes_of key.Ports = codes "an array of 1 to 64 different port numbers from 1 to 65535"
takes_of key.Heaps = codes "a whole number from 2 to 16"
takes_of key.Workers = codes "a whole number from 1 to 64"
takes_of key.Connections = codes "a whole number from 0 to 1000000"
takes_of key.Clients = codes "a whole number from 1 to 1000000"
takes_of key.Timeout = codes "a whole number from 0 to 1000000"
takes_of key.WriteTimeout = codes "a whole number from 0 to 1000000"
takes_of key.Output = codes "a whole number from 1048576 to 1099511627776"
takes_of key.LinkBacklog = codes "a whole number from 1048576 to 1099511627776"
takes_of key.Alone = codes "a whole number from 0 to 1000000"
takes_of key.Accept = codes "\"any\" or \"listed\""
takes_of key.Admin = codes "a loopback address with a port from 1 to 65535, as \"127.0.0.1:7180\""
takes_of key.AdminToken =
    codes "a text of 16 to 256 letters, digits and marks of ASCII, with no blank"
takes_of key.AdminBind = codes "an IP address, as \"127.0.0.1\""
takes_of key.PasswordFile = codes "the name of a file, a text of 1 to 4096 bytes"
takes_of key.Unprotected = codes "true or false"
takes_of key.Drain = codes "a whole number from 0 to 1000000"
takes_of key.Data = codes "the path of a folder, a text of 1 to 3072 bytes with no byte 0"
takes_of key.Sync = codes "\"always\" or \"soon\""
takes_of key.LogLevel = codes "\"warn\", \"info\" or \"debug\""
takes_of key.MaxMemory = codes "a whole number from 0 to 1099511627776"
takes_of key.Seed = codes "a whole number from 0 to 9223372036854775807"
takes_of key.Rule = codes "\"HIGH\" or \"LOW\""
takes_of key.Site = codes "a whole number from 0 to 63"
takes_of key.Port = codes "a whole number from 1 to 65535"
takes_of key.Bind = codes "an IP address, as \"127.0.0.1\""
takes_of key.Secret = codes "a text of at least 16 bytes"
takes_of key.Listen = codes "an IP address with a port from 1 to 65535, as \"127.0.0.1:7101\""
takes_of key.Peers = codes "an array of at most 63 tables of other sites"
takes_of key.PeerSite = codes "a whole number from 0 to 63"
takes_of key.PeerAddress =
    codes "an IP address or the name of a host, with a port from 1 to 65535, as \"127.0.0.1:7101\" or \"queue-0.example:7101\""

-- that a key's address is open to others, and what belongs there
abbrev pub exposed_of : Key → List ℕ
exposed_of key.PeerAddress =
    codes "neither a loopback address nor localhost: without a secret of at least 16 bytes it takes one of these"
exposed_of key.Admin = codes "no loopback address: it takes one, and admin_bind another"
exposed_of key.AdminBind = codes "no loopback address: without an admin_token it takes one"
exposed_of key.Bind =
    codes "no loopback address: without a password_file or unprotected = true it takes one"
exposed_of other =
    codes "no loopback address: without a secret of at least 16 bytes it takes one"

-- what has the keys of a table, and which they are
abbrev pub keys_text : Form → List ℕ
keys_text form.Sites =
    codes "settings, which are ports, heaps, workers, connections, clients, timeout, write_timeout, output, log_level, seed and rule"
keys_text form.Site =
    codes "a site's settings, which are site, port, bind, secret, listen, peers, heaps, workers, connections, clients, timeout, write_timeout, output, link_backlog, alone, accept, admin, admin_token, admin_bind, password_file, unprotected, drain, data, sync, log_level, max_memory, seed and rule"
keys_text form.Peer = codes "a peer, which are site and address"

-- what is wrong with a key's value, and what the key takes
abbrev pub fault_text : Key → List ℕ → List ℕ
fault_text key fault =
    owner_of key ++ (name_of key ++ (codes " " ++ (fault ++ (codes ": it takes " ++ takes_of key))))

-- What is wrong, and what belongs there. Nothing is said of the words in which TOML refuses a text.
abbrev pub words_of : Why → Option (List ℕ)
words_of (why.Text line error) = None
words_of (why.Unknown form name) =
    option_append (debug_str name) (Some (codes " is not a key of " ++ keys_text form))
words_of (why.Missing key) = Some (fault_text key (codes "is missing"))
words_of (why.Count key count) =
    Some (fault_text key (codes "has " ++ decimal count ++ codes " entries"))
words_of (why.Kind key) = Some (fault_text key (codes "has a value of another kind"))
words_of (why.Range key) = Some (fault_text key (codes "has a value out of range"))
words_of (why.Twice port) =
    Some (fault_text key.Ports (codes "has " ++ decimal port ++ codes " twice"))
words_of (why.PeerTwice site) =
    Some (fault_text key.Peers (codes "has site " ++ decimal site ++ codes " twice"))
words_of (why.OwnPeer site) =
    Some (fault_text key.Peers (codes "has the site's own number " ++ decimal site))
words_of (why.Exposed key) =
    Some (owner_of key ++ (name_of key ++ (codes " is " ++ exposed_of key)))

-- the same of a fault
abbrev pub fault_words : SettingsFault → Option (List ℕ)
fault_words (Refused why) = words_of why
fault_words NoMemory = Some (codes "no memory")
