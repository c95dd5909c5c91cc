-- The names of the keys.
use Rattle.std.specs.Prelude.{ℕ, List, [], ◌∷◌, Bool, codes}
use Rattle.std.specs.List.{list_any}
use Rattle.std.specs.Str.{bytes_eq}
use Rattle.zq_settings.specs.declared.form.Form.{Form}
use Rattle.zq_settings.specs.declared.form.Form.TheVariants as form
use Rattle.zq_settings.specs.declared.key.Key.{Key}
use Rattle.zq_settings.specs.declared.key.Key.TheVariants as key

-- how a key is written
abbrev pub name_of : Key → List ℕ
name_of key.Ports = codes "ports"
name_of key.Heaps = codes "heaps"
name_of key.Workers = codes "workers"
name_of key.Connections = codes "connections"
name_of key.Clients = codes "clients"
name_of key.Timeout = codes "timeout"
name_of key.WriteTimeout = codes "write_timeout"
name_of key.Output = codes "output"
name_of key.LinkBacklog = codes "link_backlog"
name_of key.Alone = codes "alone"
name_of key.Accept = codes "accept"
name_of key.Admin = codes "admin"
name_of key.AdminToken = codes "admin_token"
name_of key.AdminBind = codes "admin_bind"
name_of key.PasswordFile = codes "password_file"
name_of key.Unprotected = codes "unprotected"
name_of key.Drain = codes "drain"
name_of key.Data = codes "data"
name_of key.Sync = codes "sync"
name_of key.LogLevel = codes "log_level"
name_of key.MaxMemory = codes "max_memory"
name_of key.Seed = codes "seed"
name_of key.Rule = codes "rule"
name_of key.Site = codes "site"
name_of key.Port = codes "port"
name_of key.Bind = codes "bind"
name_of key.Secret = codes "secret"
name_of key.Listen = codes "listen"
name_of key.Peers = codes "peers"
name_of key.PeerSite = codes "site"
name_of key.PeerAddress = codes "address"

-- the keys that a table of each kind may have
abbrev pub keys_of : Form → List Key
keys_of form.Sites =
    key.Ports ∷ key.Heaps ∷ key.Workers ∷ key.Connections ∷ key.Clients ∷ key.Timeout
    ∷ key.WriteTimeout ∷ key.Output ∷ key.LogLevel ∷ key.Seed ∷ key.Rule ∷ []
keys_of form.Site =
    key.Site ∷ key.Port ∷ key.Bind ∷ key.Secret ∷ key.Listen ∷ key.Peers ∷ key.Heaps ∷ key.Workers
    ∷ key.Connections ∷ key.Clients ∷ key.Timeout ∷ key.WriteTimeout ∷ key.Output ∷ key.LinkBacklog
    ∷ key.Alone ∷ key.Accept ∷ key.Admin ∷ key.AdminToken ∷ key.AdminBind ∷ key.PasswordFile
    ∷ key.Unprotected ∷ key.Drain ∷ key.Data ∷ key.Sync ∷ key.LogLevel ∷ key.MaxMemory ∷ key.Seed
    ∷ key.Rule ∷ []
keys_of form.Peer = key.PeerSite ∷ key.PeerAddress ∷ []

-- one of the keys of such a table has this name
abbrev pub is_known : Form → List ℕ → Bool
is_known form name = list_any (λ key. bytes_eq name (name_of key)) (keys_of form)
