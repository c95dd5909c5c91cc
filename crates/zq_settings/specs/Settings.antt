-- The settings of several sites that a table has, or the first rule that it breaks.
use Rattle.std.specs.Prelude.{ℕ, suc, ◌==◌, nat_lt, ◌||◌, List, [], ◌∷◌, codes, Option, Some, None, Result, Ok, Err, if◌then◌else◌}
use Rattle.std.specs.Option.{ok_or}
use Rattle.std.specs.Str.{bytes_eq}
use Rattle.toml.specs.Data.{Data, Items, no_items, item, Members, as_integer, as_array, as_str}
use Rattle.zq_dots.specs.declared.rule.Rule.{Rule}
use Rattle.zq_dots.specs.declared.rule.Rule.TheVariants.{High, Low}
use Rattle.zq_settings.specs.LogLevels.{log_level_named}
use Rattle.zq_settings.specs.Numbers.{within}
use Rattle.zq_settings.specs.Ports.{first_twice}
use Rattle.zq_settings.specs.Tables.{value_at, first_unknown}
use Rattle.zq_settings.specs.declared.form.Form.{Form}
use Rattle.zq_settings.specs.declared.form.Form.TheVariants as form
use Rattle.zq_settings.specs.declared.key.Key.{Key}
use Rattle.zq_settings.specs.declared.key.Key.TheVariants as key
use Rattle.zq_settings.specs.declared.log_level.LogLevel.{LogLevel}
use Rattle.zq_settings.specs.declared.log_level.LogLevel.TheVariants.{Info}
use Rattle.zq_settings.specs.declared.values.ClientLimits.{ClientLimits}
use Rattle.zq_settings.specs.declared.values.Common.{Common}
use Rattle.zq_settings.specs.declared.values.Settings.{Settings}
use Rattle.zq_settings.specs.declared.why.Why.{Why}
use Rattle.zq_settings.specs.declared.why.Why.TheVariants.{Unknown, Missing, Count, Kind, Range, Twice}

-- the next step, where this one gave a value
infixl 10 ◌>>=◌
abbrev pub ◌>>=◌ : {A B : Type 0} → Result A Why → (A → Result B Why) → Result B Why
Ok a >>= f = f a
Err why >>= f = Err why

-- a whole number between the bounds
abbrev pub whole_of : Key → ℕ → ℕ → Data → Result ℕ Why
whole_of key least most value =
    ok_or (as_integer value) (Kind key) >>= (λ z. ok_or (within least most z) (Range key))

-- the same, and the default where there is no value
abbrev pub number_of : Key → ℕ → ℕ → ℕ → Option Data → Result ℕ Why
number_of key least most default None = Ok default
number_of key least most default (Some value) = whole_of key least most value

-- the same, of a key that has to be there
abbrev pub required_of : Key → ℕ → ℕ → Option Data → Result ℕ Why
required_of key least most None = Err (Missing key)
required_of key least most (Some value) = whole_of key least most value

-- the number of a site, which has to be there
abbrev pub site_of : Key → Option Data → Result ℕ Why
site_of key value = required_of key 0 63 value

-- a limit, of which 0 is none
abbrev pub limit_of : ℕ → Option ℕ
limit_of count = if count == 0 then None else Some count

-- a number of connections, where 0 or no value is no limit
abbrev pub connections_of : Option Data → Result (Option ℕ) Why
connections_of value = number_of key.Connections 0 1000000 0 value >>=
    (λ count. Ok (limit_of count))

-- the rule of this name, in capital letters
abbrev pub rule_named : List ℕ → Option Rule
rule_named word = if bytes_eq word (codes "HIGH") then Some High else if bytes_eq word
    (codes "LOW") then Some Low else None

-- what draws are made with, and 1 where there is no value
abbrev pub seed_of : Option Data → Result ℕ Why
seed_of value = number_of key.Seed 0 9223372036854775807 1 value

-- a rule by its name, and High where there is no value
abbrev pub rule_of : Option Data → Result Rule Why
rule_of None = Ok High
rule_of (Some value) = ok_or (as_str value) (Kind key.Rule) >>=
    (λ word. ok_or (rule_named word) (Range key.Rule))

-- how much the log says by its word, and info where there is no value
abbrev pub log_level_of : Option Data → Result LogLevel Why
log_level_of None = Ok Info
log_level_of (Some value) = ok_or (as_str value) (Kind key.LogLevel) >>=
    (λ word. ok_or (log_level_named word) (Range key.LogLevel))

-- what limits the clients of a port
abbrev pub client_limits_of : Members → Result ClientLimits Why
client_limits_of table =
    number_of key.Clients 1 1000000 10000 (value_at key.Clients table) >>= (λ clients.
    number_of key.Timeout 0 1000000 0 (value_at key.Timeout table) >>= (λ timeout.
    number_of key.WriteTimeout 0 1000000 60 (value_at key.WriteTimeout table) >>= (λ write_timeout.
    number_of key.Output 1048576 1099511627776 268435456 (value_at key.Output table) >>= (λ output.
    Ok (record { clients = clients; timeout = timeout; write_timeout = write_timeout; output = output })))))

-- what all settings have, from heaps to output
abbrev pub common_of : Members → Result Common Why
common_of table =
    number_of key.Heaps 2 16 4 (value_at key.Heaps table) >>= (λ heaps.
    number_of key.Workers 1 64 4 (value_at key.Workers table) >>= (λ workers.
    connections_of (value_at key.Connections table) >>= (λ connections.
    client_limits_of table >>= (λ limits.
    Ok (record { heaps = heaps; workers = workers; connections = connections; limits = limits })))))

-- the number of entries of an array
abbrev pub count_of : Items → ℕ
count_of no_items = 0
count_of (item entry entries) = suc (count_of entries)

-- what each entry is read as, or what is wrong with the first of them that cannot be read
abbrev pub each : {A : Type 0} → (Data → Result A Why) → Items → Result (List A) Why
each read no_items = Ok []
each read (item entry entries) =
    read entry >>= (λ first. each read entries >>= (λ others. Ok (first ∷ others)))

-- an entry that is a port
abbrev pub port_of : Data → Result ℕ Why
port_of entry = whole_of key.Ports 1 65535 entry

-- the ports, unless two of them are equal
abbrev pub unless_twice : Option ℕ → List ℕ → Result (List ℕ) Why
unless_twice None ports = Ok ports
unless_twice (Some port) ports = Err (Twice port)

abbrev pub distinct : List ℕ → Result (List ℕ) Why
distinct ports = unless_twice (first_twice ports) ports

-- the ports of 1 to 64 entries, which are different ports
abbrev pub ports_in : Items → Result (List ℕ) Why
ports_in entries =
    if count_of entries == 0 || nat_lt 64 (count_of entries) then Err
    (Count key.Ports (count_of entries))
    else each port_of entries >>= distinct

-- the ports of an array, which has to be there
abbrev pub ports_of : Option Data → Result (List ℕ) Why
ports_of None = Err (Missing key.Ports)
ports_of (Some value) = ok_or (as_array value) (Kind key.Ports) >>= ports_in

-- there is no unknown key
abbrev pub unless_unknown : Form → Option (List ℕ) → Result (Unit {0}) Why
unless_unknown form None = Ok tt
unless_unknown form (Some name) = Err (Unknown form name)

-- the table has keys of its kind alone
abbrev pub known_keys : Form → Members → Result (Unit {0}) Why
known_keys form table = unless_unknown form (first_unknown form table)

-- the settings that a table has, or the first rule that it breaks
abbrev pub settings_of : Members → Result Settings Why
settings_of table =
    known_keys form.Sites table >>= (λ known.
    ports_of (value_at key.Ports table) >>= (λ ports.
    common_of table >>= (λ common.
    log_level_of (value_at key.LogLevel table) >>= (λ log_level.
    seed_of (value_at key.Seed table) >>= (λ seed.
    rule_of (value_at key.Rule table) >>= (λ rule.
    Ok (record {
      ports = ports;
      heaps = common.heaps;
      workers = common.workers;
      connections = common.connections;
      limits = common.limits;
      log_level = log_level;
      seed = seed;
      rule = rule;
    })))))))
