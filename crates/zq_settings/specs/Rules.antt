-- What a table of settings of several sites has to say, key by key.
use Rattle.std.specs.Prelude.{◌≡◌, ◌≤◌, ◌⊎◌, ◌↔◌, ℕ, pos, List, codes, map, All, IsTrue, Option, Some, None, Ok}
use Rattle.toml.specs.Data.{Data, Members, integer, string, array}
use Rattle.toml.specs.View.{items_of}
use Rattle.zq_dots.specs.declared.rule.Rule.{Rule}
use Rattle.zq_dots.specs.declared.rule.Rule.TheVariants.{High, Low}
use Rattle.zq_settings.specs.Keys.{is_known}
use Rattle.zq_settings.specs.LogLevels.{log_level_word}
use Rattle.zq_settings.specs.Ports.{ArePorts}
use Rattle.zq_settings.specs.Settings.{limit_of, settings_of}
use Rattle.zq_settings.specs.Tables.{names_in, value_at}
use Rattle.zq_settings.specs.declared.form.Form.TheVariants as form
use Rattle.zq_settings.specs.declared.key.Key.TheVariants as key
use Rattle.zq_settings.specs.declared.log_level.LogLevel.{LogLevel}
use Rattle.zq_settings.specs.declared.log_level.LogLevel.TheVariants.{Info}
use Rattle.zq_settings.specs.declared.values.ClientLimits.{ClientLimits}
use Rattle.zq_settings.specs.declared.values.Settings.{Settings}

-- there is no value, and the number is the default, or the value is the number, which lies between
-- the bounds
abbrev pub IsNumber : ℕ → ℕ → ℕ → Option Data → ℕ → Type 0
IsNumber least most default value n = ((value ≡ None) × (n ≡ default)) ⊎ ((value ≡ Some (integer (pos n))) × (least ≤ n) × (n ≤ most))

-- a number of connections, of which 0 is no limit
abbrev pub IsLimit : Option Data → Option ℕ → Type 0
IsLimit value limit = (n : ℕ) × IsNumber 0 1000000 0 value n × (limit ≡ limit_of n)

-- what limits the clients of a port, key by key
pub record AreClientLimits (table : Members) (limits : ClientLimits) : Type 0 where
  pub clients : IsNumber 1 1000000 10000 (value_at key.Clients table) limits.clients
  pub timeout : IsNumber 0 1000000 0 (value_at key.Timeout table) limits.timeout
  pub write_timeout : IsNumber 0 1000000 60 (value_at key.WriteTimeout table) limits.write_timeout
  pub output : IsNumber 1048576 1099511627776 268435456 (value_at key.Output table) limits.output

-- how a rule is written
abbrev pub word_of : Rule → List ℕ
word_of High = codes "HIGH"
word_of Low = codes "LOW"

-- there is no value, and the rule is High, or the value is the rule's word
abbrev pub IsRule : Option Data → Rule → Type 0
IsRule value rule = ((value ≡ None) × (rule ≡ High)) ⊎ (value ≡ Some (string (word_of rule)))

-- there is no value, and the log says what info says, or the value is the word of what it says
abbrev pub IsLogLevel : Option Data → LogLevel → Type 0
IsLogLevel value level = ((value ≡ None) × (level ≡ Info))
    ⊎ (value ≡ Some (string (log_level_word level)))

-- how a port is written
abbrev pub entry_of : ℕ → Data
entry_of port = integer (pos port)

-- the value is the array of the ports, each from 1 to 65535
abbrev pub AreEntries : Option Data → List ℕ → Type 0
AreEntries value ports = (value ≡ Some (array (items_of (map entry_of ports))))
    × All (λ port. (1 ≤ port) × (port ≤ 65535)) ports × ArePorts ports

-- each key of the table is known, and each value is as its key wants it
pub record IsSettings (table : Members) (settings : Settings) : Type 0 where
  pub known : All (λ name. IsTrue (is_known form.Sites name)) (names_in table)
  pub ports : AreEntries (value_at key.Ports table) settings.ports
  pub heaps : IsNumber 2 16 4 (value_at key.Heaps table) settings.heaps
  pub workers : IsNumber 1 64 4 (value_at key.Workers table) settings.workers
  pub connections : IsLimit (value_at key.Connections table) settings.connections
  pub limits : AreClientLimits table settings.limits
  pub log_level : IsLogLevel (value_at key.LogLevel table) settings.log_level
  pub seed : IsNumber 0 9223372036854775807 1 (value_at key.Seed table) settings.seed
  pub rule : IsRule (value_at key.Rule table) settings.rule

-- a table has settings where it breaks no rule, and no others
abbrev pub SettingsAreOfTheTable : Type 0
SettingsAreOfTheTable = (table : Members) (settings : Settings) → (settings_of table ≡ Ok settings)
    ↔ IsSettings table settings
