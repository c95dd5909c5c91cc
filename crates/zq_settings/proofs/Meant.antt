-- A table's settings are those that its keys say.
use Rattle.zq_settings.proofs.MeantLogLevel.{log_level_from, log_level_since}
use Rattle.zq_settings.proofs.MeantNumbers.{number_since, number_from, limit_since, limit_from, rule_since, rule_from}
use Rattle.zq_settings.proofs.MeantPorts.{ports_since, ports_from}
use Rattle.zq_settings.proofs.Steps.{both_ok}
use Rattle.std.proofs.Common.{◌≡◌, ℕ, true, not, List, [], ◌∷◌, Option, Some, None, Ok, refl, inl, inr}
use Rattle.std.proofs.lemmas.Bool.{cases_Bool}
use Rattle.std.proofs.lemmas.List.Elements.{All-nil, All-cons, All-head, All-tail}
use Rattle.std.specs.List.{All, find}
use Rattle.toml.specs.Data.{Members}
use Rattle.zq_settings.specs.Keys.{is_known}
use Rattle.zq_settings.specs.Rules.{AreClientLimits, IsLimit, IsNumber, IsSettings, SettingsAreOfTheTable}
use Rattle.zq_settings.specs.Settings.{number_of, connections_of, rule_of, seed_of, client_limits_of, common_of, log_level_of, ports_of, known_keys, unless_unknown, settings_of}
use Rattle.zq_settings.specs.Tables.{names_in, value_at, first_unknown}
use Rattle.zq_settings.specs.declared.form.Form.{Form}
use Rattle.zq_settings.specs.declared.form.Form.TheVariants as form
use Rattle.zq_settings.specs.declared.key.Key.TheVariants as key
use Rattle.zq_settings.specs.declared.values.ClientLimits.{ClientLimits}
use Rattle.zq_settings.specs.declared.values.Common.{Common}
use Rattle.zq_settings.specs.declared.values.Settings.{Settings}

-- the keys of a table
none_unknown : (form : Form) (names : List (List ℕ)) → find (λ name. not (is_known form name)) names ≡ None → All (λ name. is_known form name ≡ true) names
none_unknown form [] h = All-nil _
none_unknown form (name ∷ names) h =
    elim (cases_Bool (is_known form name)) [
      | inl known ↦ All-cons (λ n. is_known form n ≡ true) name names known (none_unknown form names (rw known at h))
      | inr unknown ↦ let none : Some name ≡ None = rw unknown at h in cc
    ]

all_known : (form : Form) (names : List (List ℕ)) → All (λ name. is_known form name ≡ true) names → find (λ name. not (is_known form name)) names ≡ None
all_known form [] all = refl
all_known form (name ∷ names) all = rw (All-head (λ n. is_known form n ≡ true) name names all) (all_known form names (All-tail (λ n. is_known form n ≡ true) name names all))

no_name : (form : Form) (unknown : Option (List ℕ)) (known : Unit {0}) → unless_unknown form unknown ≡ Ok known → unknown ≡ None
no_name form None known h = refl
no_name form (Some name) known h = cc

pub known_since : (form : Form) (table : Members) (known : Unit {0}) → known_keys form table ≡ Ok known → All (λ name. is_known form name ≡ true) (names_in table)
known_since form table known h = none_unknown form (names_in table) (no_name form (first_unknown form table) known h)

pub known_from : (form : Form) (table : Members) → All (λ name. is_known form name ≡ true) (names_in table) → known_keys form table ≡ Ok tt
known_from form table all = rw (all_known form (names_in table) all)

-- what limits the clients of a port
client_limits_since : (table : Members) (limits : ClientLimits) → client_limits_of table ≡ Ok limits → AreClientLimits table limits
client_limits_since table limits h =
    let (clients, clients_read, h2) = both_ok (number_of _ 1 1000000 10000 (value_at key.Clients table)) _ limits h in
    let (timeout, timeout_read, h3) = both_ok (number_of _ 0 1000000 0 (value_at key.Timeout table)) _ limits h2 in
    let (write_timeout, write_timeout_read, h4) = both_ok (number_of _ 0 1000000 60 (value_at key.WriteTimeout table)) _ limits h3 in
    let (output, output_read, h5) = both_ok (number_of _ 1048576 1099511627776 268435456 (value_at key.Output table)) _ limits h4 in
    let whole : record { clients = clients; timeout = timeout; write_timeout = write_timeout; output = output } ≡ limits = cc in
    rw (← whole) (record {
      clients = number_since _ 1 1000000 10000 clients _ clients_read;
      timeout = number_since _ 0 1000000 0 timeout _ timeout_read;
      write_timeout = number_since _ 0 1000000 60 write_timeout _ write_timeout_read;
      output = number_since _ 1048576 1099511627776 268435456 output _ output_read;
    })

client_limits_from : (table : Members) (limits : ClientLimits) → AreClientLimits table limits → client_limits_of table ≡ Ok limits
client_limits_from table limits are =
    rw (
      number_from key.Clients 1 1000000 10000 limits.clients _ are.clients,
      number_from key.Timeout 0 1000000 0 limits.timeout _ are.timeout,
      number_from key.WriteTimeout 0 1000000 60 limits.write_timeout _ are.write_timeout,
      number_from key.Output 1048576 1099511627776 268435456 limits.output _ are.output,
    )

-- what all settings have, from heaps to output
pub record IsCommon (table : Members) (common : Common) : Type 0 where
  pub heaps : IsNumber 2 16 4 (value_at key.Heaps table) common.heaps
  pub workers : IsNumber 1 64 4 (value_at key.Workers table) common.workers
  pub connections : IsLimit (value_at key.Connections table) common.connections
  pub limits : AreClientLimits table common.limits

pub common_since : (table : Members) (common : Common) → common_of table ≡ Ok common → IsCommon table common
common_since table common h =
    let (heaps, heaps_read, h2) = both_ok (number_of _ 2 16 4 (value_at key.Heaps table)) _ common h in
    let (workers, workers_read, h3) = both_ok (number_of _ 1 64 4 (value_at key.Workers table)) _ common h2 in
    let (limit, limit_read, h4) = both_ok (connections_of (value_at key.Connections table)) _ common h3 in
    let (limits, limits_read, h5) = both_ok (client_limits_of table) _ common h4 in
    let whole : record { heaps = heaps; workers = workers; connections = limit; limits = limits } ≡ common = cc in
    rw (← whole) (record {
      heaps = number_since _ 2 16 4 heaps _ heaps_read;
      workers = number_since _ 1 64 4 workers _ workers_read;
      connections = limit_since limit _ limit_read;
      limits = client_limits_since table limits limits_read;
    })

pub common_from : (table : Members) (common : Common) → IsCommon table common → common_of table ≡ Ok common
common_from table common is =
    rw (
      number_from key.Heaps 2 16 4 common.heaps _ is.heaps,
      number_from key.Workers 1 64 4 common.workers _ is.workers,
      limit_from common.connections _ is.connections,
      client_limits_from table common.limits is.limits,
    )

pub settings_since : (table : Members) (settings : Settings) → settings_of table ≡ Ok settings → IsSettings table settings
settings_since table settings h =
    let (known, is_known_read, h1) = both_ok (known_keys form.Sites table) _ settings h in
    let (ports, ports_read, h2) = both_ok (ports_of (value_at key.Ports table)) _ settings h1 in
    let (common, common_read, h3) = both_ok (common_of table) _ settings h2 in
    let (log_level, log_level_read, h4) = both_ok (log_level_of (value_at key.LogLevel table)) _ settings h3 in
    let (seed, seed_read, h5) = both_ok (seed_of (value_at key.Seed table)) _ settings h4 in
    let (rule, rule_read, h6) = both_ok (rule_of (value_at key.Rule table)) _ settings h5 in
    let whole : record { ports = ports; heaps = common.heaps; workers = common.workers; connections = common.connections; limits = common.limits; log_level = log_level; seed = seed; rule = rule } ≡ settings = cc in
    let is = common_since table common common_read in
    rw (← whole) (record {
      known = known_since form.Sites table known is_known_read;
      ports = ports_since ports _ ports_read;
      heaps = is.heaps;
      workers = is.workers;
      connections = is.connections;
      limits = is.limits;
      log_level = log_level_since log_level _ log_level_read;
      seed = number_since _ 0 9223372036854775807 1 seed _ seed_read;
      rule = rule_since rule _ rule_read;
    })

pub settings_from : (table : Members) (settings : Settings) → IsSettings table settings → settings_of table ≡ Ok settings
settings_from table settings is =
    let common : Common = record { heaps = settings.heaps; workers = settings.workers; connections = settings.connections; limits = settings.limits } in
    let is_common : IsCommon table common = record { heaps = is.heaps; workers = is.workers; connections = is.connections; limits = is.limits } in
    rw (
      known_from form.Sites table is.known,
      ports_from settings.ports _ is.ports,
      common_from table common is_common,
      log_level_from settings.log_level _ is.log_level,
      number_from key.Seed 0 9223372036854775807 1 settings.seed _ is.seed,
      rule_from settings.rule _ is.rule,
    )

pub settings_are_of_the_table : SettingsAreOfTheTable
settings_are_of_the_table table settings = (settings_since table settings, settings_from table settings)
