-- A table's settings of one site are those that its keys say.
use Rattle.zq_settings.proofs.Meant.{IsCommon, common_since, common_from, known_since, known_from}
use Rattle.zq_settings.proofs.MeantAccept.{accept_from, accept_since}
use Rattle.zq_settings.proofs.MeantAdminKeys.{admin_keys_from, admin_keys_since}
use Rattle.zq_settings.proofs.MeantData.{data_keys_from, data_keys_since}
use Rattle.zq_settings.proofs.MeantAddresses.{address_at_since, address_at_from, bind_since, bind_from, secret_since, secret_from}
use Rattle.zq_settings.proofs.MeantLogLevel.{log_level_from, log_level_since}
use Rattle.zq_settings.proofs.MeantNumbers.{number_since, number_from, required_since, required_from, rule_since, rule_from}
use Rattle.zq_settings.proofs.MeantPeers.{peers_since, peers_from}
use Rattle.zq_settings.proofs.MeantProtection.{protection_from, protection_since}
use Rattle.zq_settings.proofs.Steps.{both_ok, ok_same}
use Rattle.std.proofs.Common.{◌+◌, ◌≡◌, List, Ok, Option, Result, refl, true, ℕ}
use Rattle.std.specs.List.{All}
use Rattle.std.specs.Option.{is_some}
use Rattle.std.specs.declared.net.ip_addr.IpAddr.{IpAddr}
use Rattle.std.specs.declared.net.socket_addr.SocketAddr.{SocketAddr}
use Rattle.toml.specs.Data.{Members}
use Rattle.zq_settings.specs.DataKeys.{data_keys_of}
use Rattle.zq_settings.specs.Keys.{is_known}
use Rattle.zq_settings.specs.Protecting.{protection_of}
use Rattle.zq_settings.specs.Settings.{◌>>=◌, common_of, known_keys, log_level_of, required_of, rule_of, site_of}
use Rattle.zq_settings.specs.Site.{accept_of, address_at, admin_keys_of, alone_of, bind_of, drain_of, if_given, link_backlog_of, max_memory_of, peers_of, secret_of, site_seed_of, site_settings_of}
use Rattle.zq_settings.specs.Rules.{IsNumber}
use Rattle.zq_settings.specs.SiteRules.{AreAdminKeys, IsAccept, IsAddress, IsArrayOf, IsBind, IsProtection, IsRequired, IsSecret, IsSiteSettings, SiteSettingsAreOfTheTable}
use Rattle.zq_settings.specs.Tables.{names_in, value_at}
use Rattle.zq_settings.specs.declared.accept.Accept.{Accept}
use Rattle.zq_settings.specs.declared.form.Form.TheVariants as form
use Rattle.zq_settings.specs.declared.key.Key.TheVariants as key
use Rattle.zq_settings.specs.declared.peer.Peer.{Peer}
use Rattle.zq_settings.specs.declared.values.AdminSettings.{AdminSettings}
use Rattle.zq_settings.specs.declared.values.Common.{Common}
use Rattle.zq_settings.specs.declared.values.Protection.{Protection}
use Rattle.zq_settings.specs.declared.values.SiteSettings.{SiteSettings}
use Rattle.zq_settings.specs.declared.why.Why.{Why}

-- the values of the keys before `heaps`, as they are read
record First : Type 0 where
  site : ℕ
  port : ℕ
  bind : IpAddr
  secret : Option (List ℕ)
  listen : SocketAddr
  peers : List Peer

-- and that they are what the table says
record IsFirst (table : Members) (f : First) : Type 0 where
  known : All (λ name. is_known form.Site name ≡ true) (names_in table)
  site : IsRequired 0 63 (value_at key.Site table) f.site
  port : IsRequired 1 65535 (value_at key.Port table) f.port
  bind : IsBind (value_at key.Bind table) f.bind
  secret : IsSecret (value_at key.Secret table) f.secret
  listen : IsAddress f.secret (value_at key.Listen table) f.listen
  peers : IsArrayOf f.site f.secret (value_at key.Peers table) f.peers

-- the same of the values from `heaps` to those that protect the clients' port
record Second : Type 0 where
  common : Common
  link_backlog : ℕ
  alone : ℕ
  accept : Accept
  admin : AdminSettings
  protection : Protection

record IsSecond (table : Members) (bind : IpAddr) (s : Second) : Type 0 where
  common : IsCommon table s.common
  link_backlog : IsNumber 1048576 1099511627776 67108864 (value_at key.LinkBacklog table) s.link_backlog
  alone : IsNumber 0 1000000 10 (value_at key.Alone table) s.alone
  accept : IsAccept (value_at key.Accept table) s.accept
  admin : AreAdminKeys table s.admin
  protection : IsProtection table bind s.protection

-- the steps from `drain` on, behind the values before them
abbrev last_of : Members → First → Second → Result SiteSettings Why
last_of table f s =
    drain_of (value_at key.Drain table) >>= (λ drain.
    data_keys_of table >>= (λ disk.
    log_level_of (value_at key.LogLevel table) >>= (λ log_level.
    max_memory_of (value_at key.MaxMemory table) >>= (λ max_memory.
    site_seed_of f.site (value_at key.Seed table) >>= (λ seed.
    rule_of (value_at key.Rule table) >>= (λ rule.
    Ok (record {
      site = f.site;
      port = f.port;
      bind = f.bind;
      listen = f.listen;
      peers = f.peers;
      heaps = s.common.heaps;
      rule = rule;
      workers = if_given s.common.workers (value_at key.Workers table);
      connections = s.common.connections;
      limits = s.common.limits;
      link_backlog = s.link_backlog;
      alone = s.alone;
      accept = s.accept;
      admin = s.admin;
      protection = s.protection;
      drain = drain;
      disk = disk;
      log_level = log_level;
      max_memory = max_memory;
      seed = seed;
      secret = f.secret;
    })))))))

-- and those from `heaps` on
abbrev later_of : Members → First → Result SiteSettings Why
later_of table f =
    common_of table >>= (λ common.
    link_backlog_of (value_at key.LinkBacklog table) >>= (λ link_backlog.
    alone_of (value_at key.Alone table) >>= (λ alone.
    accept_of (value_at key.Accept table) >>= (λ accept.
    admin_keys_of table >>= (λ admin.
    protection_of f.bind table >>= (λ protection.
    last_of table f (record { common = common; link_backlog = link_backlog; alone = alone; accept = accept; admin = admin; protection = protection })))))))

last_since : (table : Members) (f : First) (s : Second) (settings : SiteSettings) → IsFirst table f → IsSecond table f.bind s → last_of table f s ≡ Ok settings → IsSiteSettings table settings
last_since table f s settings first second h =
    let (drain, drain_read, h1) = both_ok (drain_of (value_at key.Drain table)) _ settings h in
    let (disk, disk_read, h2) = both_ok (data_keys_of table) _ settings h1 in
    let (log_level, log_level_read, h3) = both_ok (log_level_of (value_at key.LogLevel table)) _ settings h2 in
    let (max_memory, max_memory_read, h4) = both_ok (max_memory_of (value_at key.MaxMemory table)) _ settings h3 in
    let (seed, seed_read, h5) = both_ok (site_seed_of f.site (value_at key.Seed table)) _ settings h4 in
    let (rule, rule_read, h6) = both_ok (rule_of (value_at key.Rule table)) _ settings h5 in
    let whole : record { site = f.site; port = f.port; bind = f.bind; listen = f.listen; peers = f.peers; heaps = s.common.heaps; rule = rule; workers = if_given s.common.workers (value_at key.Workers table); connections = s.common.connections; limits = s.common.limits; link_backlog = s.link_backlog; alone = s.alone; accept = s.accept; admin = s.admin; protection = s.protection; drain = drain; disk = disk; log_level = log_level; max_memory = max_memory; seed = seed; secret = f.secret } ≡ settings = ok_same _ settings _ _ refl refl h6 in
    rw (← whole) (record {
      known = first.known;
      site = first.site;
      port = first.port;
      bind = first.bind;
      secret = first.secret;
      listen = first.listen;
      peers = first.peers;
      heaps = second.common.heaps;
      workers = (s.common.workers, second.common.workers, refl);
      connections = second.common.connections;
      limits = second.common.limits;
      link_backlog = second.link_backlog;
      alone = second.alone;
      accept = second.accept;
      admin = second.admin;
      protection = second.protection;
      drain = number_since _ 0 1000000 10 drain _ drain_read;
      disk = data_keys_since table disk disk_read;
      log_level = log_level_since log_level _ log_level_read;
      max_memory = number_since _ 0 1099511627776 0 max_memory _ max_memory_read;
      seed = number_since _ 0 9223372036854775807 (f.site + 1) seed _ seed_read;
      rule = rule_since rule _ rule_read;
    })

later_since : (table : Members) (f : First) (settings : SiteSettings) → IsFirst table f → later_of table f ≡ Ok settings → IsSiteSettings table settings
later_since table f settings first h =
    let (common, common_read, h1) = both_ok (common_of table) _ settings h in
    let (link_backlog, link_backlog_read, h2) = both_ok (link_backlog_of (value_at key.LinkBacklog table)) _ settings h1 in
    let (alone, alone_read, h3) = both_ok (alone_of (value_at key.Alone table)) _ settings h2 in
    let (accept, accept_read, h4) = both_ok (accept_of (value_at key.Accept table)) _ settings h3 in
    let (admin, admin_read, h5) = both_ok (admin_keys_of table) _ settings h4 in
    let (protection, protection_read, h6) = both_ok (protection_of f.bind table) _ settings h5 in
    let s : Second = record { common = common; link_backlog = link_backlog; alone = alone; accept = accept; admin = admin; protection = protection } in
    let second : IsSecond table f.bind s = record {
      common = common_since table common common_read;
      link_backlog = number_since _ 1048576 1099511627776 67108864 link_backlog _ link_backlog_read;
      alone = number_since _ 0 1000000 10 alone _ alone_read;
      accept = accept_since accept _ accept_read;
      admin = admin_keys_since table admin admin_read;
      protection = protection_since table f.bind protection protection_read;
    } in
    last_since table f s settings first second h6

site_settings_since : (table : Members) (settings : SiteSettings) → site_settings_of table ≡ Ok settings → IsSiteSettings table settings
site_settings_since table settings h =
    let (known, known_read, h1) = both_ok (known_keys form.Site table) _ settings h in
    let (site, site_read, h2) = both_ok (site_of key.Site (value_at key.Site table)) _ settings h1 in
    let (port, port_read, h3) = both_ok (required_of key.Port 1 65535 (value_at key.Port table)) _ settings h2 in
    let (bind, bind_read, h4) = both_ok (bind_of (value_at key.Bind table)) _ settings h3 in
    let (secret, secret_read, h5) = both_ok (secret_of (value_at key.Secret table)) _ settings h4 in
    let (listen, listen_read, h6) = both_ok (address_at (is_some secret) key.Listen (value_at key.Listen table)) _ settings h5 in
    let (peers, peers_read, h7) = both_ok (peers_of site (is_some secret) (value_at key.Peers table)) _ settings h6 in
    let f : First = record { site = site; port = port; bind = bind; secret = secret; listen = listen; peers = peers } in
    let first : IsFirst table f = record {
      known = known_since form.Site table known known_read;
      site = required_since key.Site 0 63 site _ site_read;
      port = required_since key.Port 1 65535 port _ port_read;
      bind = bind_since bind _ bind_read;
      secret = secret_since secret _ secret_read;
      listen = address_at_since secret key.Listen _ listen listen_read;
      peers = peers_since site secret peers _ peers_read;
    } in
    later_since table f settings first h7

site_settings_from : (table : Members) (settings : SiteSettings) → IsSiteSettings table settings → site_settings_of table ≡ Ok settings
site_settings_from table settings is =
    let (workers, are_workers, given) = is.workers in
    let common : Common = record { heaps = settings.heaps; workers = workers; connections = settings.connections; limits = settings.limits } in
    let is_common : IsCommon table common = record { heaps = is.heaps; workers = are_workers; connections = is.connections; limits = is.limits } in
    rw (
      known_from form.Site table is.known,
      required_from key.Site 0 63 settings.site _ is.site,
      required_from key.Port 1 65535 settings.port _ is.port,
      bind_from settings.bind _ is.bind,
      secret_from settings.secret _ is.secret,
      address_at_from settings.secret key.Listen _ settings.listen is.listen,
      peers_from settings.site settings.secret settings.peers _ is.peers,
      common_from table common is_common,
      number_from key.LinkBacklog 1048576 1099511627776 67108864 settings.link_backlog _ is.link_backlog,
      number_from key.Alone 0 1000000 10 settings.alone _ is.alone,
      accept_from settings.accept _ is.accept,
      admin_keys_from table settings.admin is.admin,
      protection_from table settings.bind settings.protection is.protection,
      number_from key.Drain 0 1000000 10 settings.drain _ is.drain,
      data_keys_from table settings.disk is.disk,
      log_level_from settings.log_level _ is.log_level,
      number_from key.MaxMemory 0 1099511627776 0 settings.max_memory _ is.max_memory,
      number_from key.Seed 0 9223372036854775807 (settings.site + 1) settings.seed _ is.seed,
      rule_from settings.rule _ is.rule,
      given,
    )

pub site_settings_are_of_the_table : SiteSettingsAreOfTheTable
site_settings_are_of_the_table table settings = (site_settings_since table settings, site_settings_from table settings)
