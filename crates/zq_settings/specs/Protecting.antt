-- What protects a site from whoever reaches the port of its clients.
use Rattle.std.specs.Prelude.{◌&&◌, Bool, false, if◌then◌else◌, not, Option, Some, None, Result, Ok, Err}
use Rattle.std.specs.Option.{is_some, ok_or}
use Rattle.std.specs.declared.net.ip_addr.IpAddr.{IpAddr}
use Rattle.toml.specs.Data.{Data, Members, as_bool}
use Rattle.zq_settings.specs.Addresses.{is_loopback}
use Rattle.zq_settings.specs.Paths.{password_file_of}
use Rattle.zq_settings.specs.Settings.{◌>>=◌}
use Rattle.zq_settings.specs.Tables.{value_at}
use Rattle.zq_settings.specs.declared.key.Key.TheVariants as key
use Rattle.zq_settings.specs.declared.values.Protection.{Protection}
use Rattle.zq_settings.specs.declared.why.Why.{Why}
use Rattle.zq_settings.specs.declared.why.Why.TheVariants.{Kind, Exposed}

-- whether no password is wanted, and not where there is no value
abbrev pub unprotected_of : Option Data → Result Bool Why
unprotected_of None = Ok false
unprotected_of (Some value) = ok_or (as_bool value) (Kind key.Unprotected)

-- others reach the address, there is no password, and it is not said that none is wanted
abbrev pub is_reached : IpAddr → Protection → Bool
is_reached bind protection = not (is_loopback bind)
    && (not (is_some protection.password_file) && not protection.unprotected)

abbrev pub unless_reached : IpAddr → Protection → Result Protection Why
unless_reached bind protection =
    if is_reached bind protection then Err (Exposed key.Bind) else Ok protection

-- the two keys, beside the address of the clients' port
abbrev pub protection_of : IpAddr → Members → Result Protection Why
protection_of bind table =
    password_file_of (value_at key.PasswordFile table) >>= (λ file.
    unprotected_of (value_at key.Unprotected table) >>= (λ unprotected.
    unless_reached bind (record { password_file = file; unprotected = unprotected })))
