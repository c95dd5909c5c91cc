-- What a request at the admin port has to say, and the address at which that port is.
use Rattle.std.specs.Prelude.{ℕ, ◌&&◌, ◌||◌, Bool, List, length, nat_le, Option, Some, None, Result, Ok, Err, if◌then◌else◌}
use Rattle.std.specs.Char.{is_ascii_graphic}
use Rattle.std.specs.List.{list_all}
use Rattle.std.specs.Option.{ok_or}
use Rattle.std.specs.declared.net.ip_addr.IpAddr.{IpAddr}
use Rattle.toml.specs.Data.{Data, as_str}
use Rattle.zq_settings.specs.Addresses.{ip_of, is_loopback}
use Rattle.zq_settings.specs.Settings.{◌>>=◌}
use Rattle.zq_settings.specs.declared.key.Key.TheVariants as key
use Rattle.zq_settings.specs.declared.why.Why.{Why}
use Rattle.zq_settings.specs.declared.why.Why.TheVariants.{Kind, Range, Exposed}

-- 16 to 256 bytes of ASCII, each of which can be seen
abbrev pub is_token : List ℕ → Bool
is_token text = nat_le 16 (length text)
    && (nat_le (length text) 256 && list_all is_ascii_graphic text)

abbrev pub unless_no_token : List ℕ → Result (Option (List ℕ)) Why
unless_no_token text = if is_token text then Ok (Some text) else Err (Range key.AdminToken)

-- a token, where there is one
abbrev pub admin_token_of : Option Data → Result (Option (List ℕ)) Why
admin_token_of None = Ok None
admin_token_of (Some value) = ok_or (as_str value) (Kind key.AdminToken) >>= unless_no_token

-- an address, which without a token is a loopback address
abbrev pub unless_open : Bool → IpAddr → Result (Option IpAddr) Why
unless_open guarded ip =
    if guarded || is_loopback ip then Ok (Some ip) else Err (Exposed key.AdminBind)

-- the address at which the admin port is in the place of another, where there is one
abbrev pub admin_bind_of : Bool → Option Data → Result (Option IpAddr) Why
admin_bind_of guarded None = Ok None
admin_bind_of guarded (Some value) = ok_or (as_str value) (Kind key.AdminBind) >>=
    (λ text. ok_or (ip_of text) (Range key.AdminBind) >>= unless_open guarded)
