-- Where the admin port is, is what its text says, and what is wrong where it is refused.
use Rattle.zq_settings.proofs.AddressFaults.{AddressFault, address_fault}
use Rattle.zq_settings.proofs.MeantAddresses.{address_at_since}
use Rattle.zq_settings.proofs.Spelled.{address_from, loopback_from}
use Rattle.zq_settings.proofs.Steps.{both_err, both_ok}
use Rattle.std.proofs.Common.{◌≡◌, false, Option, Some, None, Ok, Err, refl, inl, inr}
use Rattle.std.specs.declared.net.socket_addr.SocketAddr.{SocketAddr}
use Rattle.toml.specs.Data.{Data, Members}
use Rattle.zq_settings.specs.Site.{address_at, admin_of}
use Rattle.zq_settings.specs.SiteRules.{IsAdmin}
use Rattle.zq_settings.specs.Tables.{value_at}
use Rattle.zq_settings.specs.declared.key.Key.TheVariants as key
use Rattle.zq_settings.specs.declared.why.Why.{Why}

pub admin_since : (admin : Option SocketAddr) (value : Option Data) → admin_of value ≡ Ok admin → IsAdmin value admin
admin_since admin None h = let same : admin ≡ None = cc in inl (refl, same)
admin_since admin (Some d) h =
    let (a, read, given) = both_ok (address_at false key.Admin (Some d)) _ admin h in
    let (text, some, spells, low, local) = address_at_since None key.Admin (Some d) a read in
    let same : admin ≡ Some a = cc in
    inr (text, a, some, spells, low, local refl, same)

pub admin_from : (admin : Option SocketAddr) (value : Option Data) → IsAdmin value admin → admin_of value ≡ Ok admin
admin_from admin value (inl (none, same)) = rw (none, same)
admin_from admin value (inr (text, a, some, spells, low, local, same)) =
    rw (some, address_from text a spells low, loopback_from a local, same)

pub admin_fault : (table : Members) (why : Why) (value : Option Data) → value_at key.Admin table ≡ value → admin_of value ≡ Err why → AddressFault false key.Admin table why
admin_fault table why None seen h = cc
admin_fault table why (Some d) seen h =
    elim (both_err (address_at false key.Admin (Some d)) (λ a. Ok (Some a)) why h) [
      | inl refused ↦ address_fault false key.Admin table (λ d none. none) (λ d out. out) (λ d far. far) why (Some d) seen refused
      | inr read ↦ let (a, is, wrong) = read in let never : Ok (Some a) ≡ Err why = wrong in cc
    ]
