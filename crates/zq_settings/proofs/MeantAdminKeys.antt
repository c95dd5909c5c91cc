-- The keys of the admin port are what the table says.
use Rattle.zq_settings.proofs.MeantAdmin.{admin_from, admin_since}
use Rattle.zq_settings.proofs.Spelled.{ip_from, ip_since}
use Rattle.zq_settings.proofs.Steps.{both_ok, some_since, text_since}
use Rattle.std.proofs.Common.{◌≡◌, ℕ, Bool, true, false, take, List, [], ◌∷◌, Option, Some, None, Ok, Err, refl, sym, ap, ◌∙◌, inl, inr}
use Rattle.std.proofs.lemmas.Bool.{cases_Bool}
use Rattle.std.proofs.lemmas.Slice.Eq.{bytes_eq-Decides}
use Rattle.std.specs.Net.Addr.{ipv4_octets, ipv6_segments}
use Rattle.std.specs.Option.{is_some, ok_or}
use Rattle.std.specs.declared.net.ip_addr.IpAddr.{IpAddr}
use Rattle.std.specs.declared.net.ip_addr.IpAddr.TheVariants as ip
use Rattle.toml.specs.Data.{Data, Members, as_str}
use Rattle.zq_settings.specs.Addresses.{IsLoopbackIp, ip_of, is_loopback}
use Rattle.zq_settings.specs.AdminKeys.{admin_bind_of, admin_token_of, is_token, unless_no_token, unless_open}
use Rattle.zq_settings.specs.Site.{admin_keys_of, admin_of}
use Rattle.zq_settings.specs.SiteRules.{AreAdminKeys, IsAdminBind, IsAdminToken}
use Rattle.zq_settings.specs.Tables.{value_at}
use Rattle.zq_settings.specs.declared.key.Key.TheVariants as key
use Rattle.zq_settings.specs.declared.values.AdminSettings.{AdminSettings}
use Rattle.zq_settings.specs.declared.why.Why.{Why}
use Rattle.zq_settings.specs.declared.why.Why.TheVariants.{Exposed, Range}

-- loopback addresses
pub near_since : (a : IpAddr) → is_loopback a ≡ true → IsLoopbackIp a
near_since (ip.V4 a) h = (bytes_eq-Decides (take 1 (ipv4_octets a)) (127 ∷ [])).0 h
near_since (ip.V6 a) h = (bytes_eq-Decides (ipv6_segments a) (0 ∷ 0 ∷ 0 ∷ 0 ∷ 0 ∷ 0 ∷ 0 ∷ 1 ∷ [])).0 h

pub near_from : (a : IpAddr) → IsLoopbackIp a → is_loopback a ≡ true
near_from (ip.V4 a) h = (bytes_eq-Decides (take 1 (ipv4_octets a)) (127 ∷ [])).1 h
near_from (ip.V6 a) h = (bytes_eq-Decides (ipv6_segments a) (0 ∷ 0 ∷ 0 ∷ 0 ∷ 0 ∷ 0 ∷ 0 ∷ 1 ∷ [])).1 h

-- a text is a token, or it is refused for that
abbrev pub TokenCases : List ℕ → Type 0
TokenCases text = ((token : Option (List ℕ)) → unless_no_token text ≡ Ok token → (is_token text ≡ true) × (token ≡ Some text))
    × ((why : Why) → unless_no_token text ≡ Err why → (is_token text ≡ false) × (why ≡ Range key.AdminToken))

pub token_cases : (text : List ℕ) → TokenCases text
token_cases text =
    elim (cases_Bool (is_token text)) [
      | inl is ↦ (
        λ token h. let there : Ok (Some text) ≡ Ok token = rw is at h in let same : token ≡ Some text = cc in (is, same),
        λ why h. let never : Ok (Some text) ≡ Err why = rw is at h in cc,
      )
      | inr other ↦ (
        λ token h. let never : Err (Range key.AdminToken) ≡ Ok token = rw other at h in cc,
        λ why h. let there : Err (Range key.AdminToken) ≡ Err why = rw other at h in let same : why ≡ Range key.AdminToken = cc in (other, same),
      )
    ]

pub admin_token_since : (token : Option (List ℕ)) (value : Option Data) → admin_token_of value ≡ Ok token → IsAdminToken value token
admin_token_since token None h = let none : token ≡ None = cc in inl (refl, none)
admin_token_since token (Some d) h =
    let (text, is_text, read) = both_ok (ok_or (as_str d) _) unless_no_token token h in
    let (is, same) = (token_cases text).0 token read in
    inr (text, ap Some (text_since d text (some_since _ _ text is_text)), is, same)

admin_token_from : (token : Option (List ℕ)) (value : Option Data) → IsAdminToken value token → admin_token_of value ≡ Ok token
admin_token_from token value (inl (none, same)) = rw (none, same)
admin_token_from token value (inr (text, some, is, same)) = rw (some, is, same)

-- an address that is taken, and one that is not
near_or_guarded : (guarded : Bool) (a : IpAddr) (bind : Option IpAddr) → unless_open guarded a ≡ Ok bind → (bind ≡ Some a) × (guarded ≡ false → is_loopback a ≡ true)
near_or_guarded true a bind h = let same : bind ≡ Some a = cc in (same, λ never. cc)
near_or_guarded false a bind h =
    elim (cases_Bool (is_loopback a)) [
      | inl near ↦ let there : Ok (Some a) ≡ Ok bind = rw near at h in let same : bind ≡ Some a = cc in (same, λ none. near)
      | inr far ↦ let never : Err (Exposed key.AdminBind) ≡ Ok bind = rw far at h in cc
    ]

pub open_since : (guarded : Bool) (a : IpAddr) (why : Why) → unless_open guarded a ≡ Err why → (why ≡ Exposed key.AdminBind) × (guarded ≡ false) × ¬ IsLoopbackIp a
open_since true a why h = cc
open_since false a why h =
    elim (cases_Bool (is_loopback a)) [
      | inl near ↦ let never : Ok (Some a) ≡ Err why = rw near at h in cc
      | inr far ↦
          let there : Err (Exposed key.AdminBind) ≡ Err why = rw far at h in
          let same : why ≡ Exposed key.AdminBind = cc in
          (same, refl, λ loop. let never : true ≡ false = sym (near_from a loop) ∙ far in cc)
    ]

open_from : (token : Option (List ℕ)) (a : IpAddr) → (token ≡ None → IsLoopbackIp a) → unless_open (is_some token) a ≡ Ok (Some a)
open_from (Some text) a near = refl
open_from None a near = rw (near_from a (near refl))

admin_bind_since : (token : Option (List ℕ)) (bind : Option IpAddr) (value : Option Data) → admin_bind_of (is_some token) value ≡ Ok bind → IsAdminBind token value bind
admin_bind_since token bind None h = let none : bind ≡ None = cc in inl (refl, none)
admin_bind_since token bind (Some d) h =
    let (text, is_text, h1) = both_ok (ok_or (as_str d) _) _ bind h in
    let (a, written, h2) = both_ok (ok_or (ip_of text) _) (unless_open (is_some token)) bind h1 in
    let (same, near) = near_or_guarded (is_some token) a bind h2 in
    let loop : token ≡ None → IsLoopbackIp a = λ none. near_since a (near (ap is_some none)) in
    inr (text, a, ap Some (text_since d text (some_since _ _ text is_text)), ip_since text a (some_since _ _ a written), loop, same)

admin_bind_from : (token : Option (List ℕ)) (bind : Option IpAddr) (value : Option Data) → IsAdminBind token value bind → admin_bind_of (is_some token) value ≡ Ok bind
admin_bind_from token bind value (inl (none, same)) = rw (none, same)
admin_bind_from token bind value (inr (text, a, some, spells, near, same)) = rw (some, ip_from text a spells, same) (open_from token a near)

pub admin_keys_since : (table : Members) (admin : AdminSettings) → admin_keys_of table ≡ Ok admin → AreAdminKeys table admin
admin_keys_since table admin h =
    let (address, address_read, h1) = both_ok (admin_of (value_at key.Admin table)) _ admin h in
    let (token, token_read, h2) = both_ok (admin_token_of (value_at key.AdminToken table)) _ admin h1 in
    let (bind, bind_read, h3) = both_ok (admin_bind_of (is_some token) (value_at key.AdminBind table)) _ admin h2 in
    let whole : record { address = address; token = token; bind = bind } ≡ admin = cc in
    rw (← whole) (record {
      address = admin_since address _ address_read;
      token = admin_token_since token _ token_read;
      bind = admin_bind_since token bind _ bind_read;
    })

pub admin_keys_from : (table : Members) (admin : AdminSettings) → AreAdminKeys table admin → admin_keys_of table ≡ Ok admin
admin_keys_from table admin are =
    rw (
      admin_from admin.address _ are.address,
      admin_token_from admin.token _ are.token,
      admin_bind_from admin.token admin.bind _ are.bind,
    )
