-- What protects the port of clients is what the table says.
use Rattle.zq_settings.proofs.MeantAdminKeys.{near_from, near_since}
use Rattle.zq_settings.proofs.Steps.{bool_since, both_ok, some_since, text_since}
use Rattle.std.proofs.Common.{◌≡◌, ℕ, Bool, true, false, not, ◌&&◌, List, Option, Some, None, Ok, Err, refl, sym, ap, ◌∙◌, inl, inr}
use Rattle.std.proofs.lemmas.Bool.{cases_Bool}
use Rattle.std.specs.Option.{is_some, ok_or}
use Rattle.std.specs.declared.net.ip_addr.IpAddr.{IpAddr}
use Rattle.toml.specs.Data.{Data, Members, as_bool, as_str, boolean}
use Rattle.zq_settings.specs.Addresses.{IsLoopbackIp, is_loopback}
use Rattle.zq_settings.specs.Paths.{is_path, password_file_of, unless_no_path}
use Rattle.zq_settings.specs.Protecting.{is_reached, protection_of, unless_reached, unprotected_of}
use Rattle.zq_settings.specs.SiteRules.{IsPasswordFile, IsProtection, IsUnprotected}
use Rattle.zq_settings.specs.Tables.{value_at}
use Rattle.zq_settings.specs.declared.key.Key.TheVariants as key
use Rattle.zq_settings.specs.declared.values.Protection.{Protection}
use Rattle.zq_settings.specs.declared.why.Why.{Why}
use Rattle.zq_settings.specs.declared.why.Why.TheVariants.{Exposed, Range}

-- a text is the name of a file, or it is refused for that
abbrev pub PathCases : List ℕ → Type 0
PathCases text = ((file : Option (List ℕ)) → unless_no_path text ≡ Ok file → (is_path text ≡ true) × (file ≡ Some text))
    × ((why : Why) → unless_no_path text ≡ Err why → (is_path text ≡ false) × (why ≡ Range key.PasswordFile))

pub path_cases : (text : List ℕ) → PathCases text
path_cases text =
    elim (cases_Bool (is_path text)) [
      | inl is ↦ (
        λ file h. let there : Ok (Some text) ≡ Ok file = rw is at h in let same : file ≡ Some text = cc in (is, same),
        λ why h. let never : Ok (Some text) ≡ Err why = rw is at h in cc,
      )
      | inr other ↦ (
        λ file h. let never : Err (Range key.PasswordFile) ≡ Ok file = rw other at h in cc,
        λ why h. let there : Err (Range key.PasswordFile) ≡ Err why = rw other at h in let same : why ≡ Range key.PasswordFile = cc in (other, same),
      )
    ]

pub password_file_since : (file : Option (List ℕ)) (value : Option Data) → password_file_of value ≡ Ok file → IsPasswordFile value file
password_file_since file None h = let none : file ≡ None = cc in inl (refl, none)
password_file_since file (Some d) h =
    let (text, is_text, read) = both_ok (ok_or (as_str d) _) unless_no_path file h in
    let (is, same) = (path_cases text).0 file read in
    inr (text, ap Some (text_since d text (some_since _ _ text is_text)), is, same)

password_file_from : (file : Option (List ℕ)) (value : Option Data) → IsPasswordFile value file → password_file_of value ≡ Ok file
password_file_from file value (inl (none, same)) = rw (none, same)
password_file_from file value (inr (text, some, is, same)) = rw (some, is, same)

pub unprotected_since : (unprotected : Bool) (value : Option Data) → unprotected_of value ≡ Ok unprotected → IsUnprotected value unprotected
unprotected_since unprotected None h = let none : unprotected ≡ false = cc in inl (refl, none)
unprotected_since unprotected (Some d) h = inr (ap Some (bool_since d unprotected (some_since (as_bool d) _ unprotected h)))

pub unprotected_from : (unprotected : Bool) (value : Option Data) → IsUnprotected value unprotected → unprotected_of value ≡ Ok unprotected
unprotected_from unprotected value (inl (none, same)) = rw (none, same)
unprotected_from unprotected value (inr some) = rw some

-- others reach the address, and nothing keeps them out
abbrev pub Reached : IpAddr → Protection → Type 0
Reached bind protection = (is_loopback bind ≡ false) × (is_some protection.password_file ≡ false) × (protection.unprotected ≡ false)

reached_parts : (near guarded free : Bool) → (not near && (not guarded && not free)) ≡ true → (near ≡ false) × (guarded ≡ false) × (free ≡ false)
reached_parts false false false h = (refl, refl, refl)
reached_parts false false true h = cc
reached_parts false true free h = cc
reached_parts true guarded free h = cc

not_reached : (near guarded free : Bool) → (not near && (not guarded && not free)) ≡ false → guarded ≡ false → free ≡ false → near ≡ true
not_reached true guarded free h bare closed = refl
not_reached false true free h bare closed = cc
not_reached false false true h bare closed = cc
not_reached false false false h bare closed = cc

kept : (near guarded free : Bool) → (guarded ≡ false → free ≡ false → near ≡ true) → (not near && (not guarded && not free)) ≡ false
kept true guarded free h = refl
kept false true free h = refl
kept false false true h = refl
kept false false false h = let never : false ≡ true = h refl refl in cc

-- the address is taken, or it is refused for that
pub reached_cases : (bind : IpAddr) (protection : Protection) → ((given : Protection) → unless_reached bind protection ≡ Ok given → (given ≡ protection) × (is_reached bind protection ≡ false))
    × ((why : Why) → unless_reached bind protection ≡ Err why → (why ≡ Exposed key.Bind) × Reached bind protection)
reached_cases bind protection =
    elim (cases_Bool (is_reached bind protection)) [
      | inl reached ↦ (
        λ given h. let never : Err (Exposed key.Bind) ≡ Ok given = rw reached at h in cc,
        λ why h.
            let there : Err (Exposed key.Bind) ≡ Err why = rw reached at h in
            let same : why ≡ Exposed key.Bind = cc in
            (same, reached_parts (is_loopback bind) (is_some protection.password_file) protection.unprotected reached),
      )
      | inr free ↦ (
        λ given h. let there : Ok protection ≡ Ok given = rw free at h in let same : given ≡ protection = cc in (same, free),
        λ why h. let never : Ok protection ≡ Err why = rw free at h in cc,
      )
    ]

none_some : (file : Option (List ℕ)) → is_some file ≡ false → file ≡ None
none_some None h = refl
none_some (Some text) h = cc

pub protection_since : (table : Members) (bind : IpAddr) (protection : Protection) → protection_of bind table ≡ Ok protection → IsProtection table bind protection
protection_since table bind protection h =
    let (file, file_read, h1) = both_ok (password_file_of (value_at key.PasswordFile table)) _ protection h in
    let (unprotected, unprotected_read, h2) = both_ok (unprotected_of (value_at key.Unprotected table)) _ protection h1 in
    let made : Protection = record { password_file = file; unprotected = unprotected } in
    let (same, free) = (reached_cases bind made).0 protection h2 in
    rw same (record {
      password_file = password_file_since file _ file_read;
      unprotected = unprotected_since unprotected _ unprotected_read;
      near = λ none closed. near_since bind (not_reached (is_loopback bind) (is_some file) unprotected free (ap is_some none) closed);
    })

pub protection_from : (table : Members) (bind : IpAddr) (protection : Protection) → IsProtection table bind protection → protection_of bind table ≡ Ok protection
protection_from table bind protection is =
    let free : is_reached bind protection ≡ false = kept (is_loopback bind) (is_some protection.password_file) protection.unprotected (λ bare closed. near_from bind (is.near (none_some protection.password_file bare) closed)) in
    rw (
      password_file_from protection.password_file _ is.password_file,
      unprotected_from protection.unprotected _ is.unprotected,
      free,
    )
