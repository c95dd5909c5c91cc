-- What protects the port of clients is refused for a rule that it breaks.
use Rattle.zq_settings.proofs.Faults.{HasFault, by_steps}
use Rattle.zq_settings.proofs.MeantAdminKeys.{near_from}
use Rattle.zq_settings.proofs.MeantProtection.{Reached, password_file_since, path_cases, reached_cases, unprotected_from}
use Rattle.zq_settings.proofs.SiteFaults.{fault_breaks}
use Rattle.zq_settings.proofs.Steps.{none_since, some_since, text_since}
use Rattle.std.proofs.Common.{◌≡◌, ◌⊎◌, ℕ, Bool, true, false, List, Option, Some, None, Ok, Err, refl, sym, ap, ◌∙◌, inl, inr}
use Rattle.std.specs.Option.{is_some, ok_or}
use Rattle.std.specs.declared.net.ip_addr.IpAddr.{IpAddr}
use Rattle.toml.specs.Data.{Data, Members, as_bool, as_str, boolean}
use Rattle.zq_settings.specs.Addresses.{IsLoopbackIp, is_loopback, localhost}
use Rattle.zq_settings.specs.Paths.{password_file_of, unless_no_path}
use Rattle.zq_settings.specs.Protecting.{protection_of, unless_reached, unprotected_of}
use Rattle.zq_settings.specs.SiteBreaks.{SiteBreaks}
use Rattle.zq_settings.specs.SiteRules.{IsBind}
use Rattle.zq_settings.specs.Tables.{value_at}
use Rattle.zq_settings.specs.declared.key.Key.TheVariants as key
use Rattle.zq_settings.specs.declared.values.Protection.{Protection}
use Rattle.zq_settings.specs.declared.why.Why.{Why}
use Rattle.zq_settings.specs.declared.why.Why.TheVariants.{Exposed, Kind, Range}

path_fault : (table : Members) (why : Why) (value : Option Data) → value_at key.PasswordFile table ≡ value → password_file_of value ≡ Err why → HasFault key.PasswordFile table why
path_fault table why None seen h = cc
path_fault table why (Some d) seen last =
    by_steps (ok_or (as_str d) (Kind key.PasswordFile)) unless_no_path why (HasFault key.PasswordFile table why) (λ h.
    let (none, same) = none_since (as_str d) (Kind key.PasswordFile) why h in
    inl (same, (d, seen, none))) (λ text is_text h.
    let (other, same) = (path_cases text).1 why h in
    inr (same, (d, seen, (text, text_since d text (some_since _ _ text is_text), other)))) last

open_fault : (table : Members) (why : Why) (value : Option Data) → value_at key.Unprotected table ≡ value → unprotected_of value ≡ Err why → HasFault key.Unprotected table why
open_fault table why None seen h = cc
open_fault table why (Some d) seen h =
    let (none, same) = none_since (as_bool d) (Kind key.Unprotected) why h in
    inl (same, (d, seen, none))

-- no file was read where the table has none
no_file : (file : Option (List ℕ)) (value : Option Data) → password_file_of value ≡ Ok file → is_some file ≡ false → value ≡ None
no_file (Some text) value h none = cc
no_file None value h none = elim (password_file_since None value h) [ inl neither ↦ neither.0 | inr some ↦ let never : None ≡ Some some.0 = some.3 in cc ]

-- and it is not said that none is wanted where that was not read
not_open : (table : Members) → unprotected_of (value_at key.Unprotected table) ≡ Ok false → ¬ (value_at key.Unprotected table ≡ Some (boolean true))
not_open table read some = let never : Ok true ≡ Ok false = sym (unprotected_from true _ (inr some)) ∙ read in cc

home : is_loopback localhost ≡ true
home = refl

-- an address that others reach is that of a value
reached_by : (table : Members) (bind : IpAddr) → IsBind (value_at key.Bind table) bind → (value_at key.PasswordFile table ≡ None) → ¬ (value_at key.Unprotected table ≡ Some (boolean true)) → is_loopback bind ≡ false → SiteBreaks table (Exposed key.Bind)
reached_by table bind (inl (none, same)) bare closed far = let never : true ≡ false = sym home ∙ ap is_loopback (sym same) ∙ far in cc
reached_by table bind (inr (text, some, writes)) bare closed far =
    let open' : ¬ IsLoopbackIp bind = λ loop. let never : true ≡ false = sym (near_from bind loop) ∙ far in cc in
    (bare, closed, (_, some, (text, bind, refl, writes, open')))

pub protection_breaks : (table : Members) (bind : IpAddr) → IsBind (value_at key.Bind table) bind → (why : Why) → protection_of bind table ≡ Err why → SiteBreaks table why
protection_breaks table bind is_bind why =
    let P : Type 0 = SiteBreaks table why in
    by_steps (password_file_of (value_at key.PasswordFile table)) _ why P (λ h. fault_breaks table table key.PasswordFile (λ Q q. q) why (path_fault table why _ refl h)) (λ file file_read.
    by_steps (unprotected_of (value_at key.Unprotected table)) _ why P (λ h. fault_breaks table table key.Unprotected (λ Q q. q) why (open_fault table why _ refl h)) (λ unprotected unprotected_read h.
    let made : Protection = record { password_file = file; unprotected = unprotected } in
    let (same, (far, bare, closed)) = (reached_cases bind made).1 why h in
    rw same (reached_by table bind is_bind (no_file file _ file_read bare) (not_open table (unprotected_read ∙ ap Ok closed)) far)))
