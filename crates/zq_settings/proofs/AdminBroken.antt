-- The keys of the admin port are refused for a rule that they break.
use Rattle.zq_settings.proofs.Faults.{HasFault, by_steps}
use Rattle.zq_settings.proofs.MeantAdmin.{admin_fault}
use Rattle.zq_settings.proofs.MeantAdminKeys.{admin_token_since, open_since, token_cases}
use Rattle.zq_settings.proofs.SiteFaults.{address_breaks, fault_breaks}
use Rattle.zq_settings.proofs.Spelled.{ip_since, no_ip}
use Rattle.zq_settings.proofs.Steps.{none_since, some_since, text_since}
use Rattle.std.proofs.Common.{◌≡◌, ◌⊎◌, ℕ, Bool, false, List, Option, Some, None, Ok, Err, refl, inl, inr}
use Rattle.std.specs.Option.{is_some, ok_or}
use Rattle.toml.specs.Data.{Data, Members, as_str, string}
use Rattle.zq_settings.specs.Addresses.{ip_of}
use Rattle.zq_settings.specs.AdminKeys.{admin_bind_of, admin_token_of, unless_no_token, unless_open}
use Rattle.zq_settings.specs.Site.{admin_keys_of, admin_of}
use Rattle.zq_settings.specs.SiteBreaks.{IsExposed, SiteBreaks}
use Rattle.zq_settings.specs.Tables.{value_at}
use Rattle.zq_settings.specs.declared.key.Key.TheVariants as key
use Rattle.zq_settings.specs.declared.why.Why.{Why}
use Rattle.zq_settings.specs.declared.why.Why.TheVariants.{Exposed, Kind, Range}

token_fault : (table : Members) (why : Why) (value : Option Data) → value_at key.AdminToken table ≡ value → admin_token_of value ≡ Err why → HasFault key.AdminToken table why
token_fault table why None seen h = cc
token_fault table why (Some d) seen last =
    by_steps (ok_or (as_str d) (Kind key.AdminToken)) unless_no_token why (HasFault key.AdminToken table why) (λ h.
    let (none, same) = none_since (as_str d) (Kind key.AdminToken) why h in
    inl (same, (d, seen, none))) (λ text is_text h.
    let (other, same) = (token_cases text).1 why h in
    inr (same, (d, seen, (text, text_since d text (some_since _ _ text is_text), other)))) last

-- no token was read where the table has none
no_token : (token : Option (List ℕ)) (value : Option Data) → admin_token_of value ≡ Ok token → is_some token ≡ false → value ≡ None
no_token (Some text) value h none = cc
no_token None value h none = elim (admin_token_since None value h) [ inl neither ↦ neither.0 | inr some ↦ let never : None ≡ Some some.0 = some.3 in cc ]

-- the address is none, or it is open to others
abbrev HasOpen : Members → Type 0
HasOpen table = (value : Data) × (value_at key.AdminBind table ≡ Some value) × IsExposed key.AdminBind value

abbrev BindFault : Bool → Members → Why → Type 0
BindFault guarded table why = HasFault key.AdminBind table why
    ⊎ ((why ≡ Exposed key.AdminBind) × (guarded ≡ false) × HasOpen table)

bind_fault : (guarded : Bool) (table : Members) (why : Why) (value : Option Data) → value_at key.AdminBind table ≡ value → admin_bind_of guarded value ≡ Err why → BindFault guarded table why
bind_fault guarded table why None seen h = cc
bind_fault guarded table why (Some d) seen last =
    by_steps (ok_or (as_str d) (Kind key.AdminBind)) _ why (BindFault guarded table why) (λ h.
    let (none, same) = none_since (as_str d) (Kind key.AdminBind) why h in
    inl (inl (same, (d, seen, none)))) (λ text is_text.
    let writes : d ≡ string text = text_since d text (some_since _ _ text is_text) in
    by_steps (ok_or (ip_of text) (Range key.AdminBind)) (unless_open guarded) why (BindFault guarded table why) (λ h.
    let (none, same) = none_since (ip_of text) (Range key.AdminBind) why h in
    inl (inr (same, (d, seen, (text, writes, no_ip text none))))) (λ ip written h.
    let (same, bare, far) = open_since guarded ip why h in
    inr (same, bare, (d, seen, (text, ip, writes, ip_since text ip (some_since _ _ ip written), far))))) last

bind_breaks : (guarded : Bool) (table : Members) (why : Why) → (guarded ≡ false → value_at key.AdminToken table ≡ None) → BindFault guarded table why → SiteBreaks table why
bind_breaks guarded table why bare (inl fault) = fault_breaks table table key.AdminBind (λ Q q. q) why fault
bind_breaks guarded table why bare (inr (same, none, has)) = rw same (bare none, has)

pub admin_keys_break : (table : Members) (why : Why) → admin_keys_of table ≡ Err why → SiteBreaks table why
admin_keys_break table why =
    let P : Type 0 = SiteBreaks table why in
    by_steps (admin_of (value_at key.Admin table)) _ why P (λ h. address_breaks table table key.Admin (λ Q q. q) false (λ none has. has) why (admin_fault table why _ refl h)) (λ address _.
    by_steps (admin_token_of (value_at key.AdminToken table)) _ why P (λ h. fault_breaks table table key.AdminToken (λ Q q. q) why (token_fault table why _ refl h)) (λ token token_read.
    by_steps (admin_bind_of (is_some token) (value_at key.AdminBind table)) _ why P
    (λ h. bind_breaks (is_some token) table why (no_token token _ token_read) (bind_fault (is_some token) table why _ refl h)) (λ bind _ wrong. cc)))
