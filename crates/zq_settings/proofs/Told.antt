-- What a reading of a table says of its text.
use Rattle.std.proofs.Common.{◌≡◌, ◌∙◌, ℕ, List, Some, Result, Ok, Err, eq-eqb, inl, inr, refl, subst, sym}
use Rattle.std.specs.Result.{IfOk, IfErr, IsErrOf}
use Rattle.toml.specs.Data.{Members, no_members}
use Rattle.toml.specs.Errors.{IsBlank}
use Rattle.toml.specs.Parse.{lines, parse_document}
use Rattle.zq_settings.specs.Memory.{AsksOfSite, AsksOfSites}
use Rattle.zq_settings.specs.Settings.{settings_of}
use Rattle.zq_settings.specs.Site.{site_settings_of}
use Rattle.zq_settings.specs.Texts.{HasMore, HasSettings, HasSiteSettings, IsNoTable, IsRefusal, IsRefusedBy, IsSiteRefusal, Reads, Writes}
use Rattle.zq_settings.specs.declared.fault.SettingsFault.{SettingsFault}
use Rattle.zq_settings.specs.declared.fault.SettingsFault.TheVariants.{Refused, NoMemory}
use Rattle.zq_settings.specs.declared.values.Settings.{Settings}
use Rattle.zq_settings.specs.declared.values.SiteSettings.{SiteSettings}
use Rattle.zq_settings.specs.declared.why.Why.{Why}

some_same : {A : Type 0} (x y : A) → Some x ≡ Some y → x ≡ y
some_same x y is = cc

-- a text of white space and comments writes a table of no keys
blank_empty : (text : List ℕ) (table : Members) → parse_document text ≡ Some table → IsBlank text → table ≡ no_members
unfolding parse_document lines
blank_empty text table parsed blank =
    let test = eq-eqb _ 0 blank in
    let none : parse_document text ≡ Some no_members = rw test refl in
    some_same table no_members (sym parsed ∙ none)

-- and for a table of no keys no memory is asked for
more_there : (Asks : Members → Type 0) → (Asks no_members → ⊥) → (text : List ℕ) (table : Members) → parse_document text ≡ Some table → Asks table → HasMore text
more_there Asks none text table parsed asks = λ blank. none (subst Asks (blank_empty text table parsed blank) asks)

none_of_sites : AsksOfSites no_members → ⊥
none_of_sites (inl name) = absurd cc
none_of_sites (inr list) = absurd (let e = list.1.1 in cc)

none_of_site : AsksOfSite no_members → ⊥
none_of_site (inl name) = absurd cc
none_of_site (inr values) = absurd (let e = values.1.site_is in cc)

-- a table that was read
written_since : {A : Type 0} (reading : Members → Result A Why) (text : List ℕ) (table : Members) (result : Result A SettingsFault) → parse_document text ≡ Some table → Reads result (reading table) → IfOk result (λ a. Writes reading text (Ok a))
written_since reading text table (Ok a) parsed reads = (table, parsed, reads)
written_since reading text table (Err fault) parsed reads = tt

unread_since : {A : Type 0} (reading : Members → Result A Why) (Asks : Members → Type 0) → (Asks no_members → ⊥) → (text : List ℕ) (table : Members) (result : Result A SettingsFault) → parse_document text ≡ Some table → Reads result (reading table) → (IsErrOf result NoMemory → Asks table) → IfErr result (IsRefusedBy reading text)
unread_since reading Asks none text table (Ok a) parsed reads memory = tt
unread_since reading Asks none text table (Err (Refused why)) parsed reads memory = inr (table, parsed, reads)
unread_since reading Asks none text table (Err NoMemory) parsed reads memory = more_there Asks none text table parsed (memory refl)

-- and no table
untabled_since : {A : Type 0} (reading : Members → Result A Why) (text : List ℕ) (fault : SettingsFault) → IsNoTable text fault → IsRefusedBy reading text fault
untabled_since reading text (Refused why) none = inl none
untabled_since reading text NoMemory none = none

-- of several sites
pub given_since : (text : List ℕ) (table : Members) (result : Result Settings SettingsFault) → parse_document text ≡ Some table → Reads result (settings_of table) → IfOk result (HasSettings text)
given_since = written_since settings_of

pub refused_since : (text : List ℕ) (table : Members) (result : Result Settings SettingsFault) → parse_document text ≡ Some table → Reads result (settings_of table) → (IsErrOf result NoMemory → AsksOfSites table) → IfErr result (IsRefusal text)
refused_since = unread_since settings_of AsksOfSites none_of_sites

pub no_table_since : (text : List ℕ) (fault : SettingsFault) → IsNoTable text fault → IsRefusal text fault
no_table_since = untabled_since settings_of

-- of one site
pub site_given_since : (text : List ℕ) (table : Members) (result : Result SiteSettings SettingsFault) → parse_document text ≡ Some table → Reads result (site_settings_of table) → IfOk result (HasSiteSettings text)
site_given_since = written_since site_settings_of

pub site_refused_since : (text : List ℕ) (table : Members) (result : Result SiteSettings SettingsFault) → parse_document text ≡ Some table → Reads result (site_settings_of table) → (IsErrOf result NoMemory → AsksOfSite table) → IfErr result (IsSiteRefusal text)
site_refused_since = unread_since site_settings_of AsksOfSite none_of_site

pub no_site_table_since : (text : List ℕ) (fault : SettingsFault) → IsNoTable text fault → IsSiteRefusal text fault
no_site_table_since = untabled_since site_settings_of
