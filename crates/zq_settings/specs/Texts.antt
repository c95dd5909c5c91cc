-- What a text of settings is read as.
use Rattle.std.specs.Prelude.{◌≡◌, ◌==◌, ◌+◌, ◌⊎◌, ℕ, List, take, Vec, Some, None, Result, Ok, Err}
use Rattle.std.specs.List.{count_by}
use Rattle.std.specs.declared.alloc.Global.{Global}
use Rattle.toml.specs.Data.{Members}
use Rattle.toml.specs.Errors.{IsBlank, IsWithin, span_start}
use Rattle.toml.specs.Parse.{parse_document}
use Rattle.zq_settings.specs.Settings.{settings_of}
use Rattle.zq_settings.specs.Site.{site_settings_of}
use Rattle.zq_settings.specs.declared.fault.SettingsFault.{SettingsFault}
use Rattle.zq_settings.specs.declared.fault.SettingsFault.TheVariants.{Refused, NoMemory}
use Rattle.zq_settings.specs.declared.values.Settings.{Settings}
use Rattle.zq_settings.specs.declared.values.SiteSettings.{SiteSettings}
use Rattle.zq_settings.specs.declared.why.Why.{Why}
use Rattle.zq_settings.specs.declared.why.Why.TheVariants.{Text}

-- a call gave what the reading gives, or found no memory
abbrev pub Reads : {A : Type 0} → Result A SettingsFault → Result A Why → Type 0
Reads (Ok a) reading = reading ≡ Ok a
Reads (Err (Refused why)) reading = reading ≡ Err why
Reads (Err NoMemory) reading = Unit {0}

-- the same of a vector and a list
abbrev pub ReadsAll : {A : Type 0} → Result (Vec A Global) SettingsFault → Result (List A) Why →
    Type 0
ReadsAll (Ok items) reading = reading ≡ Ok items.items
ReadsAll (Err (Refused why)) reading = reading ≡ Err why
ReadsAll (Err NoMemory) reading = Unit {0}

-- the line, from 1, of a place in a text
abbrev pub line_of : List ℕ → ℕ → ℕ
line_of text place = count_by (λ byte. byte == 10) (take place text) + 1

-- it has bytes that are neither white space nor of a comment: else no memory is asked for
abbrev pub HasMore : List ℕ → Type 0
HasMore text = IsBlank text → ⊥

-- the text is no TOML, with the line of its fault
abbrev pub IsNoToml : List ℕ → Why → Type 0
IsNoToml text (Text line error) = (parse_document text ≡ None) × IsWithin text error
    × (line ≡ line_of text (span_start error))
IsNoToml text _ = ⊥

-- the same of a fault; where there is no memory the text may be right or wrong
abbrev pub IsNoTable : List ℕ → SettingsFault → Type 0
IsNoTable text (Refused why) = IsNoToml text why
IsNoTable text NoMemory = HasMore text

-- the text writes a table that is read as this
abbrev pub Writes : {A : Type 0} → (Members → Result A Why) → List ℕ → Result A Why → Type 0
Writes reading text read = (table : Members) × (parse_document text ≡ Some table)
    × (reading table ≡ read)

-- the text is no TOML, or it writes a table that breaks this rule first; where there is no memory
-- the text may be right or wrong
abbrev pub IsRefusedBy : {A : Type 0} → (Members → Result A Why) → List ℕ → SettingsFault → Type 0
IsRefusedBy reading text (Refused why) = IsNoToml text why ⊎ Writes reading text (Err why)
IsRefusedBy reading text NoMemory = HasMore text

-- the text writes a table of these settings of several sites, or why it does not
abbrev pub HasSettings : List ℕ → Settings → Type 0
HasSettings text settings = Writes settings_of text (Ok settings)

abbrev pub IsRefusal : List ℕ → SettingsFault → Type 0
IsRefusal text fault = IsRefusedBy settings_of text fault

-- the text writes a table of these settings of one site, or why it does not
abbrev pub HasSiteSettings : List ℕ → SiteSettings → Type 0
HasSiteSettings text settings = Writes site_settings_of text (Ok settings)

abbrev pub IsSiteRefusal : List ℕ → SettingsFault → Type 0
IsSiteRefusal text fault = IsRefusedBy site_settings_of text fault
