-- Why the bytes of a file give no settings.

use Rattle.std.specs.Prelude.{List, Option, Some, codes, ℕ}
use Rattle.std.specs.Str.{IsUtf8}
use Rattle.zq_settings.specs.Texts.{IsRefusal, IsSiteRefusal}
use Rattle.zq_settings.specs.Words.{fault_words}
use Rattle.zq_settings.specs.declared.fault.SettingsFault.TheVariants.{NoMemory}
use Rattle.zqueue.specs.declared.configured.Unsettled.TheVariants.{Fault, NotText}
use Rattle.zqueue.specs.declared.configured.Unsettled.{Unsettled}
use Rattle.zqueue.specs.declared.refusal.Refusal.TheVariants.{Memory, Settings}
use Rattle.zqueue.specs.declared.refusal.Refusal.{Refusal}

-- they are no UTF-8, or the text that they are breaks this rule first: of the settings of several
-- sites
abbrev pub IsUnsettled : List ℕ → Unsettled → Type 0
IsUnsettled bytes NotText = IsUtf8 bytes → ⊥
IsUnsettled bytes (Fault fault) = IsRefusal bytes fault

-- and of the settings of one site
abbrev pub IsSiteUnsettled : List ℕ → Unsettled → Type 0
IsSiteUnsettled bytes NotText = IsUtf8 bytes → ⊥
IsSiteUnsettled bytes (Fault fault) = IsSiteRefusal bytes fault

-- what the program says then
abbrev pub refusal_of : Unsettled → Refusal
refusal_of (Fault NoMemory) = Memory
refusal_of _ = Settings

-- and in words
abbrev pub words_of : Unsettled → Option (List ℕ)
words_of NotText = Some (codes "the file is not UTF-8")
words_of (Fault fault) = fault_words fault
