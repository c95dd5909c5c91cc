-- Codes of what a queue is seen as.

use Rattle.std.specs.Coded.{Coded, code_by, coded_ℕ}
use Rattle.std.specs.FinMap as map
use Rattle.std.specs.Prelude.{refl, suc, zero, ℕ, ◌≡◌}
use Rattle.zq_model.specs.Codes.{bytes_code, entry_code}
use Rattle.zq_model.specs.Rule.{Greatest, Least, Rule}
use Rattle.zq_queue.specs.Entries.{Entries}

abbrev rule_number : Rule → ℕ
rule_number Greatest = 0
rule_number Least = 1

abbrev rule_from : ℕ → Rule
rule_from zero = Greatest
rule_from (suc n) = Least

pub rule-from_number : (rule : Rule) → rule_from (rule_number rule) ≡ rule
rule-from_number Greatest = refl
rule-from_number Least = refl

abbrev pub rule_code : Coded Rule
rule_code = code_by ℕ coded_ℕ rule_number rule_from rule-from_number

abbrev pub entries_code : Coded Entries
entries_code = map.code bytes_code entry_code
