-- What a queue is seen as: the rule of its scores, its entries, and its members by their places.

use Rattle.std.specs.Coded.{Coded, code_by, coded×, coded_list, coded_ℕ}
use Rattle.std.specs.FinMap.{FinMap, entries, from_entries, get}
use Rattle.std.specs.Prelude.{List, Some, [], false, map, refl, ℕ, ℤ, ◌≡◌}
use Rattle.zq_model.specs.Image.{Entry, is_bare}
use Rattle.zq_model.specs.Rule.{Rule}
use Rattle.zq_model.specs.Score.{score_of}
use Rattle.zq_queue.specs.Codes.{entries_code, rule_code}
use Rattle.zq_queue.specs.Entries.{Entries, bytes_cmp}

pub record Queued : Type 0 where
  pub rule : Rule
  pub entries : Entries
  -- the members by their places
  pub places : List (List ℕ)

abbrev pub queued_code : Coded Queued
queued_code = code_by (Rule × (Entries × List (List ℕ)))
    (coded× rule_code (coded× entries_code (coded_list (coded_list coded_ℕ))))
    (λ q. (q.rule, (q.entries, q.places)))
    (λ p. record { rule = p.0; entries = p.1.0; places = p.1.1 }) (λ _. refl)

-- what two queues of the same members share, wherever these stand
abbrev pub without_places : Queued → Queued
without_places q = record { rule = q.rule; entries = q.entries; places = [] }

-- a score and an entry for each member
abbrev pub Held : Type 0
Held = FinMap bytes_cmp (ℤ × Entry)

-- the entries alone
abbrev pub entries_of : Held → Entries
entries_of held = from_entries (map (λ e. (e.0, e.1.1)) (entries held))

-- each score is that of the entry beside it
abbrev pub AreScored : Rule → Held → Type 0
AreScored rule held = (member : List ℕ) (e : ℤ × Entry) → get held member ≡ Some e →
    score_of rule e.1 ≡ Some e.0

-- no entry is bare
abbrev pub NoneIsBareIn : Held → Type 0
NoneIsBareIn held = (member : List ℕ) (e : ℤ × Entry) → get held member ≡ Some e →
    is_bare e.1 ≡ false
