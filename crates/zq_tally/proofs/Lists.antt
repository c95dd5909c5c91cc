-- Counts of one table.
use Rattle.std.proofs.Common.{◌≡◌, List, ◌∷◌, subst}
use Rattle.std.proofs.lemmas.List.Elements.{All-head, All-tail}
use Rattle.atomic_table.specs.Seated.{TableId}
use Rattle.zq_tally.specs.declared.count.Count.{Count}
use Rattle.zq_tally.specs.Words.{count_table, AreOf}

-- the first of them and the others are of that table
pub first_and_others : (table : TableId) (counts others : List Count) (first : Count) → counts ≡ first ∷ others → AreOf table counts
    → (count_table first ≡ table) × AreOf table others
first_and_others table counts others first is own =
    let all = subst (AreOf table) is own in
    (All-head (λ c. count_table c ≡ table) first others all, All-tail (λ c. count_table c ≡ table) first others all)
