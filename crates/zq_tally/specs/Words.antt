-- What clauses say of a table, its counts and its total.
use Rattle.std.specs.Prelude.{◌≡◌, ℕ, List, All, map, sum}
use Rattle.atomic_table.specs.Seated.{TableId}
use Rattle.zq_tally.specs.declared.count.Count.{Count}
use Rattle.zq_tally.specs.declared.total.Total.{Total}
use Rattle.zq_tally.specs.declared.tally.Tally.{Tally}
use Rattle.zq_tally.specs.Views.{parts}

-- which table it is
abbrev pub id_of : Tally → TableId
id_of tally = tally.table.shared.table_id

-- which table a count is of
abbrev pub count_table : Count → TableId
count_table count = count.place.table_id

-- how many steps its pass has made
abbrev pub steps_of : Count → ℕ
steps_of count = count.steps

-- which table a total is of
abbrev pub total_table : Total → TableId
total_table total = total.place.table_id

-- how many steps all passes have made
abbrev pub total_of : Total → ℕ
total_of total = total.steps

-- how many parts are kept with it that are no pass's
abbrev pub kept_of : Total → ℕ
kept_of total = total.place.me.0.kept

-- the steps of the passes that are joined in it, the last one first
abbrev pub passes_of : Total → List ℕ
passes_of total = total.place.me.0.steps

-- all its parts: one for each pass that is joined, and those that are kept
abbrev pub parts_of : Total → ℕ
parts_of total = parts total.place.me.0

-- nothing that clauses say of a total has changed
abbrev pub IsSameTotal : Total → Total → Type 0
IsSameTotal new old =
    (total_table new ≡ total_table old) × (total_of new ≡ total_of old)
    × (kept_of new ≡ kept_of old) × (passes_of new ≡ passes_of old)

-- all these counts are of one table
abbrev pub AreOf : TableId → List Count → Type 0
AreOf table counts = All (λ count. count_table count ≡ table) counts

-- the steps of all these passes
abbrev pub all_steps : List Count → ℕ
all_steps counts = sum (map steps_of counts)

-- nothing that clauses say of these counts has changed
abbrev pub AreSameCounts : List Count → List Count → Type 0
AreSameCounts new old = (map steps_of new ≡ map steps_of old)
    × (map count_table new ≡ map count_table old)
