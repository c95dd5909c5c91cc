-- How a total under a lock follows an earlier one, beside a count that grows by one with each step.
use Rattle.std.specs.Prelude.{◌≡◌, ℕ, ◌+◌}
use Rattle.std.proofs.Common.{refl, ◌∙◌, arith}
use Rattle.zq_tally.specs.declared.total.Total.{Total}
use Rattle.zq_tally.specs.Words.{total_table, total_of, kept_of}

-- The table and the parts that are kept stay. So does the count less the total: what the one has
-- grown by, the other has.
abbrev pub FollowsTotal : Total → ℕ → Total → ℕ → Type 0
FollowsTotal later count earlier before =
    (total_table later ≡ total_table earlier) × (kept_of later ≡ kept_of earlier)
    × (count + total_of earlier ≡ before + total_of later)

pub follows_itself : (total : Total) (count : ℕ) → FollowsTotal total count total count
follows_itself total count = (refl, refl, refl)

pub follows_further : (x y z : Total) (a b c : ℕ) → FollowsTotal x a y b → FollowsTotal y b z c →
    FollowsTotal x a z c
follows_further x y z a b c one two =
    let later = one.2 in
    let earlier = two.2 in
    (one.0 ∙ two.0, one.1 ∙ two.1, omega arith)
