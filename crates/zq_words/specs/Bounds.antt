-- The texts of bounds.
use Rattle.std.specs.Prelude.{◌||◌, Bool, true, false, drop, codes, Option, Some, if◌then◌else◌}
use Rattle.std.specs.Option.{option_map}
use Rattle.zq_words.specs.Words.{Word, begins, is, written_score}
use Rattle.zq_words.specs.declared.bound.Bound.{Bound}
use Rattle.zq_words.specs.declared.bound.Limit.{Limit}
use Rattle.zq_words.specs.declared.bound.Limit.TheVariants.{Lowest, At, Highest}

-- where a bound lies: a score, or an infinity in any ASCII case
abbrev pub limit_of : Word → Option Limit
limit_of text =
    if is text (codes "-inf") then Some Lowest else
    if is text (codes "+inf") || is text (codes "inf") then Some Highest else
    option_map At (written_score text)

abbrev pub bound_at : Bool → Limit → Bound
bound_at is_out limit = record { is_out = is_out; limit = limit }

-- a bound is left out itself behind a parenthesis
abbrev pub bound_of : Word → Option Bound
bound_of text =
    if begins text (codes "(") then option_map (bound_at true)
    (limit_of (drop 1 text)) else option_map (bound_at false) (limit_of text)
