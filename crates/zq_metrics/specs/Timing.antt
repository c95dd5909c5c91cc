-- How long requests take, sorted by bounds.

use Rattle.std.specs.Prelude.{List, [], codes, if◌then◌else◌, ℕ, ◌%◌, ◌+◌, ◌==◌, ◌^◌, ◌∷◌}

-- the bounds, in nanoseconds
abbrev pub bounds : List ℕ
bounds =
    10_000 ∷ 25_000 ∷ 50_000 ∷ 100_000 ∷ 250_000 ∷ 500_000 ∷ 1_000_000 ∷ 2_500_000 ∷ 5_000_000
    ∷ 10_000_000 ∷ 25_000_000 ∷ 50_000_000 ∷ 100_000_000 ∷ 250_000_000 ∷ 1_000_000_000 ∷ []

-- the same in seconds, and what is past the last
unfoldable pub bound_text : ℕ → List ℕ
bound_text place =
    if place == 0 then codes "0.00001"
    else if place == 1 then codes "0.000025"
    else if place == 2 then codes "0.00005"
    else if place == 3 then codes "0.0001"
    else if place == 4 then codes "0.00025"
    else if place == 5 then codes "0.0005"
    else if place == 6 then codes "0.001"
    else if place == 7 then codes "0.0025"
    else if place == 8 then codes "0.005"
    else if place == 9 then codes "0.01"
    else if place == 10 then codes "0.025"
    else if place == 11 then codes "0.05"
    else if place == 12 then codes "0.1"
    else if place == 13 then codes "0.25"
    else if place == 14 then codes "1"
    else codes "+Inf"

-- two counts together: a count begins again at 0 past the last value of 64 bits
abbrev pub both : ℕ → ℕ → ℕ
both one other = (one + other) % 2 ^ 64
