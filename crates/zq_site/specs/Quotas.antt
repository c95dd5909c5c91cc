-- How much of what a peer sent may wait.

use Rattle.std.specs.Prelude.{Bool, false, min, true, ℕ, ◌+◌, ◌-◌, ◌<◌, ◌^◌, ◌≡◌, ◌≤◌, ◌⊎◌}

-- the most bytes that frames take together as they wait
abbrev pub MOST_WAITING : ℕ
MOST_WAITING = 262144

-- what a frame of so many bytes takes as it waits
abbrev pub cost_of : ℕ → ℕ
cost_of length = min (length + 64) (2 ^ 64 - 1)

-- until nobody waits for room any more frames take no more than the most, where more than one wait
abbrev pub IsBounded : Bool → ℕ → ℕ → Type 0
IsBounded over frames bytes = over ≡ false → 1 < frames → bytes ≤ MOST_WAITING

-- whether a frame that takes so much may wait beside those that wait
abbrev pub MayEnter : Bool → ℕ → ℕ → ℕ → Type 0
MayEnter over frames bytes cost =
    (over ≡ true) ⊎ ((frames ≡ 0) ⊎ (bytes + cost ≤ MOST_WAITING))
