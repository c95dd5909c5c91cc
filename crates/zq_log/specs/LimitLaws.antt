-- What a limiter comes to over all lines of a kind.

use Rattle.std.specs.Prelude.{List, [], if◌then◌else◌, length, slice_index, ℕ, ◌+◌, ◌<◌, ◌≤◌, ◌∷◌, ⊤}
use Rattle.zq_log.specs.Limits.{LAST, WINDOW, fresh, limited, passes}
use Rattle.zq_log.specs.declared.limiter.Limiter.{Limiter}

-- a limiter after lines at these times, the newest first
abbrev pub limiter_after : List ℕ → Limiter
limiter_after [] = fresh
limiter_after (now ∷ earlier) = limited now (limiter_after earlier)

-- the times of those that pass, the newest first
abbrev pub passed : List ℕ → List ℕ
passed [] = []
passed (now ∷ earlier) =
    if passes now (limiter_after earlier).free then now ∷ passed earlier else passed earlier

-- no time is so late that a window after it is past the last one
abbrev pub AreEarly : List ℕ → Type 0
AreEarly [] = ⊤
AreEarly (now ∷ earlier) = (now + WINDOW ≤ LAST) × AreEarly earlier

-- ten lines on it is a window later
abbrev pub AreApart : List ℕ → Type 0
AreApart times =
    (i : ℕ) → i + 10 < length times → slice_index times (i + 10) + WINDOW ≤ slice_index times i

-- of all lines of a kind that pass no eleven lie within one window, whenever lines come
abbrev pub AtMostTen : Type 0
AtMostTen = (times : List ℕ) → AreEarly times → AreApart (passed times)
