-- Which lines are of one kind, and the limits of each.

use Rattle.std.specs.Prelude.{All, HoldsAt, List, [], Option, Some, if◌then◌else◌, length, set, take, ℕ, ◌++◌, ◌-◌, ◌<◌, ◌==◌, ◌∷◌, ◌≡◌, ◌≢◌, ◌⊎◌}
use Rattle.zq_log.specs.Limits.{answer, fresh, limited}
use Rattle.zq_log.specs.declared.kinds.Kind.{Kind}

-- so many words of a text, the first ones, with the spaces between them
abbrev pub words : ℕ → List ℕ → List ℕ
words count [] = []
words count (c ∷ cs) =
    if c == 32
    then (if count == 1 then [] else 32 ∷ words (count - 1) cs)
    else c ∷ words count cs

-- the kind of a message: its first three words, and of those at most 32 bytes
abbrev pub kind : List ℕ → List ℕ
kind message = take 32 (words 3 message)

-- the limit of a kind after a line at this time
abbrev pub kind_after : ℕ → Kind → Kind
kind_after now known = record { words = known.words; limiter = limited now known.limiter }

-- what a line of a kind comes to, where the kind stands at this place: its limit answers, and that
-- limit alone changes
abbrev pub AnswersAt : List ℕ → ℕ → List Kind → Option ℕ → List Kind → ℕ → Kind → Type 0
AnswersAt name now old answered new place known =
    (place < length old) × HoldsAt (λ k. k ≡ known) old place × (known.words.items ≡ name)
    × (answered ≡ answer now known.limiter) × (new ≡ set old place (kind_after now known))

-- where no place has the kind: the line passes, and the kind is known from then on or is not
abbrev pub IsLearnt : List ℕ → ℕ → List Kind → List Kind → Type 0
IsLearnt name now old new = (new ≡ old)
    ⊎ ((known : Kind) × (known.words.items ≡ name) × (known.limiter ≡ limited now fresh)
    × (new ≡ old ++ known ∷ []))

-- what a line of a kind comes to: the answer, and the kinds after it
abbrev pub IsAdmitted : List ℕ → ℕ → List Kind → Option ℕ → List Kind → Type 0
IsAdmitted name now old answered new =
    ((place : ℕ) × (known : Kind) × AnswersAt name now old answered new place known)
    ⊎ (All (λ k. k.words.items ≢ name) old × (answered ≡ Some 0) × IsLearnt name now old new)
