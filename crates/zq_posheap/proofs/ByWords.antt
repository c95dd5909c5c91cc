-- Words of eight bytes, one after another.
use Rattle.std.proofs.Common.{arith, refl}
use Rattle.std.specs.Prelude.{List, [], ◌∷◌, ◌≡◌, ◌<◌, ◌≤◌, length, take, drop, ℕ}
use Rattle.zq_posheap.specs.Hashing.{words_of}

-- more than eight bytes begin with a word
pub word_first : (bytes : List ℕ) → 8 < length bytes → words_of bytes ≡ take 8 bytes ∷ words_of (drop 8 bytes)
word_first (a ∷ b ∷ c ∷ d ∷ e ∷ f ∷ g ∷ h ∷ i ∷ more) long = refl
word_first [] long = absurd (omega (arith, long))
word_first (a ∷ []) long = absurd (omega (arith, long))
word_first (a ∷ b ∷ []) long = absurd (omega (arith, long))
word_first (a ∷ b ∷ c ∷ []) long = absurd (omega (arith, long))
word_first (a ∷ b ∷ c ∷ d ∷ []) long = absurd (omega (arith, long))
word_first (a ∷ b ∷ c ∷ d ∷ e ∷ []) long = absurd (omega (arith, long))
word_first (a ∷ b ∷ c ∷ d ∷ e ∷ f ∷ []) long = absurd (omega (arith, long))
word_first (a ∷ b ∷ c ∷ d ∷ e ∷ f ∷ g ∷ []) long = absurd (omega (arith, long))
word_first (a ∷ b ∷ c ∷ d ∷ e ∷ f ∷ g ∷ h ∷ []) long = absurd (omega (arith, long))

-- and fewer are one
pub word_last : (bytes : List ℕ) → length bytes ≤ 8 → words_of bytes ≡ bytes ∷ []
word_last [] few = refl
word_last (a ∷ []) few = refl
word_last (a ∷ b ∷ []) few = refl
word_last (a ∷ b ∷ c ∷ []) few = refl
word_last (a ∷ b ∷ c ∷ d ∷ []) few = refl
word_last (a ∷ b ∷ c ∷ d ∷ e ∷ []) few = refl
word_last (a ∷ b ∷ c ∷ d ∷ e ∷ f ∷ []) few = refl
word_last (a ∷ b ∷ c ∷ d ∷ e ∷ f ∷ g ∷ []) few = refl
word_last (a ∷ b ∷ c ∷ d ∷ e ∷ f ∷ g ∷ h ∷ []) few = refl
word_last (a ∷ b ∷ c ∷ d ∷ e ∷ f ∷ g ∷ h ∷ i ∷ more) few = absurd (omega (arith, few))
