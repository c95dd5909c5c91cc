-- The words behind ZADD.

use Rattle.std.proofs.Common.{ap, arith, get_or, sym}
use Rattle.std.specs.Prelude.{Err, List, [], drop, length, refl, ℕ, ◌<◌, ◌∷◌, ◌≡◌, ◌≤◌}
use Rattle.std.specs.declared.alloc.Global.{Global}
use Rattle.std.specs.declared.vec.Vec.{Vec}
use Rattle.zq_words.specs.Command.{command, zadd_words}
use Rattle.zq_words.specs.Words.{views}
use Rattle.zq_words.specs.declared.name.Name.TheVariants as name
use Rattle.zq_words.specs.declared.refused.Refused.TheVariants as refused

-- a key and one pair at least
pub few_words : (words : List (Vec ℕ Global)) → length words < 3 → command name.Zadd (views words) ≡ Err refused.Words
few_words [] h = refl
few_words (k ∷ []) h = refl
few_words (k ∷ a ∷ []) h = refl
few_words (k ∷ a ∷ b ∷ words) h = absurd (omega arith)

-- the key is the first
pub key_first : (words : List (Vec ℕ Global)) (key : Vec ℕ Global) → 3 ≤ length words → key ≡ get_or words 0 key →
    command name.Zadd (views words) ≡ zadd_words key.items (views (drop 1 words))
key_first [] key h e = absurd (omega arith)
key_first (k ∷ []) key h e = absurd (omega arith)
key_first (k ∷ a ∷ []) key h e = absurd (omega arith)
key_first (k ∷ a ∷ b ∷ words) key h e = ap (λ w. zadd_words w.items (views (a ∷ b ∷ words))) (sym e)
