-- Operations that have a spelling together have it as those of the heap of the first of them.

use Rattle.std.proofs.Common.{None, Option, refl, Some, List, subst, sym, ℕ, ◌≡◌}
use Rattle.std.specs.Option.{IsSome, MatchOption}
use Rattle.zq_batch.specs.Batch.{AreBatch}
use Rattle.zq_dots.specs.Placed.{Placed}
use Rattle.zq_entries.specs.Together.{AreTogether, heap_of, heaps_of}

-- there is a spelling
pub some_written : {X : Type 0} (is : X → Type 0) (r : Option X) (ops lent : List Placed) →
    lent ≡ ops → MatchOption r ((heaps heap : ℕ) → AreBatch heaps heap lent → ⊥) is →
    AreTogether ops → IsSome r
some_written is None ops lent same none are =
    absurd (none (heaps_of ops) (heap_of ops)
    (subst (AreBatch (heaps_of ops) (heap_of ops)) (sym same) are))
some_written is (Some x) ops lent same some are = refl

-- there is none
pub none_written : {X : Type 0} (is : X → Type 0) (r : Option X) (ops lent : List Placed) →
    lent ≡ ops → MatchOption r ((heaps heap : ℕ) → AreBatch heaps heap lent → ⊥) is → r ≡ None →
    (heaps heap : ℕ) → AreBatch heaps heap ops → ⊥
none_written is None ops lent same none none_is heaps heap are =
    none heaps heap (subst (AreBatch heaps heap) (sym same) are)
none_written is (Some x) ops lent same some none_is heaps heap are = absurd (cc)
