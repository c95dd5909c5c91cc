-- What a book says of keys that were not changed.

use Rattle.std.specs.Cmp.Lexicographic.{pointwise}
use Rattle.std.specs.List.{list_all, list_any}
use Rattle.std.specs.Prelude.{Bool, List, Vec, map, nat_eq, not, ℕ, ◌&&◌}
use Rattle.std.specs.declared.alloc.Global.{Global}
use Rattle.zq_model.specs.Books.{Book, operations_of}
use Rattle.zq_model.specs.Operation.{Operation}
use Rattle.zq_model.specs.Sets.{covers}
use Rattle.zq_model.specs.Tail.{lacking}

-- the bytes of keys
abbrev pub keys_of : List (Vec ℕ Global) → List (List ℕ)
keys_of keys = map (λ k. k.items) keys

-- whether the key is one of these
abbrev pub is_among : List (List ℕ) → List ℕ → Bool
is_among keys key = list_any (λ k. pointwise nat_eq k key) keys

-- whether the operation is on none of them
abbrev pub is_apart : List (List ℕ) → Operation → Bool
is_apart keys o = not (is_among keys o.key)

-- whether the book says that none of these keys was changed since its heap had this vector: the
-- vector has all that the base has, and of the records that it lacks none is on one of the keys
abbrev pub is_untouched : List ℕ → List (List ℕ) → Book → Bool
is_untouched v keys b =
    covers v b.base.vector && list_all (is_apart keys) (lacking v (operations_of b.tail))
