-- Sets of operations. A set is a list: order and repeats say nothing.

use Rattle.std.specs.List.{range_with_len, list_all}
use Rattle.std.specs.Prelude.{Bool, List, Option, [], filter, find, if◌then◌else◌, length, map, max, nat_le, slice_index, true, ℕ, ◌&&◌, ◌+◌, ◌<◌, ◌==◌, ◌∷◌, ◌≡◌, ◌≤◌, ◌⊎◌}
use Rattle.zq_model.specs.Heaps.{heap_of}
use Rattle.zq_model.specs.Operation.{IsAct, Operation, has}

-- the number of sites
unfoldable pub SITES : ℕ
SITES = 64

-- the last counter
unfoldable pub LAST : ℕ
LAST = 281474976710655

-- x is in the set
abbrev pub IsIn : {X : Type 0} → X → List X → Type 0
IsIn x [] = ⊥
IsIn x (y ∷ ys) = (y ≡ x) ⊎ IsIn x ys

-- the set has an operation of the heap h with the dot (s, n)
abbrev pub HasDot : List Operation → ℕ → ℕ → ℕ → Type 0
HasDot S h s n = (o : Operation) × IsIn o S × (o.heap ≡ h) × (o.site ≡ s) × (o.n ≡ n)

-- a number up to the last counter for each site
pub record IsCounters (v : List ℕ) : Type 0 where
  pub wide : length v ≡ SITES
  pub bounded : (t : ℕ) → slice_index v t ≤ LAST

-- a number of heaps
abbrev pub IsHeaps : ℕ → Type 0
IsHeaps K = (1 ≤ K) × (K ≤ 16)

-- an operation among K heaps: it lies where its member's hash says, its number is the next of its
-- site after those that it has seen, and what it puts or adds is in range
pub record IsOperation (K : ℕ) (o : Operation) : Type 0 where
  pub heaps : IsHeaps K
  pub act : IsAct o.act
  pub heap : o.heap ≡ heap_of o.key o.member K
  pub site : o.site < SITES
  pub seen : IsCounters o.seen
  pub next : o.n ≡ slice_index o.seen o.site + 1
  pub bounded : o.n ≤ LAST

-- operations of one number of heaps, no two of them with the same heap and dot
pub record IsWorld (K : ℕ) (S : List Operation) : Type 0 where
  pub each : (o : Operation) → IsIn o S → IsOperation K o
  pub one : (o p : Operation) → IsIn o S → IsIn p S → o.heap ≡ p.heap → o.site ≡ p.site →
      o.n ≡ p.n → o ≡ p

-- with an operation the set has one for each dot that it has seen, in its heap
pub record IsClosed (S : List Operation) : Type 0 where
  pub before : (o : Operation) → IsIn o S → (s n : ℕ) → has o.seen s n ≡ true → HasDot S o.heap s n

abbrev pub is_dot : ℕ → ℕ → ℕ → Operation → Bool
is_dot h s n o = (o.heap == h) && ((o.site == s) && (o.n == n))

-- the operation of the heap with a dot
abbrev pub at : List Operation → ℕ → ℕ → ℕ → Option Operation
at S h s n = find (is_dot h s n) S

-- the greatest counter of a site in the heap, and 0 for none
abbrev pub last : List Operation → ℕ → ℕ → ℕ
last [] h s = 0
last (o ∷ S) h s = max (if (o.heap == h) && (o.site == s) then o.n else 0) (last S h s)

-- a value for each site
abbrev pub by_site : {X : Type 0} → (ℕ → X) → List X
by_site f = map f (range_with_len 0 SITES)

-- the set's vector in the heap
abbrev pub vector_of : List Operation → ℕ → List ℕ
vector_of S h = by_site (last S h)

-- v is the set's vector in the heap
pub record IsVector (v : List ℕ) (S : List Operation) (h : ℕ) : Type 0 where
  pub counter : (t : ℕ) → slice_index v t ≡ last S h t

-- the set has all that the operation has seen, and not its dot
pub record IsNew (S : List Operation) (o : Operation) : Type 0 where
  pub covered : (t : ℕ) → slice_index o.seen t ≤ last S o.heap t
  pub fresh : last S o.heap o.site < o.n

-- the two lists are one set
pub record AreSame (S T : List Operation) : Type 0 where
  pub forth : (o : Operation) → IsIn o S → IsIn o T
  pub back : (o : Operation) → IsIn o T → IsIn o S

abbrev pub in_heap : ℕ → List Operation → List Operation
in_heap heap S = filter (λ o. o.heap == heap) S

-- whether u is covered by v
abbrev pub covers : List ℕ → List ℕ → Bool
covers v u = list_all (λ t. nat_le (slice_index u t) (slice_index v t)) (range_with_len 0 SITES)

-- what becomes of an operation that is handed to a site of this vector
pub data Taken : Type 0 where
  New : Taken
  Known : Taken
  Early : Taken

abbrev pub taken_of : List ℕ → Operation → Taken
taken_of v o = if has v o.site o.n then Known else if covers v o.seen then New else Early

-- o is what its site makes over this set, where its counter is not at its last value
pub record IsMade (K : ℕ) (S : List Operation) (o : Operation) : Type 0 where
  pub heaps : IsHeaps K
  pub act : IsAct o.act
  pub site : o.site < SITES
  pub heap : o.heap ≡ heap_of o.key o.member K
  pub seen : o.seen ≡ vector_of S o.heap
  pub n : o.n ≡ slice_index o.seen o.site + 1
  pub bounded : o.n ≤ LAST

-- the set has an operation for each dot that o has seen, in its heap
abbrev pub HasAllSeen : List Operation → Operation → Type 0
HasAllSeen S o = (s n : ℕ) → has o.seen s n ≡ true → HasDot S o.heap s n
