-- What a join of two images keeps, in plain words.

use Rattle.std.specs.FinMap.{get}
use Rattle.std.specs.Prelude.{List, Some, false, length, max, slice_index, ℕ, ◌<◌, ◌≡◌, ◌≤◌, ◌↔◌, ◌⊎◌}
use Rattle.zq_model.specs.Entry.{Addition, sum_at}
use Rattle.zq_model.specs.Image.{Entry, Image, addition_at, entry_at, is_bare}
use Rattle.zq_model.specs.Meaning.{IsLive, IsVectorOf, site_value_of_put}
use Rattle.zq_model.specs.Operation.{Operation, score_put}
use Rattle.zq_model.specs.Sets.{SITES}

-- the dot (s, n) is in the vector
abbrev pub IsKnown : List ℕ → ℕ → ℕ → Type 0
IsKnown v s n = (1 ≤ n) × (n ≤ slice_index v s)

-- the image has this addition of the site s at the member m of the key k
abbrev pub HasAddition : Image → List ℕ → List ℕ → ℕ → Addition → Type 0
HasAddition a k m s x = addition_at (entry_at a.members (k, m)) s ≡ Some x

-- the addition with the dot (s, n) on the member m of the key k stands in the image
abbrev pub Stands : Image → List ℕ → List ℕ → ℕ → ℕ → Type 0
Stands a k m s n = (x : Addition) × HasAddition a k m s x × (x.n ≡ n)

-- its vector has a number for each site, and the dots of its additions
pub record IsSound (a : Image) : Type 0 where
  pub wide : length a.vector ≡ SITES
  pub known : (k m : List ℕ) (s : ℕ) (x : Addition) → HasAddition a k m s x → IsKnown a.vector s x.n

-- z is x with a sum for each site, from the side, x's of the vector u or y's of v, whose vector has
-- more of the site, and from x where they have the same
pub record IsJoined (u v : List ℕ) (x y z : Addition) : Type 0 where
  pub n : z.n ≡ x.n
  pub score : z.score ≡ x.score
  pub wide : length z.sums ≡ SITES
  pub theirs : (t : ℕ) → t < SITES → slice_index u t < slice_index v t → sum_at z t ≡ sum_at y t
  pub mine : (t : ℕ) → t < SITES → slice_index v t ≤ slice_index u t → sum_at z t ≡ sum_at x t

-- c is the join of a and b: it has the greatest counter of each site, what stands on both sides,
-- and what stands on one and is not known to the other; an addition of one side alone is that
-- side's
pub record IsJoinOf (a b c : Image) : Type 0 where
  pub wide : length c.vector ≡ SITES
  pub vector : (t : ℕ) → t < SITES → slice_index c.vector t
      ≡ max (slice_index a.vector t) (slice_index b.vector t)
  pub stands : (k m : List ℕ) (s n : ℕ) →
      Stands c k m s n ↔ ((Stands a k m s n × Stands b k m s n)
      ⊎ ((Stands a k m s n × (IsKnown b.vector s n → ⊥))
      ⊎ (Stands b k m s n × (IsKnown a.vector s n → ⊥))))
  pub both : (k m : List ℕ) (s : ℕ) (x y z : Addition) →
      HasAddition a k m s x → HasAddition b k m s y → x.n ≡ y.n → HasAddition c k m s z →
      IsJoined a.vector b.vector x y z
  pub first : (k m : List ℕ) (s : ℕ) (x : Addition) → HasAddition a k m s x →
      (IsKnown b.vector s x.n → ⊥) → HasAddition c k m s x
  pub second : (k m : List ℕ) (s : ℕ) (y : Addition) → HasAddition b k m s y →
      (IsKnown a.vector s y.n → ⊥) → HasAddition c k m s y
  pub entries : (k m : List ℕ) (e : Entry) → get c.members (k, m) ≡ Some e → (length e ≡ SITES)
      × (is_bare e ≡ false)

-- x is what an image keeps of the Put p: its counter, its score and each site's sum
pub record IsAdditionOf (S : List Operation) (p : Operation) (x : Addition) : Type 0 where
  pub n : x.n ≡ p.n
  pub score : x.score ≡ score_put p.act
  pub wide : length x.sums ≡ SITES
  pub sums : (t : ℕ) → t < SITES → sum_at x t ≡ site_value_of_put S p t

-- the image has the set's vector in the heap, and at each member its live Puts in this heap and
-- nothing else. A member without one does not stand in it
pub record IsImageOf (S : List Operation) (heap : ℕ) (a : Image) : Type 0 where
  pub vector : IsVectorOf S heap a.vector
  pub only : (k m : List ℕ) (s : ℕ) (x : Addition) → HasAddition a k m s x →
      (p : Operation) × IsLive S k m p × (p.heap ≡ heap) × (p.site ≡ s) × IsAdditionOf S p x
  pub all : (k m : List ℕ) (p : Operation) → IsLive S k m p → p.heap ≡ heap →
      (x : Addition) × HasAddition a k m p.site x × IsAdditionOf S p x
  pub entries : (k m : List ℕ) (e : Entry) → get a.members (k, m) ≡ Some e → (length e ≡ SITES)
      × (is_bare e ≡ false)
