-- The log of the operations of one heap.

use Rattle.std.specs.Prelude.{Bool, List, [], drop, false, if◌then◌else◌, length, max, nat_le, nat_lt, slice_index, slice_set, suc, sum, take, true, ℕ, ◌+◌, ◌++◌, ◌-◌, ◌<◌, ◌||◌, ◌∷◌, ◌≡◌, ◌≤◌}
use Rattle.zq_backlog.specs.Written.{weights}
use Rattle.zq_dots.specs.Placed.{IsRanged, Placed}
use Rattle.zq_model.specs.Image.{join_vector}
use Rattle.zq_model.specs.Sets.{IsCounters, IsIn, by_site}

-- Operations, the oldest first, and the number of the first of them. Of each site those after the
-- base are there, up to the last. More bytes than the most are not kept.
pub record Log : Type 0 where
  pub base : List ℕ
  pub last : List ℕ
  pub ops : List Placed
  pub first : ℕ
  pub most : ℕ

-- the number of the next operation
abbrev pub end_of : Log → ℕ
end_of l = l.first + length l.ops

-- ---- what a log keeps

-- of each site the counters rise
abbrev pub AreRising : List Placed → Type 0
AreRising [] = Unit {0}
AreRising (o ∷ ops) = ((p : Placed) → IsIn p ops → p.operation.site ≡ o.operation.site →
    o.operation.n < p.operation.n) × AreRising ops

-- one of them has this dot
abbrev pub HasDot : List Placed → ℕ → ℕ → Type 0
HasDot ops t n = (o : Placed) × IsIn o ops × (o.operation.site ≡ t) × (o.operation.n ≡ n)

-- Of each site the operations after the base, up to the last, are there, in the order of their
-- counters and none twice; what else is there of it is before the base, in this order too.
pub record IsLog (l : Log) : Type 0 where
  pub base : IsCounters l.base
  pub last : IsCounters l.last
  pub below : (t : ℕ) → slice_index l.base t ≤ slice_index l.last t
  pub ranged : (o : Placed) → IsIn o l.ops → IsRanged o
  pub known : (o : Placed) → IsIn o l.ops → o.operation.n ≤ slice_index l.last o.operation.site
  pub rising : AreRising l.ops
  pub whole : (t n : ℕ) → slice_index l.base t < n → n ≤ slice_index l.last t → HasDot l.ops t n
  pub few : l.first + length l.ops ≤ sum l.last

-- ---- operations that come, are skipped or go

-- nothing is there, and what this vector has is known
abbrev pub begun : List ℕ → ℕ → Log
begun begin most = record { base = begin; last = begin; ops = []; first = 0; most = most }

-- a vector that comes to know the operation
abbrev pub risen : List ℕ → Placed → List ℕ
risen v o = slice_set v o.operation.site (max (slice_index v o.operation.site) o.operation.n)

abbrev pub raised : List ℕ → List Placed → List ℕ
raised v [] = v
raised v (o ∷ ops) = raised (risen v o) ops

-- so many of the oldest go, and the base rises over them
abbrev pub without : ℕ → Log → Log
without k l = record l {
  base = raised l.base (take k l.ops);
  ops = drop k l.ops;
  first = l.first + k;
}

abbrev pub is_empty : List Placed → Bool
is_empty [] = true
is_empty (o ∷ ops) = false

-- how many of the oldest go, so that the others have no more bytes than the most, or one is left
abbrev pub excess : ℕ → List Placed → ℕ
excess most [] = 0
excess most (o ∷ ops) =
    if is_empty ops || nat_le (weights (o ∷ ops)) most then 0 else suc (excess most ops)

abbrev pub trimmed : Log → Log
trimmed l = without (excess l.most l.ops) l

-- the base, where the operations of a site between its last and this counter are missing
abbrev pub base_before : Log → ℕ → ℕ → List ℕ
base_before l site n =
    if nat_lt (slice_index l.last site + 1) n then slice_set l.base site (n - 1) else l.base

-- an operation that was not known comes last
abbrev pub appended : Placed → Log → Log
appended o l = record l {
  base = base_before l o.operation.site o.operation.n;
  last = slice_set l.last o.operation.site o.operation.n;
  ops = l.ops ++ o ∷ [];
}

-- an operation comes
unfoldable pub added : Placed → Log → Log
added o l =
    if nat_le o.operation.n (slice_index l.last o.operation.site) then l else trimmed (appended o l)

abbrev pub added_all : List Placed → Log → Log
added_all [] l = l
added_all (o ∷ ops) l = added_all ops (added o l)

-- the base, where all that the vector v knows came otherwise
abbrev pub skipped_base : List ℕ → List ℕ → List ℕ → List ℕ
skipped_base base last v = by_site
    (λ t. if nat_lt (slice_index last t) (slice_index v t) then slice_index v t
    else slice_index base t)

abbrev pub skipped : List ℕ → Log → Log
skipped v l = record l { base = skipped_base l.base l.last v; last = join_vector l.last v }
