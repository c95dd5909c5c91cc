-- Additions as they are read.

use Rattle.std.proofs.Common.{ap, arith, Err, false, inl, inr, length, List, None, Ok, refl, Some, subst, sym, [], ℕ, ℤ, ◌*◌, ◌+◌, ◌++◌, ◌<◌, ◌≤◌, ◌∙◌, ◌∷◌, ◌≡◌}
use Rattle.std.specs.Prelude.{IsOk, pos, slice_index, ◌⊎◌}
use Rattle.zq_entry.specs.Sums.{dense_sums, sum_found}
use Rattle.zq_merge.proofs.Repeated.{IsReadTo, read_fails, read_more, read_start, refused_next}
use Rattle.zq_merge.proofs.RisingSites.{next_more, rising_more}
use Rattle.zq_merge.specs.Bounds.{AreAdditionsBounded, AreSumsBounded, IsAdditionBounded}
use Rattle.zq_merge.specs.Fields.{addition_at, later_addition_at}
use Rattle.zq_merge.specs.Reading.{many_at, next_site}
use Rattle.zq_merge.specs.Refused.{IsInAddition, IsInSomeAdditions}
use Rattle.zq_merge.specs.Spelling.{addition_bytes}
use Rattle.zq_merge.specs.declared.fault.StateFault.{StateFault}
use Rattle.zq_merge.specs.declared.version.Version.{Version}
use Rattle.zq_model.proofs.Sites.{by_site-at, length-by_site}
use Rattle.zq_model.specs.Image.{Entry, is_bare}
use Rattle.zq_model.specs.Operation.{IsWithin, MOST}
use Rattle.zq_model.specs.Rows.{OfSite, additions_from}
use Rattle.zq_model.specs.Sets.{SITES}
use Rattle.zq_model.specs.Sparse.{AreBySite}

-- an entry that has an addition is not bare
pub full_entry : (s : ℕ) (e : Entry) → 1 ≤ length (additions_from s e) → is_bare e ≡ false
full_entry s [] some = absurd (omega arith)
full_entry s (None ∷ e) some = full_entry (s + 1) e some
full_entry s (Some a ∷ e) some = refl

-- an addition of these parts is bounded
pub addition_bounded : (vector : List ℕ) (s n : ℕ) (z : ℤ) (sums : List (ℕ × ℤ)) → 1 ≤ n → n ≤ slice_index vector s → IsWithin MOST z → AreSumsBounded vector sums → IsAdditionBounded vector (s, record { n = n; score = z; sums = dense_sums sums })
addition_bounded vector s n z sums first known score bounded = record {
  counter = (first, known);
  score = score;
  wide = length-by_site (λ t. sum_found t sums);
  sums = λ t below. subst (IsWithin (MOST * slice_index vector t)) (sym (by_site-at (λ u. sum_found u sums) t (pos 0) below)) (bounded t);
}

-- i of so many are read, all of sites below low
pub record AreAddedTo (v : Version) (whole : ℕ) (vector : List ℕ) (count i low : ℕ) (all bytes : List ℕ) (items : List OfSite) : Type 0 where
  pub read : IsReadTo (later_addition_at v whole vector) (addition_bytes v) count i all bytes items
  pub low_is : low ≡ next_site items
  pub low_within : low ≤ SITES
  pub rising : AreBySite 0 low items
  pub bounded : AreAdditionsBounded vector items

pub added_none : (v : Version) (whole : ℕ) (vector : List ℕ) (count : ℕ) (all : List ℕ) → AreAddedTo v whole vector count 0 0 all all []
added_none v whole vector count all = record {
  read = read_start (later_addition_at v whole vector) (addition_bytes v) count all;
  low_is = refl;
  low_within = omega arith;
  rising = tt;
  bounded = λ p none. absurd none;
}

bounded_more : (vector : List ℕ) (items : List OfSite) (p : OfSite) → AreAdditionsBounded vector items → IsAdditionBounded vector p → AreAdditionsBounded vector (items ++ p ∷ [])
bounded_more vector [] p bounded here q (inl same) = subst (IsAdditionBounded vector) same here
bounded_more vector [] p bounded here q (inr none) = absurd none
bounded_more vector (o ∷ items) p bounded here q (inl same) = bounded q (inl same)
bounded_more vector (o ∷ items) p bounded here q (inr later) = bounded_more vector items p (λ r there. bounded r (inr there)) here q later

pub added_more : (v : Version) (whole : ℕ) (vector : List ℕ) (count i low : ℕ) (all bytes rest : List ℕ) (items : List OfSite) (p : OfSite) → i < count → addition_at v whole vector low bytes ≡ Ok (p, rest) → bytes ≡ addition_bytes v p ++ rest → low ≤ p.0 → p.0 < SITES → IsAdditionBounded vector p → AreAddedTo v whole vector count i low all bytes items → AreAddedTo v whole vector count (i + 1) (p.0 + 1) all rest (items ++ p ∷ [])
added_more v whole vector count i low all bytes rest items p below e is from site bounded a = record {
  read = read_more (later_addition_at v whole vector) (addition_bytes v) count i all bytes rest items p below (ap (λ l. addition_at v whole vector l bytes) (sym a.low_is) ∙ e) is a.read;
  low_is = sym (next_more items p);
  low_within = omega arith;
  rising = rising_more 0 low p.0 p.1 items (omega arith) from a.rising;
  bounded = bounded_more vector items p a.bounded bounded;
}

pub added_fails : (v : Version) (whole : ℕ) (vector : List ℕ) (count i low : ℕ) (all bytes : List ℕ) (items : List OfSite) (fault : StateFault) → i < count → addition_at v whole vector low bytes ≡ Err fault → AreAddedTo v whole vector count i low all bytes items → many_at (later_addition_at v whole vector) count [] all ≡ Err fault
added_fails v whole vector count i low all bytes items fault below e a =
    read_fails (later_addition_at v whole vector) (addition_bytes v) count i all bytes items fault below (ap (λ l. addition_at v whole vector l bytes) (sym a.low_is) ∙ e) a.read

-- memory is refused in the addition that is read next, or for it
pub added_refused : (v : Version) (whole : ℕ) (vector : List ℕ) (count i low : ℕ) (all bytes : List ℕ) (items : List OfSite) → i < count → IsInAddition v whole vector low bytes ⊎ IsOk (addition_at v whole vector low bytes) → AreAddedTo v whole vector count i low all bytes items → IsInSomeAdditions v whole vector count all
added_refused v whole vector count i low all bytes items below here a =
    refused_next (later_addition_at v whole vector) (addition_bytes v) (λ before rest. IsInAddition v whole vector (next_site before) rest ⊎ IsOk (later_addition_at v whole vector before rest)) count i all bytes items below
    (subst (λ l. IsInAddition v whole vector l bytes ⊎ IsOk (addition_at v whole vector l bytes)) a.low_is here) a.read
