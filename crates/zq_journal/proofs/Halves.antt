-- A key and a member that lie one behind the other.

use Rattle.std.proofs.Common.{List, ap, arith, drop, length, min, refl, take, ℕ, ◌++◌, ◌+◌, ◌∙◌, ◌≡◌, ◌≤◌}
use Rattle.std.proofs.Math.Nat.{min-eq_left}
use Rattle.std.proofs.Math.Seq.{drop-append_seam, take-append_seam}
use Rattle.std.proofs.lemmas.List.{length-append}
use Rattle.zq_journal.specs.Names.{names_of}
use Rattle.zq_journal.specs.declared.names.Kept.TheVariants.{Short}

abbrev halves_at : ℕ → List ℕ → List ℕ × List ℕ
halves_at n bytes = (take n bytes, drop n bytes)

halves : (key member bytes : List ℕ) → bytes ≡ key ++ member → halves_at (min (length key) (length bytes)) bytes ≡ (key, member)
halves key member bytes is =
    let first : min (length key) (length bytes) ≡ length key = min-eq_left (omega (arith, ap length is, length-append key member)) in
    ap (λ n. halves_at n bytes) first ∙ ap (halves_at (length key)) is ∙ rw (take-append_seam key member, drop-append_seam key member) refl

-- where they lie in a record itself
pub halves_here : (key member bytes : List ℕ) → length key + length member ≤ 37 → take (length key + length member) bytes ≡ key ++ member →
    names_of (Short (length key) (length key + length member) bytes) ≡ (key, member)
halves_here key member bytes short is =
    let all : take (min (length key + length member) 37) bytes ≡ key ++ member = ap (λ n. take n bytes) (min-eq_left short) ∙ is in
    halves key member (take (min (length key + length member) 37) bytes) all
