-- What was written before, when more is written.

use Rattle.std.proofs.Common.{ap, append_assoc, arith, cond, false, get_or, if◌then◌else◌, length, List, refl, sym, take, true, Bool, [], ℕ, ◌*◌, ◌+◌, ◌++◌, ◌<◌, ◌∙◌, ◌∷◌, ◌≡◌, ◌≤◌}
use Rattle.std.proofs.lemmas.List.{length-append, length-take, length-take-le, take-take, take_more}
use Rattle.std.proofs.lemmas.List.Sums.{sum_by-append}
use Rattle.std.specs.Int.{to_be_bytes, w64}
use Rattle.std.specs.List.{count_by}
use Rattle.zq_fields.proofs.Entries.{entries-push}
use Rattle.zq_fields.specs.Spelling.{entries, entry, is_known, sparse}

-- what stood before both writes stands after them
pub kept_more : (a b c : List ℕ) → take (length a) b ≡ a → take (length b) c ≡ b → take (length a) c ≡ a
kept_more a b c first second =
    let longer : length a ≤ length b = omega (arith, length-take (length a) b, ap length first) in
    sym (take-take (length a) (length b) c longer) ∙ (ap (take (length a)) second ∙ first)

-- one site more is written
pub entries_written : (old out new v : List ℕ) (i n : ℕ) → i < length v → n ≡ get_or v i 0 → out ≡ old ++ entries 0 (take i v) → new ≡ out ++ entry i n → new ≡ old ++ entries 0 (take (i + 1) v)
entries_written old out new v i n below is had more =
    let taken : take (i + 1) v ≡ take i v ++ n ∷ [] = take_more v i 0 below ∙ ap (λ m. take i v ++ m ∷ []) (sym is) in
    let written : entries 0 (take (i + 1) v) ≡ entries 0 (take i v) ++ entry i n = ap (entries 0) taken ∙ entries-push i (take i v) n (length-take-le i v (omega arith)) in
    more ∙ (ap (λ x. x ++ entry i n) had ∙ (append_assoc old (entries 0 (take i v)) (entry i n) ∙ ap (λ x. old ++ x) (sym written)))

entry_length : (s n : ℕ) (known : Bool) → length (if known then s ∷ to_be_bytes w64 n else []) ≡ 9 * cond known 1 0
entry_length s n true = refl
entry_length s n false = refl

entries_length : (s : ℕ) (v : List ℕ) → length (entries s v) ≡ 9 * count_by is_known v
entries_length s [] = refl
entries_length s (n ∷ v) =
    let here = entry_length s n (is_known n) in
    let more = sum_by-append (λ x. cond (is_known x) 1 0) (n ∷ []) v in
    omega (arith, length-append (entry s n) (entries (s + 1) v), entries_length (s + 1) v)

pub sparse_length : (v : List ℕ) → length (sparse v) ≡ 1 + 9 * count_by is_known v
unfolding sparse
sparse_length v = omega (arith, entries_length 0 v)
