-- The scores of a map of scores and values.
use Rattle.std.specs.Prelude.{FitsSigned, List, None, Option, Some, [], map, option_map, ℕ, ℤ, ◌∷◌, ◌≡◌, cond}
use Rattle.std.proofs.Common.{ap, refl, subst, sym, ◌∙◌}
use Rattle.std.proofs.lemmas.Cmp.{nat_list_cmp_total}
use Rattle.std.specs.Cmp.Lexicographic.{slice_cmp}
use Rattle.std.specs.FinMap.{entries, get, get-entries, get-from_entries, same_map}
use Rattle.std.specs.FinMap.Entries.{find}
use Rattle.std.specs.Int.{w128}
use Rattle.std.specs.Map.{lookup}
use Rattle.std.specs.Ordering.{eq_by_cmp, nat_cmp}
use Rattle.zq_posheap.proofs.Entries.{bytes_antisymmetric, get-seen, has_text, option_map-cond, seen_in}
use Rattle.zq_posheap.proofs.Lists.{option_map_some}
use Rattle.zq_posheap.specs.Members.{AreInRange, Entries, scores_of}
use Rattle.zq_posheap.specs.Moves.{shown}
use Rattle.zq_posheap.specs.declared.heap.ScoredValue.{ScoredValue}

find-scores : {V : Type 0} (es : List (List ℕ × (ℤ × V))) (q : List ℕ) →
    find (slice_cmp nat_cmp) q (map (λ e. (e.0, e.1.0)) es) ≡ option_map (λ e. e.0) (find (slice_cmp nat_cmp) q es)
find-scores [] q = refl
find-scores (e ∷ es) q = (λ k. cond (eq_by_cmp (slice_cmp nat_cmp) q e.0) (Some e.1.0) (find-scores es q k))
    ∙ sym (option_map-cond (λ e. e.0) (eq_by_cmp (slice_cmp nat_cmp) q e.0) (Some e.1) (find (slice_cmp nat_cmp) q es))

-- a member's score is that which it has beside its value
pub get-scores_of : {V : Type 0} (m : Entries V) (q : List ℕ) → get (scores_of m) q ≡ option_map (λ e. e.0) (get m q)
get-scores_of m q = get-from_entries nat_list_cmp_total (map (λ e. (e.0, e.1.0)) (entries m)) q ∙ find-scores (entries m) q ∙ ap (option_map (λ e. e.0)) (sym (get-entries m q))

option_map-twice : {X Y Z : Type 0} (f : X → Y) (h : Y → Z) (o : Option X) → option_map h (option_map f o) ≡ option_map (λ x. h (f x)) o
option_map-twice f h None = refl
option_map-twice f h (Some x) = refl

-- the scores seen with the values are the scores
pub scores_of_seen : {V : Type 0} (es : List (List ℕ × ScoredValue V)) → scores_of (seen_in shown es) ≡ seen_in (λ w. w.score) es
scores_of_seen es = same_map nat_list_cmp_total bytes_antisymmetric _ _ (λ q.
    get-scores_of (seen_in shown es) q ∙ ap (option_map (λ e. e.0)) (get-seen shown es q)
    ∙ option_map-twice shown (λ e. e.0) (lookup (has_text q) es) ∙ sym (get-seen (λ w. w.score) es q))

-- the scores are in the range of those beside the values
pub score_in_range : {V : Type 0} (m : Entries V) → AreInRange m → (member : List ℕ) (score : ℤ) → get (scores_of m) member ≡ Some score → FitsSigned w128 score
score_in_range m in_range member score is =
    let e = option_map_some (λ e. e.0) (get m member) score (sym (get-scores_of m member) ∙ is) in
    subst (FitsSigned w128) e.2 (in_range member e.0 e.1)
