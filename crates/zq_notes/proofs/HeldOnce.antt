-- A call holds each of its heaps once.

use Rattle.std.proofs.Common.{ap, arith, inl, inr, subst, suc, sym, zero, ◌∙◌}
use Rattle.std.proofs.Math.Nat.{add-mod_left, mod-eq_of_lt, mod-lt}
use Rattle.std.proofs.lemmas.Bool.{cases_lt}
use Rattle.std.specs.List.{range_with_len}
use Rattle.std.specs.Prelude.{List, [], max, min, ℕ, ◌%◌, ◌+◌, ◌-◌, ◌<◌, ◌∷◌, ◌≡◌, ◌≤◌}
use Rattle.zq_model.specs.Books.{Book, Step}
use Rattle.zq_model.specs.Rule.{Rule}
use Rattle.zq_model.specs.Sets.{IsIn}
use Rattle.zq_notes.proofs.GatheredSets.{AreOnce}
use Rattle.zq_notes.specs.Does.{AreHeapsFor, Does}
use Rattle.zq_notes.specs.Notes.{Answer, Asked, Copied, Handed, HandedAll, Joined, Portioned, Replied, RepliedEach, RepliedIf, Shown, TakenOver, ToCopy, ToDrain, ToMerge, ToPortion, ToRun, ToRunEach, ToRunWatched, ToShow, ToTake, ToTakeAll, ToTakeOver, ToTell, Told}
use Rattle.zq_semantics.specs.Doing.{drawn, first_drawn, second_drawn}
use Rattle.zq_words.specs.Command.{Command}
use Rattle.zq_words.specs.Heaps.{heaps_of}
use Rattle.zq_words.specs.declared.heaps.Heaps.{Heaps}
use Rattle.zq_words.specs.declared.heaps.Heaps.TheVariants.{All, Near, NoHeap, One}

one_once : (h : ℕ) → AreOnce (h ∷ [])
one_once h = ((λ none. none), tt)

in_range : (a n k : ℕ) → IsIn k (range_with_len a n) → a ≤ k
in_range a zero k here = absurd here
in_range a (suc n) k (inl same) = omega (arith, same)
in_range a (suc n) k (inr there) = let low = in_range (a + 1) n k there in omega (arith, low)

range_once : (a n : ℕ) → AreOnce (range_with_len a n)
range_once a zero = tt
range_once a (suc n) = ((λ i. let low = in_range (a + 1) n a i in absurd (omega (arith, low))), range_once (a + 1) n)

-- the second heap that is drawn is another than the first
apart : (K f r : ℕ) → f < K → r < K - 1 → f ≡ (f + 1 + r) % K → ⊥
apart K f r first rest same =
    elim (cases_lt (f + 1 + r) K) [
      | inl low ↦ (let is : (f + 1 + r) % K ≡ f + 1 + r = mod-eq_of_lt low in absurd (omega (arith, same, is)))
      | inr high ↦ (
          let d : ℕ = f + 1 + r - K in
          let less : d < K = omega arith in
          let sum : f + 1 + r ≡ K + d = omega arith in
          let is : (f + 1 + r) % K ≡ d = ap (λ n. n % K) sum ∙ add-mod_left K d ∙ mod-eq_of_lt less in
          absurd (omega (arith, same, is)))
    ]

drawn_once : (K w1 w2 : ℕ) → 2 ≤ K → AreOnce (drawn K w1 w2)
drawn_once K w1 w2 two =
    let f : ℕ = first_drawn K w1 in
    let s : ℕ = second_drawn K w1 w2 in
    let below : f < K = mod-lt w1 (omega arith) in
    let rest : w2 % (K - 1) < K - 1 = mod-lt w2 (omega arith) in
    ((λ i. elim i [ inl same ↦ apart K f (w2 % (K - 1)) below rest (both f s same) | inr none ↦ none ]), one_once (max f s))
  where
    both : (f s : ℕ) → max f s ≡ min f s → f ≡ s
    both f s same = omega (arith, same)

heaps_once : (heaps : Heaps) (rule : Rule) (K : ℕ) (command : Command) (w1 w2 : ℕ) (held : List ℕ) (found : List Book) → 2 ≤ K → AreHeapsFor heaps rule K command w1 w2 held found → AreOnce held
heaps_once NoHeap rule K command w1 w2 held found two is = absurd is
heaps_once (One heap) rule K command w1 w2 held found two is = subst AreOnce (sym is) (one_once heap)
heaps_once Near rule K command w1 w2 held found two (inl is) = subst AreOnce (sym is.0) (drawn_once K w1 w2 two)
heaps_once Near rule K command w1 w2 held found two (inr is) = subst AreOnce (sym is) (range_once 0 K)
heaps_once All rule K command w1 w2 held found two is = subst AreOnce (sym is) (range_once 0 K)

pub once_of : (rule : Rule) (K site stamp : ℕ) (asked : Asked) (heaps : List ℕ) (answer : Answer) (found : List Book) (steps : List (List Step)) → 2 ≤ K →
    Does rule K site stamp asked heaps answer found steps → AreOnce heaps
once_of rule K site stamp (ToRun command w1 w2) heaps (Replied reply) found steps two is = heaps_once (heaps_of command K) rule K command w1 w2 heaps found two is.0
once_of rule K site stamp (ToRunEach calls) heaps (RepliedEach replies) found steps two is = subst AreOnce (sym is.0) (range_once 0 K)
once_of rule K site stamp (ToRunWatched watch calls) heaps (RepliedIf replies) found steps two is = subst AreOnce (sym is.0) (range_once 0 K)
once_of rule K site stamp (ToTake op) heaps (Handed result) found steps two is = subst AreOnce (sym is.0) (one_once op.operation.heap)
once_of rule K site stamp (ToTakeAll heap ops) heaps (HandedAll answer) found steps two is = subst AreOnce (sym is.0) (one_once heap)
once_of rule K site stamp (ToMerge other) heaps (Joined result) found steps two is = subst AreOnce (sym is.0) (one_once other.heap)
once_of rule K site stamp (ToTakeOver other) heaps (TakenOver result) found steps two is = subst AreOnce (sym is.0) (one_once other.heap)
once_of rule K site stamp (ToTell heap vector) heaps (Told result) found steps two is = subst AreOnce (sym is.0) (one_once heap)
once_of rule K site stamp (ToCopy heap) heaps (Copied result) found steps two is = subst AreOnce (sym is.0) (one_once heap)
once_of rule K site stamp (ToDrain heap vector most) heaps (Told result) found steps two is = subst AreOnce (sym is.0) (one_once heap)
once_of rule K site stamp (ToPortion heap spot limits) heaps (Portioned result) found steps two is = subst AreOnce (sym is.0) (one_once heap)
once_of rule K site stamp (ToShow heap) heaps (Shown vector) found steps two is = subst AreOnce (sym is.0) (one_once heap)
once_of rule K site stamp asked heaps answer found steps two is = absurd is
