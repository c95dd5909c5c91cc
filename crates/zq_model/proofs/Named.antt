-- Over books whose states are the images of one set, queues and scores are what the set means.
use Rattle.std.proofs.Common.{List, None, Option, Some, [], ap, inl, inr, map, option_map, refl, subst, sym, ℕ, ℤ, ◌∙◌, ◌∷◌, ◌≡◌}
use Rattle.std.proofs.lemmas.Option.{none-some, same_Some}
use Rattle.std.specs.Prelude.{find, ◌↔◌}
use Rattle.zq_model.specs.Books.{Book}
use Rattle.zq_model.proofs.MeantQueues.{members_of, queue_is}
use Rattle.zq_model.proofs.Membership.{find_only, find_some}
use Rattle.zq_model.proofs.MeantScores.{score_one}
use Rattle.zq_model.proofs.Places.{bytes_same, same_bytes}
use Rattle.zq_model.specs.Heaps.{heap_of}
use Rattle.zq_model.specs.Image.{Members}
use Rattle.zq_model.specs.Meaning.{IsQueue, IsScore, Scored}
use Rattle.zq_model.specs.Operation.{Operation}
use Rattle.zq_model.specs.Queue.{queue_of}
use Rattle.zq_model.specs.Rule.{Rule}
use Rattle.zq_model.specs.Sets.{IsIn, IsWorld}
use Rattle.zq_model.specs.Lent.{AreImagesOf, queues_of}
use Rattle.zq_model.specs.Moves.{Queue, is_of, score_in}

images_listed : (S : List Operation) (books : List Book) → AreImagesOf S books → map (λ (b : Book). b.state.members) books ≡ map (members_of S) (map (λ (b : Book). b.heap) books)
images_listed S [] are = refl
images_listed S (b ∷ books) are =
    let first = are b (inl refl) in
    let rest = images_listed S books (λ c here. are c (inr here)) in
    λ i. (first i).members ∷ rest i

-- the score found is that of the pair that stands in the queue, where it is the only one of its member
score_in_from : (q : Queue) (m : List ℕ) (x : ℤ) → IsIn (x, m) q → ((y : ℤ) → IsIn (y, m) q → y ≡ x) → score_in q m ≡ Some x
score_in_from q m x here only =
    ap (option_map (λ (p : Scored). p.0)) (find_only (is_of m) q (x, m) here (bytes_same m m refl) (λ p there passes.
    let its : p.1 ≡ m = same_bytes p.1 m passes in
    let score : p.0 ≡ x = only p.0 (subst (λ (n : List ℕ). IsIn (p.0, n) q) its there) in
    λ i. (score i, its i)))

in_from_score : (q : Queue) (m : List ℕ) (x : ℤ) → score_in q m ≡ Some x → IsIn (x, m) q
in_from_score q m x is =
    elim (find (is_of m) q) as (λ r. find (is_of m) q ≡ r → option_map (λ (p : Scored). p.0) r ≡ Some x → IsIn (x, m) q) [
      | None ↦ λ _ e. absurd (none-some x e)
      | Some p ↦ λ found e.
          let there = find_some (is_of m) q p found in
          let its : p.1 ≡ m = same_bytes p.1 m there.1 in
          let score : p.0 ≡ x = same_Some p.0 x e in
          subst (λ (z : Scored). IsIn z q) (λ i. (score i, its i)) there.0
    ] refl is

module _ (rule : Rule) (K : ℕ) (S : List Operation) (books : List Book) (world : IsWorld K S) (are : AreImagesOf S books) (key : List ℕ) where
  pub queue_named : IsQueue rule K S key (map (λ (b : Book). b.heap) books) (queues_of rule books key)
  queue_named = subst (λ members. IsQueue rule K S key (map (λ (b : Book). b.heap) books) (queue_of rule key members)) (sym (images_listed S books are)) (queue_is rule K S key (map (λ (b : Book). b.heap) books) world)

  pub score_named : (m : List ℕ) (x : ℤ) → IsIn (heap_of key m K) (map (λ (b : Book). b.heap) books) → (score_in (queues_of rule books key) m ≡ Some x) ↔ IsScore rule S key m x
  score_named m x named = (
    λ is. ((queue_named.members x m).0 (in_from_score (queues_of rule books key) m x is)).1,
    λ means. score_in_from (queues_of rule books key) m x ((queue_named.members x m).1 (named, means)) (λ y there.
        score_one rule S key m y x ((queue_named.members y m).0 there).1 means),
  )
