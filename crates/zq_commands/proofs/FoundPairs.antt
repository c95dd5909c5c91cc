-- Pairs that were found in the queue of a key over the books that are lent: their members have books, and are short.

use Rattle.std.proofs.Common.{List, Some, [], ap, arith, false, inl, inr, refl, subst, suc, sym, true, true≢false, zero, ℕ, ◌∙◌, ◌∷◌, ◌≡◌, ◌≤◌, ◌⊎◌}
use Rattle.std.proofs.lemmas.Bool.{le-leb}
use Rattle.std.specs.List.{All}
use Rattle.std.specs.Prelude.{if◌then◌else◌, nat_le, slice_get}
use Rattle.zq_commands.proofs.FirstPairs.{pair_home, pair_short}
use Rattle.zq_commands.specs.Lending.{HasBook, IsLending, Lending, queues_in}
use Rattle.zq_model.proofs.Listing.{in_map_from}
use Rattle.zq_model.specs.Meaning.{Scored}
use Rattle.zq_model.specs.Moves.{Move, Queue}
use Rattle.zq_model.specs.Sets.{IsIn}
use Rattle.zq_semantics.proofs.Dropping.{ArePairsOf, last_of, lent_apart, moves_dropped, ranged_of}
use Rattle.zq_semantics.specs.Plan.{drops, is_there, moves_in_turn, zrem_part}
use Rattle.zq_semantics.specs.Procedures.{last_pairs, members_of, takes_found}
use Rattle.zq_semantics.specs.Ranges.{ranged}
use Rattle.zq_semantics.specs.Run.{ForCopies, ForReply, IsWhyOf, Memory, UNCOUNTED}
use Rattle.zq_words.specs.Limits.{IsShort}
use Rattle.zq_words.specs.Words.{Word}
use Rattle.zq_words.specs.declared.range.Range.{Range}

pub all_in : {X : Type 0} (P : X → Type 0) (xs : List X) → ((x : X) → IsIn x xs → P x) → All P xs
all_in P [] each k d inside = absurd (omega (arith, inside))
all_in P (x ∷ xs) each zero d inside = each x (inl refl)
all_in P (x ∷ xs) each (suc k) d inside = all_in P xs (λ y here. each y (inr here)) k d (omega (arith, inside))

module _ (lent : Lending) (are : IsLending lent) (key : Word) where
  pub within_range : (range : Range) → ArePairsOf (queues_in lent key) (ranged range (queues_in lent key))
  within_range range = ranged_of range (queues_in lent key) (lent_apart lent.rule lent.heaps lent.books key are.books)

  pub within_last : (n : ℕ) → ArePairsOf (queues_in lent key) (last_pairs n (queues_in lent key))
  within_last n = last_of n (queues_in lent key) (lent_apart lent.rule lent.heaps lent.books key are.books)

  module _ (pairs : Queue) (of : ArePairsOf (queues_in lent key) pairs) where
    pub homes_found : All (λ member. HasBook key member lent) (members_of pairs)
    homes_found = all_in (λ member. HasBook key member lent) (members_of pairs) (λ m here.
        let from = in_map_from (λ (p : Scored). p.1) m pairs here in
        subst (λ n. HasBook key n lent) from.2 (pair_home lent are key from.0.0 from.0.1 (of.within from.0 from.1)))

    pub short_found : All IsShort (members_of pairs)
    short_found = all_in IsShort (members_of pairs) (λ m here.
        let from = in_map_from (λ (p : Scored). p.1) m pairs here in
        subst IsShort from.2 (pair_short lent are key from.0.0 from.0.1 (of.within from.0 from.1)))

    -- where there is one, there is a move to make
    pub move_found : is_there pairs ≡ true → (move : Move) × (slice_get (moves_in_turn (zrem_part key) (members_of pairs) (queues_in lent)) 0 ≡ Some move)
    move_found there =
        let first = first_drop pairs there in
        (first.0, ap (λ moves. slice_get moves 0) (moves_dropped key pairs (queues_in lent) of) ∙ first.1)
      where
        first_drop : (ps : Queue) → is_there ps ≡ true → (move : Move) × (slice_get (drops key ps) 0 ≡ Some move)
        first_drop [] there = absurd (cc)
        first_drop (p ∷ ps) there = (_, refl)

-- where no number counts the members of the key, or there is a pair to drop, there may be no memory for copies
pub cut_first : (site : ℕ) (key : Word) (lent : Lending) (are : IsLending lent) (pairs : Queue) → ArePairsOf (queues_in lent key) pairs → (members : ℕ) → (UNCOUNTED ≤ members) ⊎ (is_there pairs ≡ true) →
    IsWhyOf (takes_found members) site (slice_get (moves_in_turn (zrem_part key) (members_of pairs) (queues_in lent)) 0) lent.books Memory
cut_first site key lent are pairs of members either =
    let next = slice_get (moves_in_turn (zrem_part key) (members_of pairs) (queues_in lent)) 0 in
    elim (nat_le UNCOUNTED members) as (λ b. nat_le UNCOUNTED members ≡ b → IsWhyOf (if b then ForReply true 0 else ForCopies) site next lent.books Memory) [
      | true ↦ λ _. inl refl
      | false ↦ λ few. elim either [
        | inl many ↦ absurd (true≢false (sym (le-leb UNCOUNTED members many) ∙ few))
        | inr there ↦ let move = move_found lent are key pairs of there in subst (λ o. IsWhyOf ForCopies site o lent.books Memory) (sym move.1) tt
      ]
    ] refl

-- and so it is where only copies take memory
pub copied_first : (site : ℕ) (key : Word) (lent : Lending) (are : IsLending lent) (pairs : Queue) → ArePairsOf (queues_in lent key) pairs → is_there pairs ≡ true →
    IsWhyOf ForCopies site (slice_get (moves_in_turn (zrem_part key) (members_of pairs) (queues_in lent)) 0) lent.books Memory
copied_first site key lent are pairs of there =
    let move = move_found lent are key pairs of there in subst (λ o. IsWhyOf ForCopies site o lent.books Memory) (sym move.1) tt
