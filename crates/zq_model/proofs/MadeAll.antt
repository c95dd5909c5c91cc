-- Books stay within bounds under moves that can be made, and their queues change as the moves say, one after the other.
use Rattle.std.proofs.Common.{List, [], ap, arith, cond, false, inl, inr, map, refl, subst, sym, true, ℕ, ◌+◌, ◌<◌, ◌∙◌, ◌∷◌, ◌≡◌, ◌≤◌}
use Rattle.std.proofs.lemmas.Bool.{eqb-true}
use Rattle.std.specs.Prelude.{if◌then◌else◌, slice_index}
use Rattle.zq_model.specs.Books.{Book}
use Rattle.zq_model.proofs.BoundedImages.{bounded_step}
use Rattle.zq_model.proofs.Dots.{has_not_from}
use Rattle.zq_model.proofs.Listing.{in_map_from}
use Rattle.zq_model.proofs.Taken.{covers_from, taken_from}
use Rattle.zq_model.specs.Bounded.{HasShortNames, IsBounded}
use Rattle.zq_model.specs.Heaps.{heap_of}
use Rattle.zq_model.specs.Image.{Image, image_after}
use Rattle.zq_model.specs.Operation.{Operation}
use Rattle.zq_model.specs.Rule.{Rule}
use Rattle.zq_model.specs.Sets.{IsHeaps, IsIn, IsOperation, LAST, New, SITES, taken_of}
use Rattle.zq_model.proofs.QueuesAfter.{queues_after}
use Rattle.zq_model.specs.Lent.{AreLent, CanMake, CanMakeAll, HasHome, IsLent, books_after, is_home, made, made_in, operation_in, queues_of}
use Rattle.zq_model.specs.Moves.{Move, after, after_all}

module _ (K site stamp : ℕ) (heaps : IsHeaps K) (below : site < SITES) (move : Move) where
  abbrev moved : Book → Book
  moved b = if is_home move b then made_in site stamp move b else b

  module _ (b : Book) (lent : IsLent K b) (home : is_home move b ≡ true) where
    heap_is : heap_of move.key move.member K ≡ b.heap
    heap_is = ap (heap_of move.key move.member) (sym lent.heaps) ∙ eqb-true _ _ home

    made_operation : (books : List Book) → IsIn b books → CanMake site move books → IsOperation K (operation_in site move b)
    made_operation books here can = record {
      heaps = heaps;
      act = can.act;
      heap = sym heap_is;
      site = below;
      seen = lent.bounded.counters;
      next = refl;
      bounded = let room = can.counter b here home in omega (arith, room);
    }

    made_new : taken_of b.state.vector (operation_in site move b) ≡ New
    made_new = taken_from b.state.vector (operation_in site move b) (has_not_from b.state.vector site (slice_index b.state.vector site + 1) (omega arith)) (covers_from b.state.vector b.state.vector (λ t _. omega arith))

    made_bounded : (books : List Book) → IsIn b books → CanMake site move books → IsBounded K b.heap (image_after (operation_in site move b) b.state)
    made_bounded books here can =
        bounded_step K (operation_in site move b) b.state lent.bounded (made_operation books here can) (record { key = can.key; member = can.member }) made_new

  made_lent : (books : List Book) (b : Book) → IsIn b books → CanMake site move books → IsLent K b → IsLent K (moved b)
  made_lent books b here can lent =
      elim (is_home move b) as (λ c. is_home move b ≡ c → IsLent K (if c then made_in site stamp move b else b)) [
        | true ↦ λ home. record { heaps = lent.heaps; bounded = made_bounded b lent home books here can }
        | false ↦ λ _. lent
      ] refl

  moved_heap : (b : Book) → (moved b).heap ≡ b.heap
  moved_heap b = elim (is_home move b) as (λ c. (if c then made_in site stamp move b else b).heap ≡ b.heap) [ true ↦ refl | false ↦ refl ]

  lent_from : (all books : List Book) → ((b : Book) → IsIn b books → IsIn b all) → CanMake site move all → AreLent K books → AreLent K (map moved books)
  lent_from all [] within can are = tt
  lent_from all (b ∷ books) within can are = (
    made_lent all b (within b (inl refl)) can are.0,
    λ later there.
        let from = in_map_from moved later books there in
        let low : b.heap < from.0.heap = are.1 from.0 from.1 in
        let here = moved_heap b in
        let its : from.0.heap ≡ later.heap = sym (moved_heap from.0) ∙ ap (λ (c : Book). c.heap) from.2 in
        omega (arith, low, here, its),
    lent_from all books (λ c there. within c (inr there)) can are.2,
  )

  -- books stay lent under a move
  pub lent_after : (books : List Book) → CanMake site move books → AreLent K books → AreLent K (made site stamp move books)
  lent_after books can are = lent_from books books (λ b here. here) can are

-- and under moves
pub lent_after_all : (K site stamp : ℕ) (moves : List Move) (books : List Book) → IsHeaps K → site < SITES → AreLent K books → CanMakeAll site stamp moves books →
    AreLent K (books_after site stamp moves books)
lent_after_all K site stamp [] books heaps below are can = are
lent_after_all K site stamp (move ∷ moves) books heaps below are can =
    lent_after_all K site stamp moves (made site stamp move books) heaps below (lent_after K site stamp heaps below move books can.0 are) can.1

pub queues_after_all : (rule : Rule) (K site stamp : ℕ) (moves : List Move) (books : List Book) → IsHeaps K → site < SITES → AreLent K books → CanMakeAll site stamp moves books →
    queues_of rule (books_after site stamp moves books) ≡ after_all moves (queues_of rule books)
queues_after_all rule K site stamp [] books heaps below are can = refl
queues_after_all rule K site stamp (move ∷ moves) books heaps below are can =
    queues_after_all rule K site stamp moves (made site stamp move books) heaps below (lent_after K site stamp heaps below move books can.0 are) can.1
    ∙ ap (after_all moves) (queues_after rule K site stamp move below books are can.0.home)
