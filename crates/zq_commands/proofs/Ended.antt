-- The pair at an end of a key that has members.

use Rattle.std.proofs.Common.{Bool, Bor, List, None, Some, [], ap, arith, false, length, map, refl, reverse, subst, suc, sym, take, true, zero, ℕ, ℤ, ◌∙◌, ◌∷◌, ◌≡◌, ◌≤◌}
use Rattle.std.proofs.lemmas.Option.{none-some, same_Some, slice_get-map}
use Rattle.std.specs.Prelude.{option_map, slice_get}
use Rattle.zq_commands.proofs.FirstPairs.{pair_home, pair_short}
use Rattle.zq_commands.proofs.Sections.{length_turned}
use Rattle.zq_commands.specs.Arrays.{array_bytes}
use Rattle.zq_commands.specs.FirstPairs.{lent_pair}
use Rattle.zq_commands.specs.Lending.{HasBook, IsLending, Lending, lent_after, queues_in}
use Rattle.zq_commands.specs.Running.{EndsOver, part, whole}
use Rattle.zq_commands.specs.Stopped.{want_of}
use Rattle.zq_commands.specs.declared.stopped.Stopped.{Stopped}
use Rattle.zq_commands.specs.declared.stopped.Stopped.TheVariants.{NoMemory, Worn}
use Rattle.zq_model.proofs.Read.{in_place}
use Rattle.zq_model.specs.Meaning.{Scored}
use Rattle.zq_model.specs.Moves.{Move, Queue}
use Rattle.zq_model.specs.Operation.{Drop}
use Rattle.zq_model.specs.Sets.{IsIn}
use Rattle.zq_semantics.proofs.Dropping.{all_of, lent_apart, reverse_of}
use Rattle.zq_resp.specs.Reply.{bulk}
use Rattle.zq_semantics.specs.Plan.{Plan, is_there}
use Rattle.zq_semantics.specs.Procedures.{last_pairs, popping, popping_from}
use Rattle.zq_semantics.specs.Ranges.{turned_if}
use Rattle.zq_semantics.specs.Replies.{Bulks, bytes_of, parts_of_pair}
use Rattle.zq_semantics.specs.Run.{ForCopies, IsWhy, IsWhyOf, Memory, Number, cut_error}
use Rattle.zq_words.specs.Limits.{IsShort}
use Rattle.zq_words.specs.Words.{Word}

-- the first pair alone
pub take_first : (q : Queue) (p : Scored) → slice_get q 0 ≡ Some p → take 1 q ≡ p ∷ []
take_first [] p at = absurd (none-some p at)
take_first (x ∷ q) p at = ap (λ y. y ∷ []) (same_Some x p at)

-- the first pair of a part that takes one
pub first_taken : (q : Queue) → slice_get (take 1 q) 0 ≡ slice_get q 0
first_taken [] = refl
first_taken (x ∷ q) = refl

-- and so of one pair that was read
pub first_read : (pairs : List (ℤ × Bor (List ℕ))) (q : Queue) → map lent_pair pairs ≡ take 1 q → option_map lent_pair (slice_get pairs 0) ≡ slice_get q 0
first_read pairs q are = sym (slice_get-map lent_pair pairs 0) ∙ ap (λ r. slice_get r 0) are ∙ first_taken q

-- a pair of the queue, turned or not, stands in it
pub stands_in : (t : Bool) (lent : Lending) → IsLending lent → (key : Word) (p : Scored) → IsIn p (turned_if t (queues_in lent key)) → IsIn p (queues_in lent key)
stands_in false lent are key p here = here
stands_in true lent are key p here =
    (reverse_of (queues_in lent key) (queues_in lent key) (all_of (queues_in lent key) (lent_apart lent.rule lent.heaps lent.books key are.books))).within p here

module _ (t : Bool) (lent : Lending) (are : IsLending lent) (key : Word) (p : Scored) (first : slice_get (turned_if t (queues_in lent key)) 0 ≡ Some p) where
  end_stands : IsIn p (queues_in lent key)
  end_stands = stands_in t lent are key p (in_place (turned_if t (queues_in lent key)) 0 p first)

  -- its member has a book, and is short
  pub end_home : HasBook key p.1 lent
  end_home = pair_home lent are key p.0 p.1 end_stands

  pub end_short : IsShort p.1
  end_short = pair_short lent are key p.0 p.1 end_stands

-- where there are members there is such a pair
pub end_there : (t : Bool) (q : Queue) → is_there q ≡ true → slice_get (turned_if t q) 0 ≡ None → ⊥
end_there t [] there none = absurd (cc)
end_there false (x ∷ q) there none = none-some x (sym none)
end_there true (x ∷ q) there none = some_turned (reverse (x ∷ q)) none (length_turned true (x ∷ q))
  where
    some_turned : (r : Queue) → slice_get r 0 ≡ None → length r ≡ length (x ∷ q) → ⊥
    some_turned [] none long = absurd (omega (arith, long))
    some_turned (y ∷ r) none long = none-some y (sym none)

-- ---- what popping it comes to

module _ (site stamp : ℕ) (t : Bool) (old : Lending) (key member : Word) (pair : Scored) (first : slice_get (turned_if t (queues_in old key)) 0 ≡ Some pair) (same : member ≡ pair.1) where
  abbrev move : Move
  move = record { key = key; member = member; act = Drop }

  abbrev plan_of_one : Word → Plan
  plan_of_one m = record { moves = record { key = key; member = m; act = Drop } ∷ []; reply = Bulks (key ∷ parts_of_pair true pair) }

  plan_is : popping_from t (Some key) (queues_in old) ≡ plan_of_one member
  plan_is = ap (popping key) (take_first (turned_if t (queues_in old key)) pair first) ∙ ap plan_of_one (sym same)

  pub ends_popped : (new : Lending) (bytes : Word) (parts : List Word) (short : Bool) → new ≡ lent_after site stamp move old → parts ≡ map bulk (key ∷ parts_of_pair true pair) → bytes ≡ array_bytes parts →
      EndsOver site stamp ForCopies (popping_from t (Some key) (queues_in old)) (λ k. cut_error k) old new bytes short
  ends_popped new bytes parts short is are says =
      subst (λ (p : Plan). EndsOver site stamp ForCopies p (λ k. cut_error k) old new bytes short) (sym plan_is)
      (whole is (says ∙ ap array_bytes are))

  -- why it is not popped
  why_kept : (cut : Stopped) → (cut ≡ Worn → IsWhy site (Some move) old.books Number) → IsWhyOf ForCopies site (Some move) old.books (want_of cut)
  why_kept Worn worn = worn refl
  why_kept NoMemory worn = tt

  pub ends_kept : (cut : Stopped) (bytes : Word) (short : Bool) → (cut ≡ Worn → IsWhy site (Some move) old.books Number) → bytes ≡ bytes_of (cut_error 0 (want_of cut)) → (want_of cut ≡ Memory → short ≡ true) →
      EndsOver site stamp ForCopies (popping_from t (Some key) (queues_in old)) (λ k. cut_error k) old old bytes short
  ends_kept cut bytes short worn says told =
      subst (λ (p : Plan). EndsOver site stamp ForCopies p (λ k. cut_error k) old old bytes short) (sym plan_is)
      (part 0 (want_of cut) (omega arith) refl (why_kept cut worn) says told)

-- where there was no memory to copy it
pub memory_kept : (site stamp : ℕ) (t : Bool) (old : Lending) (key : Word) → is_there (queues_in old key) ≡ true → (bytes : Word) (short : Bool) → bytes ≡ bytes_of (cut_error 0 (want_of NoMemory)) → (want_of NoMemory ≡ Memory → short ≡ true) →
    EndsOver site stamp ForCopies (popping_from t (Some key) (queues_in old)) (λ k. cut_error k) old old bytes short
memory_kept site stamp t old key there bytes short says told =
    elim (slice_get (turned_if t (queues_in old key)) 0) as (λ o. slice_get (turned_if t (queues_in old key)) 0 ≡ o → EndsOver site stamp ForCopies (popping_from t (Some key) (queues_in old)) (λ k. cut_error k) old old bytes short) [
      | None ↦ λ none. absurd (end_there t (queues_in old key) there none)
      | Some pair ↦ λ first. ends_kept site stamp t old key pair.1 pair first refl NoMemory bytes short (λ e. absurd (cc)) says told
    ] refl

-- ---- several last pairs

taken_there : (n : ℕ) (r : Queue) → 1 ≤ n → is_there (take n r) ≡ is_there r
taken_there zero r some = absurd (omega (arith, some))
taken_there (suc n) [] some = refl
taken_there (suc n) (x ∷ r) some = refl

reverse_there : (q : Queue) → is_there (reverse q) ≡ is_there q
reverse_there [] = refl
reverse_there (x ∷ q) = there_of (reverse (x ∷ q)) (length_turned true (x ∷ q))
  where
    there_of : (r : Queue) → length r ≡ length (x ∷ q) → is_there r ≡ true
    there_of [] long = absurd (omega (arith, long))
    there_of (y ∷ r) long = refl

pub last_there : (n : ℕ) (q : Queue) → 1 ≤ n → is_there (last_pairs n q) ≡ is_there q
last_there n q some = taken_there n (reverse q) some ∙ reverse_there q

pub none_of : (q : Queue) → is_there q ≡ false → q ≡ []
none_of [] none = refl
none_of (x ∷ q) none = absurd (cc)
