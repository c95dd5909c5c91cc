-- The first pair of a key over the books that are lent: its member is at home in the book where it was found, and what dropping it leaves.

use Rattle.std.proofs.Common.{List, None, Option, Some, [], ap, arith, inl, inr, length, map, nat_eq, option_map, refl, subst, sym, true, ℕ, ℤ, ◌∙◌, ◌∷◌, ◌≡◌, ◌≤◌, ◌⊎◌}
use Rattle.std.proofs.lemmas.Bool.{cond-true, eq-eqb}
use Rattle.std.proofs.lemmas.Option.{none-some, same_Some, slice_get_within}
use Rattle.std.specs.Cmp.Lexicographic.{pointwise}
use Rattle.std.specs.Prelude.{IfSome, slice_get}
use Rattle.zq_commands.specs.Arrays.{copied_parts}
use Rattle.zq_commands.specs.Lending.{HasBook, IsHomeAt, IsLending, Lending, lent_after, queues_in}
use Rattle.zq_commands.specs.FirstPairs.{DropsFirst, drop_of, top_in}
use Rattle.zq_commands.specs.declared.first_pair.Copied.{Copied}
use Rattle.zq_model.specs.Books.{Book}
use Rattle.zq_model.proofs.Listing.{in_map_from}
use Rattle.zq_model.proofs.Places.{bytes_same}
use Rattle.zq_model.proofs.Preferred.{score_reached}
use Rattle.zq_model.proofs.Queued.{queued_score}
use Rattle.zq_model.specs.Heaps.{heap_of}
use Rattle.zq_model.specs.Image.{entry_at}
use Rattle.zq_model.specs.Meaning.{Scored}
use Rattle.zq_model.specs.Operation.{Drop, LONGEST}
use Rattle.zq_model.specs.Rule.{Rule}
use Rattle.zq_model.specs.Score.{score_of}
use Rattle.zq_model.specs.Sets.{IsIn}
use Rattle.zq_model.proofs.Counted.{measured}
use Rattle.zq_model.proofs.Homes.{has_addition, lent_each}
use Rattle.zq_model.proofs.Read.{in_place}
use Rattle.zq_model.specs.Lent.{is_home_of, queues_of}
use Rattle.zq_model.specs.Moves.{Move, Queue, after, after_act}
use Rattle.zq_semantics.specs.Plan.{drops, is_there}
use Rattle.zq_semantics.specs.Replies.{parts_of_pair}
use Rattle.zq_semantics.specs.Run.{IsWhy, Number}

-- a pair of a queue over books within bounds: its member is at home in one of them, and short
module _ (lent : Lending) (are : IsLending lent) (key : List ℕ) (x : ℤ) (m : List ℕ) (here : IsIn (x, m) (queues_in lent key)) where
  found : (b : Book) × IsIn b lent.books × (score_of lent.rule (entry_at b.state.members (key, m)) ≡ Some x)
  found =
      let one = queued_score lent.rule key (map (λ (b : Book). b.state.members) lent.books) x m here in
      let book = in_map_from (λ (b : Book). b.state.members) one.0 lent.books one.1 in
      (book.0, book.1, ap (λ a. score_of lent.rule (entry_at a (key, m))) book.2 ∙ one.2)

  pub pair_home : HasBook key m lent
  pair_home =
      let its = lent_each lent.heaps lent.books found.0 are.books found.1 in
      (found.0, found.1, eq-eqb _ _ (ap (heap_of key m) its.heaps ∙ has_addition lent.rule lent.heaps found.0 key m x its found.2))

  pub pair_short : length m ≤ LONGEST
  pair_short =
      let its = lent_each lent.heaps lent.books found.0 are.books found.1 in
      let value = score_reached lent.rule (entry_at found.0.state.members (key, m)) x found.2 in
      (its.bounded.additions key m value.0 value.1 value.2).member

-- the first pair of the queue over one book: its member is at home there
module _ (lent : Lending) (are : IsLending lent) (place : ℕ) (book : Book) (at : slice_get lent.books place ≡ Some book) where
  only : (b : Book) → IsIn b (book ∷ []) → book ≡ b
  only b (inl same) = same
  only b (inr none) = absurd none

  abbrev alone : Lending
  alone = record lent { books = book ∷ [] }

  are_alone : IsLending alone
  are_alone =
      let here = in_place lent.books place book at in
      record {
        books = (lent_each lent.heaps lent.books book are.books here, λ later none. absurd none, tt);
        ruled = λ b among. subst (λ c. c.rule ≡ lent.rule) (only b among) (are.ruled book here);
      }

  pub first_home : (key : List ℕ) (pair : Scored) → Some pair ≡ slice_get (queues_of lent.rule (book ∷ []) key) 0 → IsHomeAt key pair.1 place lent
  first_home key pair is =
      let its = pair_home alone are_alone key pair.0 pair.1 (in_place (queues_in alone key) 0 pair (sym is)) in
      record {
        inside = slice_get_within lent.books place book at;
        home = λ other there. subst (λ b. is_home_of key pair.1 b ≡ true) (sym (only its.0 its.1) ∙ same_Some book other (sym at ∙ there)) its.2;
      }

-- what holds of two values, where there are any, holds of either
pub of_either : {X : Type 0} (P : X → Type 0) (r a b : Option X) → (r ≡ a) ⊎ (r ≡ b) → IfSome a P → IfSome b P → IfSome r P
of_either P r a b (inl first) x y = subst (λ o. IfSome o P) (sym first) x
of_either P r a b (inr second) x y = subst (λ o. IfSome o P) (sym second) y

-- the first pair, of which the member is given
pub record IsFirst (q : Queue) (m : List ℕ) : Type 0 where
  pub first : Scored
  pub rest : Queue
  pub is : q ≡ first ∷ rest
  pub member : first.1 ≡ m

pub first_given : (q : Queue) (m : List ℕ) → option_map (λ p. p.1) (slice_get q 0) ≡ Some m → IsFirst q m
first_given [] m at = absurd (cc)
first_given (x ∷ q) m at = record { first = x; rest = q; is = refl; member = same_Some x.1 m at }

module _ (lent : Lending) (are : IsLending lent) (key m : List ℕ) (at : option_map (λ p. p.1) (top_in lent key) ≡ Some m) where
  given : IsFirst (queues_in lent key) m
  given = first_given (queues_in lent key) m at

  stands : IsIn (given.first.0, given.first.1) (queues_in lent key)
  stands = subst (λ q. IsIn given.first q) (sym given.is) (inl refl)

  pub top_short : length m ≤ LONGEST
  top_short = subst (λ w. length w ≤ LONGEST) given.member (pair_short lent are key given.first.0 given.first.1 stands)

  abbrev move : Move
  move = record { key = key; member = m; act = Drop }

  same_move : drop_of key given.first ≡ move
  same_move = ap (λ w. record { key = key; member = w; act = Drop }) given.member

  pub top_dropped : ((x : Scored) (rest : Queue) → queues_in lent key ≡ x ∷ rest → after_act Drop (queues_in lent key) x.1 ≡ rest) → (site stamp : ℕ) (new : Lending) → new ≡ lent_after site stamp move lent → queues_in new ≡ after move (queues_in lent) → DropsFirst site stamp key lent new
  top_dropped leaves site stamp new is after_ = record {
    first = given.first;
    rest = given.rest;
    was = given.is;
    lent = is ∙ ap (λ v. lent_after site stamp v lent) (sym same_move);
    queues = after_ ∙ ap (λ v. after v (queues_in lent)) (sym same_move);
    left =
        ap (λ qs. qs key) after_
        ∙ cond-true (pointwise nat_eq key key) (after_act Drop (queues_in lent key) m) (queues_in lent key) (bytes_same key key refl)
        ∙ ap (λ w. after_act Drop (queues_in lent key) w) (sym given.member)
        ∙ leaves given.first given.rest given.is;
  }

  pub top_why : (site : ℕ) → IsWhy site (Some move) lent.books Number → IsWhy site (slice_get (drops key (queues_in lent key)) 0) lent.books Number
  top_why site why =
      subst (λ o. IsWhy site o lent.books Number) (ap (λ v. Some v) (sym same_move) ∙ ap (λ q. slice_get (drops key q) 0) (sym given.is)) why

empty_of : (q : Queue) → length q ≡ 0 → q ≡ []
empty_of [] e = refl
empty_of (x ∷ q) e = absurd (omega (arith, e))

-- no book, no pair
pub no_queue : (rule : Rule) (K : ℕ) (key : List ℕ) → queues_of rule [] key ≡ []
no_queue rule K key = empty_of (queues_of rule [] key) (measured rule key K [] tt)

-- ---- copies

-- nothing is copied of an empty queue alone
pub none_copied : (q : Queue) (r : Option Copied) → r ≡ None → option_map copied_parts r ≡ option_map (parts_of_pair true) (slice_get q 0) → q ≡ []
none_copied [] r none e = refl
none_copied (x ∷ q) r none e = absurd (none-some (parts_of_pair true x) (ap (option_map copied_parts) (sym none) ∙ e))

-- and something only of one that is not
pub copied_there : (q : Queue) (r : Option Copied) (copied : Copied) → r ≡ Some copied → option_map copied_parts r ≡ option_map (parts_of_pair true) (slice_get q 0) → is_there q ≡ true
copied_there [] r copied some e = absurd (none-some (copied_parts copied) (sym e ∙ ap (option_map copied_parts) some))
copied_there (x ∷ q) r copied some e = refl

-- the first pair of an empty queue is none
pub first_there : {X : Type 0} (f : X → Scored) (q : Queue) (r : Option X) → option_map f r ≡ slice_get q 0 → (r ≡ None → q ≡ []) × ((x : X) → r ≡ Some x → is_there q ≡ true)
first_there f [] r e = (λ _. refl, λ x some. absurd (none-some (f x) (sym e ∙ ap (option_map f) some)))
first_there f (x ∷ q) r e = (λ none. absurd (none-some x (ap (option_map f) (sym none) ∙ e)), λ y some. refl)

pub copied_first : (q rest : Queue) (x : Scored) (r : Option Copied) (copied : Copied) → r ≡ Some copied → q ≡ x ∷ rest →
    option_map copied_parts r ≡ option_map (parts_of_pair true) (slice_get q 0) → copied_parts copied ≡ parts_of_pair true x
copied_first q rest x r copied some is e =
    same_Some (copied_parts copied) (parts_of_pair true x)
    (ap (option_map copied_parts) (sym some) ∙ e ∙ ap (λ p. option_map (parts_of_pair true) (slice_get p 0)) is)

member_parts : (x : Scored) (copied : Copied) → copied_parts copied ≡ parts_of_pair true x → x.1 ≡ copied.member.items
member_parts x copied e = cc

-- the copy's member is the first pair's
pub copied_member : (q : Queue) (r : Option Copied) (copied : Copied) → r ≡ Some copied → option_map copied_parts r ≡ option_map (parts_of_pair true) (slice_get q 0) →
    option_map (λ p. p.1) (slice_get q 0) ≡ Some copied.member.items
copied_member [] r copied some e = absurd (none-some (copied_parts copied) (sym e ∙ ap (option_map copied_parts) some))
copied_member (x ∷ q) r copied some e = ap (λ m. Some m) (member_parts x copied (copied_first (x ∷ q) q x r copied some refl e))
