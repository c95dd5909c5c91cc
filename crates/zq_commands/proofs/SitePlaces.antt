-- The books of all heaps of a site can be lent to every command, and work at one place leaves them such books.

use Rattle.std.proofs.Common.{All, List, Some, [], ap, arith, get_or, inl, inr, length, refl, set, subst, suc, sym, zero, ℕ, ◌++◌, ◌+◌, ◌<◌, ◌∙◌, ◌∷◌, ◌≡◌, ◌≤◌, ◌⊎◌}
use Rattle.std.proofs.lemmas.Bool.{cases_eq, eq-eqb}
use Rattle.std.proofs.lemmas.List.{length-set}
use Rattle.std.proofs.lemmas.Option.{same_Some, slice_get_within}
use Rattle.std.specs.Prelude.{slice_get}
use Rattle.zq_commands.specs.Commands.{HasBooks}
use Rattle.zq_commands.specs.Lending.{HasBook, IsDated, IsLending}
use Rattle.zq_commands.specs.SiteBooks.{AreOfSite, IsBookOf, IsKept, empty_book}
use Rattle.zq_commands.specs.VecBooks.{heaps_in, lending_of, rule_in}
use Rattle.zq_model.specs.Books.{Book}
use Rattle.zq_model.proofs.MeantQueues.{heap_in_range}
use Rattle.zq_model.specs.Bounded.{IsBounded}
use Rattle.zq_model.specs.Heaps.{heap_of}
use Rattle.zq_model.specs.Rule.{Rule}
use Rattle.zq_model.specs.Sets.{IsHeaps}
use Rattle.zq_model.proofs.Read.{in_place, placed_in}
use Rattle.zq_model.specs.Lent.{AreLent, IsLent}
use Rattle.zq_posheap.proofs.Lists.{slice_get-set_other, slice_get-set_same, there_is}
use Rattle.zq_words.specs.Command.{Command, Del, Ping, Zadd, ZaddIncr, Zcard, Zcount, Zincrby, Zpopmin, Zpopnear, Zrange, Zrank, Zrem, Zrevrank, Zscore}

-- ---- lent

lent_from : (K n : ℕ) (books : List Book) → ((i : ℕ) (b : Book) → slice_get books i ≡ Some b → (b.heap ≡ n + i) × IsLent K b) → AreLent K books
lent_from K n [] each = tt
lent_from K n (b ∷ books) each = (
  (each 0 b refl).1,
  λ later here.
      let at = placed_in later books here in
      let low = (each 0 b refl).0 in
      let high = (each (suc at.0) later at.1).0 in
      omega (arith, low, high),
  lent_from K (n + 1) books (λ i c is. let it = each (suc i) c is in (omega (arith, it.0), it.1)),
)

module _ (books : List Book) (are : AreOfSite books) where
  first_heaps : (xs : List Book) → 1 ≤ length xs → ((b : Book) → slice_get xs 0 ≡ Some b → b.heaps ≡ length books) → heaps_in xs ≡ length books
  first_heaps [] some first = absurd (omega (arith, some))
  first_heaps (b ∷ xs) some first = first b refl

  pub heaps_are : heaps_in books ≡ length books
  heaps_are = first_heaps books are.number.0 (λ b is. (are.each 0 b is).heaps)

  pub site_lending : IsLending (lending_of books)
  site_lending = record {
    books = subst (λ K. AreLent K books) (sym heaps_are) (lent_from (length books) 0 books (λ i b is.
        let it = are.each i b is in
        (omega (arith, it.heap_is), record { heaps = it.heaps; bounded = it.bounded })));
    ruled = λ b here. let at = placed_in b books here in (are.each at.0 b at.1).ruled;
  }

  -- each member of each key lies in one of the heaps
  pub site_home : (key member : List ℕ) → HasBook key member (lending_of books)
  site_home key member =
      let K = length books in
      let heap = heap_of key member K in
      let some : 0 < K = omega (arith, are.number.0) in
      let at = there_is books heap (heap_in_range key member K some) in
      let it = are.each heap at.0 at.1 in
      (at.0, in_place books heap at.0 at.1, eq-eqb _ _ (ap (heap_of key member) it.heaps ∙ sym it.heap_is))

  all_of : {X : Type 0} (P : X → Type 0) (xs : List X) → ((x : X) → P x) → All P xs
  all_of P xs each = λ k d inside. each (get_or xs k d)

  pub site_homes : (command : Command) → HasBooks command (lending_of books)
  site_homes (Ping message) = tt
  site_homes (Zadd key flags pairs) = all_of (λ pair. HasBook key pair.1 (lending_of books)) pairs (λ pair. site_home key pair.1)
  site_homes (ZaddIncr key flags increment member) = site_home key member
  site_homes (Zincrby key increment member) = site_home key member
  site_homes (Zrem key members) = all_of (λ member. HasBook key member (lending_of books)) members (site_home key)
  site_homes (Zscore key member) = site_home key member
  site_homes (Zcard key) = tt
  site_homes (Zcount key min max) = tt
  site_homes (Zrank key member) = site_home key member
  site_homes (Zrevrank key member) = site_home key member
  site_homes (Zrange key range is_turned with_scores) = tt
  site_homes (Zpopmin key count) = tt
  site_homes (Zpopnear key) = tt
  site_homes (Del keys) = tt

-- ---- work at a place

rule_set : (books : List Book) (i : ℕ) (old new : Book) → slice_get books i ≡ Some old → new.rule ≡ old.rule → rule_in (set books i new) ≡ rule_in books
rule_set [] i old new is ruled = refl
rule_set (b ∷ books) zero old new is ruled = ruled ∙ ap (λ (c : Book). c.rule) (sym (same_Some b old is))
rule_set (b ∷ books) (suc i) old new is ruled = refl

module _ (books : List Book) (place : ℕ) (old new : Book) (is : slice_get books place ≡ Some old) where
  pub of_site_set : AreOfSite books → IsKept old new → AreOfSite (set books place new)
  of_site_set are kept =
      let number = length-set books place new in
      let rule = rule_set books place old new is kept.ruled in
      let K = length books in
      let inside = slice_get_within books place old is in
      let was = are.each place old is in
      let heaps : new.heaps ≡ K = kept.heaps ∙ was.heaps in
      let its : IsBookOf K (rule_in books) place new = record {
        heap_is = kept.heap ∙ was.heap_is;
        heaps = heaps;
        ruled = kept.ruled ∙ was.ruled;
        bounded = subst (λ (k : ℕ). IsBounded k new.heap new.state) heaps kept.bounded;
      } in
      let each : (i : ℕ) (b : Book) → slice_get (set books place new) i ≡ Some b → IsBookOf K (rule_in books) i b = λ i b at.
      elim (cases_eq i place) [
        | inl same ↦
            let it : new ≡ b = same_Some new b (sym (slice_get-set_same books place new inside) ∙ ap (slice_get (set books place new)) (sym same) ∙ at) in
            subst (λ (c : Book). IsBookOf K (rule_in books) i c) it (subst (λ (j : ℕ). IsBookOf K (rule_in books) j new) (sym same) its)
        | inr other ↦ are.each i b (sym (slice_get-set_other books place i new other) ∙ at)
      ] in
      record {
        number = subst (λ n. (1 ≤ n) × (n ≤ 16)) (sym number) are.number;
        each = λ i b at. subst (λ (n : ℕ). IsBookOf n (rule_in (set books place new)) i b) (sym number) (subst (λ r. IsBookOf K r i b) (sym rule) (each i b at));
      }

  pub dated_set : (stamp : ℕ) → IsDated stamp (lending_of books) → new.stamp ≤ stamp → IsDated stamp (lending_of (set books place new))
  dated_set stamp dated low = (
    dated.0,
    λ b here.
        let at = placed_in b (set books place new) here in
        elim (cases_eq at.0 place) [
          | inl same ↦
              let it : new ≡ b = same_Some new b (sym (slice_get-set_same books place new (slice_get_within books place old is)) ∙ ap (slice_get (set books place new)) (sym same) ∙ at.1) in
              subst (λ (c : Book). c.stamp ≤ stamp) it low
          | inr other ↦ dated.1 b (in_place books at.0 b (sym (slice_get-set_other books place at.0 new other) ∙ at.1))
        ],
  )

-- ---- empty books

-- what is read of a list with an element behind it is read of the list, or is that element
pub get_behind : {X : Type 0} (xs : List X) (y : X) (i : ℕ) (x : X) → slice_get (xs ++ y ∷ []) i ≡ Some x → (slice_get xs i ≡ Some x) ⊎ ((i ≡ length xs) × (y ≡ x))
get_behind [] y zero x is = inr (refl, same_Some y x is)
get_behind [] y (suc i) x is = absurd (cc)
get_behind (z ∷ xs) y zero x is = inl is
get_behind (z ∷ xs) y (suc i) x is = elim (get_behind xs y i x is) [
  | inl here ↦ inl here
  | inr last ↦ inr (ap suc last.0, last.1)
]

module _ (K : ℕ) (rule : Rule) where
  -- empty books, within bounds, of the first heaps of K
  pub record AreEmpty (books : List Book) : Type 0 where
    pub each : (heap : ℕ) (book : Book) → slice_get books heap ≡ Some book → book ≡ empty_book K rule heap
    pub bounded : (heap : ℕ) (book : Book) → slice_get books heap ≡ Some book → IsBounded K book.heap book.state

  pub empty_none : AreEmpty []
  empty_none = record {
    each = λ heap book is. absurd (cc);
    bounded = λ heap book is. absurd (cc);
  }

  pub empty_next : (books : List Book) (next : Book) → AreEmpty books → next ≡ empty_book K rule (length books) → IsBounded K next.heap next.state → AreEmpty (books ++ next ∷ [])
  empty_next books next are same bounded = record {
    each = λ heap book is. elim (get_behind books next heap book is) [
      | inl here ↦ are.each heap book here
      | inr last ↦ sym last.1 ∙ same ∙ ap (empty_book K rule) (sym last.0)
    ];
    bounded = λ heap book is. elim (get_behind books next heap book is) [
      | inl here ↦ are.bounded heap book here
      | inr last ↦ subst (λ (b : Book). IsBounded K b.heap b.state) last.1 bounded
    ];
  }

  first_rule : (books : List Book) → 1 ≤ length books → AreEmpty books → rule_in books ≡ rule
  first_rule [] some are = absurd (omega (arith, some))
  first_rule (b ∷ books) some are = ap (λ (c : Book). c.rule) (are.each 0 b refl)

  pub empty_site : (books : List Book) → IsHeaps K → length books ≡ K → AreEmpty books → AreOfSite books
  empty_site books heaps number are =
      let ruled = first_rule books (omega (arith, heaps.0, number)) are in
      record {
        number = subst IsHeaps (sym number) heaps;
        each = λ heap book is.
            let same = are.each heap book is in
            record {
              heap_is = ap (λ (b : Book). b.heap) same;
              heaps = ap (λ (b : Book). b.heaps) same ∙ sym number;
              ruled = ap (λ (b : Book). b.rule) same ∙ sym ruled;
              bounded = subst (λ (k : ℕ). IsBounded k book.heap book.state) (sym number) (are.bounded heap book is);
            };
      }
