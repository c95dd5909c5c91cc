-- A heap's bounds and its rows, where a member comes.

use Rattle.std.proofs.Common.{Bool, Less, List, None, Some, [], ap, arith, cond, false, get_or, inl, inr, length, map, refl, subst, sym, take, true, unwrap_or, ℕ, ◌+◌, ◌++◌, ◌<◌, ◌∙◌, ◌∷◌, ◌≡◌}
use Rattle.std.proofs.lemmas.Bool.{false_from_ne_true}
use Rattle.std.proofs.lemmas.Cmp.{tied_itself}
use Rattle.std.proofs.lemmas.List.{map-append, take_more}
use Rattle.std.specs.FinMap.{find, from_entries, get, get-from_entries, same_map}
use Rattle.std.specs.Ordering.{eq_by_cmp}
use Rattle.std.specs.Prelude.{suc, zero}
use Rattle.zq_model.proofs.BoundedImages.{bounded_rows}
use Rattle.zq_model.proofs.Entries.{entry_unless_bare, get-put_entry, kept_entry}
use Rattle.zq_model.proofs.Maps.{in_map, key_same, place_exact, place_total, same_key}
use Rattle.zq_model.proofs.Membership.{in_taken}
use Rattle.zq_model.proofs.SparseEntries.{addition_listed, entry_back}
use Rattle.zq_model.specs.Bounded.{IsBounded, IsBoundedAt, IsBoundedRow}
use Rattle.zq_model.specs.Entry.{Addition}
use Rattle.zq_model.specs.Image.{Entry, Image, Place, addition_at, is_bare, no_additions, place_cmp, put_entry, unless_bare}
use Rattle.zq_model.specs.Joining.{HasAddition}
use Rattle.zq_model.specs.Rows.{AreEntries, AreInOrder, Row, image_of_rows, pair_of, place_in, row_of}
use Rattle.zq_model.specs.Sets.{IsCounters, IsIn, SITES}
use Rattle.zq_shard.specs.Shard.{with_entry}

-- the heap of a vector, in which no member stands
pub bounded_vector : (K heap : ℕ) (v : List ℕ) → IsCounters v → IsBounded K heap (image_of_rows v [])
bounded_vector K heap v counters = bounded_rows K heap v [] counters (record { each = λ row i. absurd i; in_order = tt }) (λ row i. absurd i)

-- ---- one member more, with an entry

module _ (K heap : ℕ) (a : Image) (k m : List ℕ) (e : Entry) (bounded : IsBounded K heap a) (wide : length e ≡ SITES) (full : is_bare e ≡ false) (row : IsBoundedRow K heap a.vector (row_of ((k, m), e))) where
  with_entries : AreEntries (put_entry a.members (k, m) e)
  with_entries k' m' x got =
      elim (eq_by_cmp place_cmp (k', m') (k, m)) as (λ b. cond b (unless_bare e) (get a.members (k', m')) ≡ Some x → (length x ≡ SITES) × (is_bare x ≡ false)) [
        | true ↦ λ here. kept_entry e x wide here
        | false ↦ λ there. bounded.entries k' m' x there
      ] (sym (get-put_entry a.members (k, m) e (k', m')) ∙ got)

  with_additions : (k' m' : List ℕ) (s : ℕ) (x : Addition) → HasAddition (with_entry (k, m) e a) k' m' s x → IsBoundedAt K heap a.vector k' m' s x
  with_additions k' m' s x has =
      elim (eq_by_cmp place_cmp (k', m') (k, m)) as (λ b. eq_by_cmp place_cmp (k', m') (k, m) ≡ b →
      addition_at (unwrap_or (cond b (unless_bare e) (get a.members (k', m'))) no_additions) s ≡ Some x → IsBoundedAt K heap a.vector k' m' s x) [
        | true ↦ λ here f.
            let stands : addition_at e s ≡ Some x = ap (λ y. addition_at y s) (sym (entry_unless_bare e wide)) ∙ f in
            subst (λ (q : Place). IsBoundedAt K heap a.vector q.0 q.1 s x) (sym (same_key place_exact (k', m') (k, m) here)) (row s x (addition_listed s 0 s e x (omega arith) stands))
        | false ↦ λ _ f. bounded.additions k' m' s x f
      ] refl (ap (λ r. addition_at (unwrap_or r no_additions) s) (sym (get-put_entry a.members (k, m) e (k', m'))) ∙ has)

  pub with_entry_bounded : IsBounded K heap (with_entry (k, m) e a)
  with_entry_bounded = record { counters = bounded.counters; entries = with_entries; additions = with_additions }

-- ---- one row more

not_here : (q : Place) (rows : List Row) (row : Row) → q ≡ place_in row → AreInOrder (rows ++ row ∷ []) → find place_cmp q (map pair_of rows) ≡ None
not_here q [] row is order = refl
not_here q (r ∷ rows) row is order =
    let less : place_cmp (place_in r) q ≡ Less = ap (place_cmp (place_in r)) is ∙ order.0 row (last rows) in
    let away : eq_by_cmp place_cmp q (place_in r) ≡ false = false_from_ne_true _ (λ same.
    let one = same_key place_exact q (place_in r) same in
    let tied = tied_itself place_total q in
    let below : place_cmp q q ≡ Less = ap (λ p. place_cmp p q) one ∙ less in
    cc) in
    ap (λ b. cond b (Some (pair_of r).1) (find place_cmp q (map pair_of rows))) away ∙ not_here q rows row is order.1
  where
    last : (xs : List Row) → IsIn row (xs ++ row ∷ [])
    last [] = inl refl
    last (x ∷ xs) = inr (last xs)

find_more : (es : List (Place × Entry)) (k : Place) (v : Entry) (q : Place) → find place_cmp k es ≡ None → find place_cmp q (es ++ (k, v) ∷ []) ≡ cond (eq_by_cmp place_cmp q k) (Some v) (find place_cmp q es)
find_more [] k v q none = refl
find_more (e ∷ es) k v q none =
    elim (eq_by_cmp place_cmp q e.0) as (λ b. eq_by_cmp place_cmp q e.0 ≡ b → cond b (Some e.1) (find place_cmp q (es ++ (k, v) ∷ [])) ≡ cond (eq_by_cmp place_cmp q k) (Some v) (cond b (Some e.1) (find place_cmp q es))) [
      | true ↦ λ here. sym (ap (λ b. cond b (Some v) (Some e.1)) (apart q here))
      | false ↦ λ away. find_more es k v q rest
    ] refl
  where
    first : eq_by_cmp place_cmp k e.0 ≡ false
    first = false_from_ne_true _ (λ same. let found : cond true (Some e.1) (find place_cmp k es) ≡ None = ap (λ b. cond b (Some e.1) (find place_cmp k es)) (sym same) ∙ none in cc)

    rest : find place_cmp k es ≡ None
    rest = ap (λ b. cond b (Some e.1) (find place_cmp k es)) (sym first) ∙ none

    apart : (p : Place) → eq_by_cmp place_cmp p e.0 ≡ true → eq_by_cmp place_cmp p k ≡ false
    apart p here = false_from_ne_true _ (λ same.
        let key : k ≡ e.0 = sym (same_key place_exact p k same) ∙ same_key place_exact p e.0 here in
        let tied : eq_by_cmp place_cmp k e.0 ≡ true = key_same place_total k e.0 key in
        cc)

-- the image of rows and one more, which is above them
pub row_more : (v k m : List ℕ) (e : Entry) (before : List Row) → length e ≡ SITES → is_bare e ≡ false → AreInOrder (before ++ row_of ((k, m), e) ∷ []) →
    with_entry (k, m) e (image_of_rows v before) ≡ image_of_rows v (before ++ row_of ((k, m), e) ∷ [])
row_more v k m e before wide full order =
    let row = row_of ((k, m), e) in
    let pairs : map pair_of (before ++ row ∷ []) ≡ map pair_of before ++ ((k, m), e) ∷ []
    = map-append pair_of before (row ∷ []) ∙ ap (λ x. map pair_of before ++ ((k, m), x) ∷ []) (entry_back e wide) in
    let members : put_entry (from_entries {R = place_cmp} (map pair_of before)) (k, m) e ≡ from_entries (map pair_of (before ++ row ∷ []))
    = same_map place_total place_exact _ _ (λ q.
    get-put_entry (from_entries {R = place_cmp} (map pair_of before)) (k, m) e q
    ∙ ap (λ (b : Bool). cond (eq_by_cmp place_cmp q (k, m)) (cond b None (Some e)) (get (from_entries {R = place_cmp} (map pair_of before)) q)) full
    ∙ ap (cond (eq_by_cmp place_cmp q (k, m)) (Some e)) (get-from_entries place_total (map pair_of before) q)
    ∙ sym (find_more (map pair_of before) (k, m) e q (not_here (k, m) before row refl order))
    ∙ ap (find place_cmp q) (sym pairs)
    ∙ sym (get-from_entries place_total (map pair_of (before ++ row ∷ [])) q)) in
    λ i. record { vector = v; members = members i }

-- ---- rows that are given one after another

pub in_at : {X : Type 0} (xs : List X) (i : ℕ) (d : X) → i < length xs → IsIn (get_or xs i d) xs
in_at [] i d below = absurd (omega (arith, below))
in_at (x ∷ xs) zero d below = inl refl
in_at (x ∷ xs) (suc i) d below = inr (in_at xs i d (omega arith))

-- the first so many rows are in order
pub order_take : (n : ℕ) (rows : List Row) → AreInOrder rows → AreInOrder (take n rows)
order_take zero rows order = tt
order_take (suc n) [] order = tt
order_take (suc n) (row ∷ rows) order = ((λ later i. order.0 later (in_taken later n rows i)), order_take n rows order.1)

map_take : {X Y : Type 0} (f : X → Y) (n : ℕ) (xs : List X) → map f (take n xs) ≡ take n (map f xs)
map_take f zero xs = refl
map_take f (suc n) [] = refl
map_take f (suc n) (x ∷ xs) = ap (λ ys. f x ∷ ys) (map_take f n xs)

-- the rows up to the next
pub next_row : {X : Type 0} (f : X → Row) (xs : List X) (i : ℕ) (x : X) → i < length xs → x ≡ get_or xs i x → map f (take (i + 1) xs) ≡ map f (take i xs) ++ f x ∷ []
next_row f xs i x below is =
    ap (map f) (take_more xs i x below ∙ ap (λ y. take i xs ++ y ∷ []) (sym is)) ∙ map-append f (take i xs) (x ∷ [])

pub next_order : {X : Type 0} (f : X → Row) (xs : List X) (n : ℕ) → AreInOrder (map f xs) → AreInOrder (map f (take n xs))
next_order f xs n order = subst AreInOrder (sym (map_take f n xs)) (order_take n (map f xs) order)

-- the row is one of them
pub row_in : {X : Type 0} (f : X → Row) (xs : List X) (i : ℕ) (x : X) → i < length xs → x ≡ get_or xs i x → IsIn (f x) (map f xs)
row_in f xs i x below is = in_map f x xs (subst (λ y. IsIn y xs) (sym is) (in_at xs i x below))
