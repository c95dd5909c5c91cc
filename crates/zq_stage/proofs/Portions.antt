-- A portion of a heap has what the heap has of its members.

use Rattle.std.proofs.Common.{Bool, List, None, Option, Some, [], ap, arith, cond, false, get_or, inl, inr, length, map, refl, subst, sym, take, true, unwrap_or, ◌++◌, ◌+◌, ◌<◌, ◌∙◌, ◌∷◌, ◌≡◌, ◌≤◌, ◌||◌, ◌⊎◌, ℕ}
use Rattle.std.proofs.lemmas.Bool.{cond-false, cond-true, false_from_ne_true}
use Rattle.std.proofs.lemmas.List.{length-map, take_more}
use Rattle.std.proofs.lemmas.List.Sums.{sum-map, sum_by-append}
use Rattle.std.proofs.lemmas.Option.{none-some, same_Some}
use Rattle.std.specs.FinMap.{entries, find, get, get-entries, get-from_entries}
use Rattle.std.specs.List.{sum, sum_by}
use Rattle.std.specs.Ordering.{eq_by_cmp}
use Rattle.zq_model.proofs.Entries.{get-put_entry}
use Rattle.zq_model.proofs.Maps.{in_map, key_same, place_exact, place_total, same_key}
use Rattle.zq_model.specs.Image.{Entry, Image, Place, image_of, is_bare, no_additions, place_cmp, unless_bare}
use Rattle.zq_model.specs.Operation.{Operation}
use Rattle.zq_model.specs.Rows.{Row, entry_with, image_of_rows, place_in, row_of, rows_of}
use Rattle.zq_model.specs.Sets.{IsIn, IsWorld}
use Rattle.zq_shard.specs.Listed.{lent_place, lent_row}
use Rattle.zq_shard.specs.Shard.{HeapImage, HoldsImage, IsHeapImage, with_entry}
use Rattle.zq_shard.specs.Standing.{IsEnd}
use Rattle.zq_shard.specs.Walk.{IsPiece}
use Rattle.zq_shard.specs.declared.row.RowRef.{RowRef}
use Rattle.zq_shard.specs.declared.spot.Spot.{Spot}
use Rattle.zq_stage.proofs.Replaced.{with_rows-vector}
use Rattle.zq_stage.proofs.RowsOf.{row_got}
use Rattle.zq_stage.specs.Portion.{IsPortion, lent_weight, weight_at, weight_of}
use Rattle.zq_stage.specs.Rows.{has_row, with_rows}
use Rattle.zq_stage.specs.Staged.{IsPieceOf}
use Rattle.zq_stage.specs.declared.portion.PortionLimits.{PortionLimits}

-- ---- lists

-- two maps that give one list agree on each of its elements
each_same : {X Y : Type 0} (f g : X → Y) (xs : List X) → map f xs ≡ map g xs → (x : X) → IsIn x xs → f x ≡ g x
each_same f g [] same x i = absurd i
each_same f g (y ∷ ys) same x (inl is) = let first : f y ≡ g y = cc in subst (λ z. f z ≡ g z) is first
each_same f g (y ∷ ys) same x (inr there) = let rest : map f ys ≡ map g ys = cc in each_same f g ys rest x there

-- the sum of one more
sum_last : {X : Type 0} (f : X → ℕ) (xs : List X) (x : X) → sum (map f (xs ++ x ∷ [])) ≡ sum (map f xs) + f x
sum_last f xs x = sum-map f (xs ++ x ∷ []) ∙ sum_by-append f xs (x ∷ []) ∙ (λ i. sym (sum-map f xs) i + one i)
  where
    one : sum_by f (x ∷ []) ≡ f x
    one = omega arith

pub sum_more : {X : Type 0} (f : X → ℕ) (xs : List X) (i : ℕ) (x : X) → i < length xs → x ≡ get_or xs i x → sum (map f (take (i + 1) xs)) ≡ sum (map f (take i xs)) + f x
sum_more f xs i x below is = ap (λ ys. sum (map f ys)) (take_more xs i x below ∙ ap (λ y. take i xs ++ y ∷ []) (sym is)) ∙ sum_last f (take i xs) x

-- a place is in a list, or not
pub in_or_not : (q : Place) (qs : List Place) → IsIn q qs ⊎ (IsIn q qs → ⊥)
in_or_not q [] = inr (λ i. i)
in_or_not q (p ∷ qs) =
    elim (eq_by_cmp place_cmp q p) as (λ b. eq_by_cmp place_cmp q p ≡ b → IsIn q (p ∷ qs) ⊎ (IsIn q (p ∷ qs) → ⊥)) [
      | true ↦ λ at. inl (inl (sym (same_key place_exact q p at)))
      | false ↦ λ away.
          elim (in_or_not q qs) [
            | inl there ↦ inl (inr there)
            | inr none ↦ inr (λ i. elim i [
              | inl is ↦ (let tied : eq_by_cmp place_cmp q p ≡ true = key_same place_total q p (sym is) in cc)
              | inr there ↦ none there
            ])
          ]
    ] refl

-- ---- which members rows are of

in_has : {X : Type 0} (f : X → Row) (xs : List X) (q : Place) → IsIn q (map (λ x. place_in (f x)) xs) → has_row (map f xs) q ≡ true
in_has f [] q i = absurd i
in_has f (x ∷ xs) q (inl is) = ap (λ b. b || has_row (map f xs) q) (key_same place_total q (place_in (f x)) (sym is))
in_has f (x ∷ xs) q (inr there) =
    elim (eq_by_cmp place_cmp q (place_in (f x))) as (λ b. (b || has_row (map f xs) q) ≡ true) [
      | true ↦ refl
      | false ↦ in_has f xs q there
    ]

has_in : {X : Type 0} (f : X → Row) (xs : List X) (q : Place) → has_row (map f xs) q ≡ true → IsIn q (map (λ x. place_in (f x)) xs)
has_in f [] q has = let none : false ≡ true = has in cc
has_in f (x ∷ xs) q has =
    elim (eq_by_cmp place_cmp q (place_in (f x))) as (λ b. eq_by_cmp place_cmp q (place_in (f x)) ≡ b → (b || has_row (map f xs) q) ≡ true → IsIn q (map (λ y. place_in (f y)) (x ∷ xs))) [
      | true ↦ λ at _. inl (sym (same_key place_exact q (place_in (f x)) at))
      | false ↦ λ _ later. inr (has_in f xs q later)
    ] refl has

-- ---- rows in the place of what was there

-- the row has what the image has of its member
pub record HasRowOf (a : Image) (row : Row) : Type 0 where
  pub got : get a.members (place_in row) ≡ Some (entry_with row.additions)
  pub full : is_bare (entry_with row.additions) ≡ false

pub with_rows-at : (a b : Image) (rows : List Row) → ((row : Row) → IsIn row rows → HasRowOf a row) → (q : Place) →
    get (with_rows rows b).members q ≡ cond (has_row rows q) (get a.members q) (get b.members q)
with_rows-at a b [] each q = refl
with_rows-at a b (row ∷ rows) each q =
    let p : Place = place_in row in
    let e : Entry = entry_with row.additions in
    let is = each row (inl refl) in
    with_rows-at a (with_entry p e b) rows (λ r i. each r (inr i)) q
    ∙ ap (cond (has_row rows q) (get a.members q)) (get-put_entry b.members p e q)
    ∙ elim (eq_by_cmp place_cmp q p) as (λ c. eq_by_cmp place_cmp q p ≡ c →
    cond (has_row rows q) (get a.members q) (cond c (unless_bare e) (get b.members q)) ≡ cond (c || has_row rows q) (get a.members q) (get b.members q)) [
      | true ↦ λ at.
          let here : get a.members q ≡ Some e = ap (get a.members) (same_key place_exact q p at) ∙ is.got in
          let some : unless_bare e ≡ Some e = cond-false (is_bare e) None (Some e) is.full in
          ap (cond (has_row rows q) (get a.members q)) (some ∙ sym here) ∙ same_both (has_row rows q) (get a.members q)
      | false ↦ λ _. refl
    ] refl
  where
    same_both : {X : Type 0} (b : Bool) (x : X) → cond b x x ≡ x
    same_both true x = refl
    same_both false x = refl

-- ---- rows that a walk lends

pair_there : (es : List (Place × Entry)) (q : Place) (e : Entry) → find place_cmp q es ≡ Some e → IsIn (q, e) es
pair_there [] q e is = absurd (none-some e is)
pair_there (x ∷ es) q e is =
    elim (eq_by_cmp place_cmp q x.0) as (λ b. eq_by_cmp place_cmp q x.0 ≡ b → cond b (Some x.1) (find place_cmp q es) ≡ Some e → IsIn (q, e) (x ∷ es)) [
      | true ↦ λ tied f. inl (λ i. (sym (same_key place_exact q x.0 tied) i, same_Some x.1 e f i))
      | false ↦ λ _ f. inr (pair_there es q e f)
    ] refl is

module _ (s : HeapImage) (rows : List RowRef) (are : map (λ row. get s.image.members (lent_place row)) rows ≡ map (λ row. Some row.entry.now) rows) where
  lent_got : (row : RowRef) → IsIn row rows → get s.image.members (lent_place row) ≡ Some row.entry.now
  lent_got row i = each_same (λ (r : RowRef). get s.image.members (lent_place r)) (λ r. Some r.entry.now) rows are row i

  -- they are rows of the heap
  pub lent_among : (row : Row) → IsIn row (map lent_row rows) → IsIn row (rows_of s.image)
  lent_among row i = from_all rows (λ r j. lent_one r j) i
    where
      lent_one : (r : RowRef) → IsIn r rows → IsIn (lent_row r) (rows_of s.image)
      lent_one r j =
          in_map row_of (lent_place r, r.entry.now) (entries s.image.members)
          (pair_there (entries s.image.members) (lent_place r) r.entry.now (sym (get-entries s.image.members (lent_place r)) ∙ lent_got r j))

      from_all : (rs : List RowRef) → ((r : RowRef) → IsIn r rs → IsIn (lent_row r) (rows_of s.image)) → IsIn row (map lent_row rs) → IsIn row (rows_of s.image)
      from_all [] each here = absurd here
      from_all (r ∷ rs) each (inl is) = subst (λ x. IsIn x (rows_of s.image)) is (each r (inl refl))
      from_all (r ∷ rs) each (inr there) = from_all rs (λ x j. each x (inr j)) there

  pub lent_have : IsHeapImage s → (row : Row) → IsIn row (map lent_row rows) → HasRowOf s.image row
  lent_have kept row i =
      let among = lent_among row i in
      let got = row_got s.image kept.bounded.entries row among in
      record { got = got; full = (kept.bounded.entries row.key row.member (entry_with row.additions) got).1 }

  -- and count for what the heap's members do
  pub lent_sum : sum (map (weight_at s.image.members) (map lent_place rows)) ≡ sum (map lent_weight rows)
  lent_sum = ap sum (of_all rows (λ r i. lent_got r i))
    where
      entry_or : Option Entry → Entry
      entry_or o = unwrap_or o no_additions

      of_all : (rs : List RowRef) → ((r : RowRef) → IsIn r rs → get s.image.members (lent_place r) ≡ Some r.entry.now) → map (weight_at s.image.members) (map lent_place rs) ≡ map lent_weight rs
      of_all [] each = refl
      of_all (r ∷ rs) each =
          let first : weight_at s.image.members (lent_place r) ≡ lent_weight r = ap (λ o. weight_of (lent_place r) (entry_or o)) (each r (inl refl)) in
          λ i. first i ∷ of_all rs (λ x j. each x (inr j)) i

-- ---- a portion

-- the heap's vector with these rows alone
pub is_portion : (s part : HeapImage) (spot next : Spot) (limits : PortionLimits) (rows : List RowRef) → IsHeapImage s → IsPiece s.image spot rows next → length rows ≤ limits.rows →
    (length rows ≤ 1) ⊎ (sum (map lent_weight rows) ≤ limits.bytes) → (0 < limits.rows → length rows ≡ 0 → IsEnd next) → s.heap ≡ part.heap → s.heaps ≡ part.heaps → part.rule ≡ s.rule →
    part.image ≡ with_rows (map lent_row rows) (image_of_rows s.image.vector []) → IsPortion s spot limits part next
is_portion s part spot next limits rows kept piece few light some heap heaps rule image = record {
  same = record { heap = heap; heaps = heaps };
  rule = rule;
  vector = ap (λ (a : Image). a.vector) image ∙ with_rows-vector (map lent_row rows) (image_of_rows s.image.vector []);
  handed = map lent_place rows;
  walked = record {
    order = piece.order;
    all = piece.all;
    parts = piece.parts;
    few = subst (λ n. n ≤ limits.rows) (sym number) few;
    light = elim light [
      | inl one ↦ inl (subst (λ n. n ≤ 1) (sym number) one)
      | inr within ↦ inr (subst (λ n. n ≤ limits.bytes) (sym (lent_sum s rows piece.entries)) within)
    ];
    some = λ allowed none. some allowed (sym number ∙ ap length none);
  };
  brought = λ q i. got q ∙ cond-true (has_row (map lent_row rows) q) _ _ (in_has lent_row rows q i);
  others = λ q not. got q ∙ cond-false (has_row (map lent_row rows) q) _ _ (false_from_ne_true _ (λ has. not (has_in lent_row rows q has))) ∙ get-from_entries {R = place_cmp} place_total [] q;
}
  where
    number : length (map lent_place rows) ≡ length rows
    number = length-map rows lent_place

    got : (q : Place) → get part.image.members q ≡ cond (has_row (map lent_row rows) q) (get s.image.members q) (get (image_of_rows s.image.vector []).members q)
    got q =
        ap (λ (a : Image). get a.members q) image
        ∙ with_rows-at s.image (image_of_rows s.image.vector []) (map lent_row rows) (lent_have s rows piece.entries kept) q

-- a portion of the image of a set is a piece of it
pub portion_of_set : (T : List Operation) (s part : HeapImage) (spot next : Spot) (limits : PortionLimits) → IsPortion s spot limits part next → HoldsImage s T → IsPieceOf T part
portion_of_set T s part spot next limits is holds = record {
  world = subst (λ K. IsWorld K T) is.same.heaps holds.world;
  closed = holds.closed;
  vector = is.vector ∙ ap (λ (a : Image). a.vector) image;
  rows = λ q entry got. elim (in_or_not q is.handed) [
    | inl i ↦ ap (λ (a : Image). get a.members q) (sym image) ∙ sym (is.brought q i) ∙ got
    | inr not ↦ absurd (none-some entry (sym (is.others q not) ∙ got))
  ];
}
  where
    image : s.image ≡ image_of T part.heap
    image = holds.image ∙ ap (image_of T) is.same.heap
