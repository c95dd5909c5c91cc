-- The entries of a heap, key by key.

use Rattle.std.proofs.Common.{Bool, Bor, Less, List, None, Option, Some, T, [], ap, ap₂, append_assoc, append-nil, cond, false, get_or, is_some, length, map, refl, subst, sym, take, true, ℕ, ◌&&◌, ◌+◌, ◌++◌, ◌<◌, ◌||◌, ◌∙◌, ◌∷◌, ◌≡◌}
use Rattle.std.proofs.lemmas.Bool.{and_from, and_parts}
use Rattle.std.proofs.lemmas.Cmp.{nat_list_cmp_total, tied_itself}
use Rattle.std.proofs.lemmas.List.{map-append, take_more}
use Rattle.std.proofs.lemmas.Map.Lookups.{exact_bytes}
use Rattle.std.specs.FinMap.{empty, entries, entries_sorted, find, get, get-empty, get-entries, is_sorted, len-empty, len-entries}
use Rattle.std.specs.FinMap.Entries.{below_all, same_entries}
use Rattle.std.specs.List.{AllByRecursion, flat_map, list_any}
use Rattle.std.specs.List.Sorted.{IsStrictlySortedBy}
use Rattle.std.specs.Option.{option_or}
use Rattle.std.specs.Ordering.{eq_by_cmp, is_lt, ordering_then}
use Rattle.zq_model.proofs.Maps.{place_exact, place_total, same_key}
use Rattle.zq_model.proofs.Rising.{is_true}
use Rattle.zq_model.specs.Image.{Entry, Place, place_cmp}
use Rattle.zq_queue.specs.Entries.{Entries, bytes_cmp}
use Rattle.zq_queue.specs.Queued.{Queued}
use Rattle.zq_shard.proofs.AtKeys.{nil_from_length}
use Rattle.zq_shard.proofs.Members.{get-members_in, same_place}
use Rattle.zq_model.specs.Rows.{Row, row_of}
use Rattle.zq_queue.specs.Lent.{lent_entry}
use Rattle.zq_shard.specs.Listed.{block, lent_key}
use Rattle.zq_shard.specs.Queues.{entries_in, entries_or_none, members_in}

abbrev placed : List ℕ → List (List ℕ × Entry) → List (Place × Entry)
placed k es = map (λ e. ((k, e.0), e.1)) es

-- the entries of these keys, one after another
abbrev pub blocks : (List ℕ → Entries) → List (List ℕ) → List (Place × Entry)
blocks held ks = flat_map (λ k. block k (held k)) ks

-- ---- what is found

find-placed : (k : List ℕ) (es : List (List ℕ × Entry)) (p : Place) → find place_cmp p (placed k es) ≡ cond (eq_by_cmp bytes_cmp p.0 k) (find bytes_cmp p.1 es) None
find-placed k [] p = elim (eq_by_cmp bytes_cmp p.0 k) as (λ b. ◌≡◌ {A = Option Entry} None (cond b None None)) [ true ↦ refl | false ↦ refl ]
find-placed k (e ∷ es) p =
    ap₂ (λ b r. cond b (Some e.1) r) (same_place p (k, e.0)) (find-placed k es p)
    ∙ (elim (eq_by_cmp bytes_cmp p.0 k) as (λ b. cond (b && eq_by_cmp bytes_cmp p.1 e.0) (Some e.1) (cond b (find bytes_cmp p.1 es) None) ≡ cond b (find bytes_cmp p.1 (e ∷ es)) None) [ true ↦ refl | false ↦ refl ])

find-append : (p : Place) (xs ys : List (Place × Entry)) → find place_cmp p (xs ++ ys) ≡ option_or (find place_cmp p xs) (find place_cmp p ys)
find-append p [] ys = refl
find-append p (e ∷ xs) ys =
    elim (eq_by_cmp place_cmp p e.0) as (λ b. cond b (Some e.1) (find place_cmp p (xs ++ ys)) ≡ option_or (cond b (Some e.1) (find place_cmp p xs)) (find place_cmp p ys)) [
      | true ↦ refl
      | false ↦ find-append p xs ys
    ]

or_none : (o : Option Entry) (b : Bool) → option_or o (cond b o None) ≡ o
or_none None true = refl
or_none None false = refl
or_none (Some e) b = refl

module _ (held : List ℕ → Entries) where
  find-blocks : (ks : List (List ℕ)) (p : Place) → find place_cmp p (blocks held ks) ≡ cond (list_any (eq_by_cmp bytes_cmp p.0) ks) (get (held p.0) p.1) None
  find-blocks [] p = refl
  find-blocks (k ∷ ks) p =
      find-append p (block k (held k)) (blocks held ks)
      ∙ ap₂ option_or (find-placed k (entries (held k)) p) (find-blocks ks p)
      ∙ (elim (eq_by_cmp bytes_cmp p.0 k) as (λ b. eq_by_cmp bytes_cmp p.0 k ≡ b →
      option_or (cond b (find bytes_cmp p.1 (entries (held k))) None) (cond (list_any (eq_by_cmp bytes_cmp p.0) ks) (get (held p.0) p.1) None)
      ≡ cond (b || list_any (eq_by_cmp bytes_cmp p.0) ks) (get (held p.0) p.1) None) [
        | true ↦ λ here.
            let its : find bytes_cmp p.1 (entries (held k)) ≡ get (held p.0) p.1 = sym (get-entries (held k) p.1) ∙ ap (λ q. get (held q) p.1) (sym (same_key exact_bytes p.0 k here)) in
            ap (λ o. option_or o (cond (list_any (eq_by_cmp bytes_cmp p.0) ks) (get (held p.0) p.1) None)) its ∙ or_none (get (held p.0) p.1) (list_any (eq_by_cmp bytes_cmp p.0) ks)
        | false ↦ λ away. refl
      ] refl)

-- ---- the order

below_append : (q : Place) (xs ys : List (Place × Entry)) → below_all place_cmp q xs ≡ true → below_all place_cmp q ys ≡ true → below_all place_cmp q (xs ++ ys) ≡ true
below_append q [] ys first second = second
below_append q (x ∷ xs) ys first second =
    let parts = and_parts (is_lt (place_cmp q x.0)) (below_all place_cmp q xs) first in
    and_from _ _ parts.0 (below_append q xs ys parts.1 second)

below_placed : (k m k' : List ℕ) (es : List (List ℕ × Entry)) → bytes_cmp k k' ≡ Less → below_all place_cmp (k, m) (placed k' es) ≡ true
below_placed k m k' [] less = refl
below_placed k m k' (e ∷ es) less = and_from _ _ (ap (λ r. is_lt (ordering_then r (bytes_cmp m e.0))) less) (below_placed k m k' es less)

below_same : (k m : List ℕ) (es : List (List ℕ × Entry)) → below_all bytes_cmp m es ≡ true → below_all place_cmp (k, m) (placed k es) ≡ true
below_same k m [] below = refl
below_same k m (e ∷ es) below =
    let parts = and_parts (is_lt (bytes_cmp m e.0)) (below_all bytes_cmp m es) below in
    and_from _ _ (ap (λ r. is_lt (ordering_then r (bytes_cmp m e.0))) (tied_itself nat_list_cmp_total k) ∙ parts.0) (below_same k m es parts.1)

sorted_append : (k : List ℕ) (es : List (List ℕ × Entry)) (ys : List (Place × Entry)) → is_sorted bytes_cmp es ≡ true → is_sorted place_cmp ys ≡ true →
    ((m : List ℕ) → below_all place_cmp (k, m) ys ≡ true) → is_sorted place_cmp (placed k es ++ ys) ≡ true
sorted_append k [] ys first second below = second
sorted_append k (e ∷ es) ys first second below =
    let parts = and_parts (below_all bytes_cmp e.0 es) (is_sorted bytes_cmp es) first in
    and_from _ _ (below_append (k, e.0) (placed k es) ys (below_same k e.0 es parts.0) (below e.0)) (sorted_append k es ys parts.1 second below)

module _ (held : List ℕ → Entries) where
  below_blocks : (k m : List ℕ) (ks : List (List ℕ)) → AllByRecursion (λ y. bytes_cmp k y ≡ Less) ks → below_all place_cmp (k, m) (blocks held ks) ≡ true
  below_blocks k m [] all = refl
  below_blocks k m (k' ∷ ks) all = below_append (k, m) (block k' (held k')) (blocks held ks) (below_placed k m k' (entries (held k')) all.0) (below_blocks k m ks all.1)

  blocks_sorted : (ks : List (List ℕ)) → IsStrictlySortedBy bytes_cmp ks → is_sorted place_cmp (blocks held ks) ≡ true
  unfolding IsStrictlySortedBy
  blocks_sorted [] up = refl
  blocks_sorted (k ∷ ks) up =
      sorted_append k (entries (held k)) (blocks held ks) (is_true _ (entries_sorted (held k))) (blocks_sorted ks up.1) (λ m. below_blocks k m ks up.0)

-- ---- all keys

-- the entries of a heap are those of its keys in order
pub entries_of_blocks : (queues : List (List ℕ × Queued)) (held : List ℕ → Entries) (ks : List (List ℕ)) → ((q : List ℕ) → held q ≡ entries_in queues q) → IsStrictlySortedBy bytes_cmp ks →
    ((q : List ℕ) → list_any (eq_by_cmp bytes_cmp q) ks ≡ is_some (find bytes_cmp q queues)) → blocks held ks ≡ entries (members_in queues)
entries_of_blocks queues held ks same up all =
    same_entries place_cmp place_total place_exact (blocks held ks) (entries (members_in queues)) (subst T (sym (blocks_sorted held ks up)) tt) (entries_sorted (members_in queues)) (λ p.
    find-blocks held ks p ∙ by p (find bytes_cmp p.0 queues) refl ∙ sym (get-members_in queues p) ∙ get-entries (members_in queues) p)
  where
    by : (p : Place) (o : Option Queued) → find bytes_cmp p.0 queues ≡ o → cond (list_any (eq_by_cmp bytes_cmp p.0) ks) (get (held p.0) p.1) None ≡ get (entries_in queues p.0) p.1
    by p (Some queue) is =
        ap (λ b. cond b (get (held p.0) p.1) None) (all p.0 ∙ ap is_some is)
        ∙ ap (λ es. get es p.1) (same p.0)
    by p None none =
        ap (λ b. cond b (get (held p.0) p.1) None) (all p.0 ∙ ap is_some none) ∙ sym (ap (λ r. get (entries_or_none r) p.1) none ∙ get-empty bytes_cmp p.1)

-- ---- one key more, and its rows

flat_more : {X Y : Type 0} (f : X → List Y) (xs : List X) (y : X) → flat_map f (xs ++ y ∷ []) ≡ flat_map f xs ++ f y
flat_more f [] y = append-nil (f y)
flat_more f (x ∷ xs) y = ap (λ ys. f x ++ ys) (flat_more f xs y) ∙ sym (append_assoc (f x) (flat_map f xs) (f y))

pub rows_more : (held : List ℕ → Entries) (items : List (Bor (List ℕ))) (i : ℕ) (d : Bor (List ℕ)) (old new : List Row) → i < length items →
    old ≡ map row_of (blocks held (map lent_key (take i items))) →
    new ≡ old ++ map row_of (block (lent_key (get_or items i d)) (held (lent_key (get_or items i d)))) →
    new ≡ map row_of (blocks held (map lent_key (take (i + 1) items)))
rows_more held items i d old new below was is =
    let key = get_or items i d in
    let keys : map lent_key (take (i + 1) items) ≡ map lent_key (take i items) ++ lent_key key ∷ []
    = ap (map lent_key) (take_more items i d below) ∙ map-append lent_key (take i items) (key ∷ []) in
    is ∙ ap (λ xs. xs ++ map row_of (block (lent_key key) (held (lent_key key)))) was
    ∙ sym (map-append row_of (blocks held (map lent_key (take i items))) (block (lent_key key) (held (lent_key key))))
    ∙ ap (map row_of) (sym (flat_more (λ k. block k (held k)) (map lent_key (take i items)) (lent_key key)))
    ∙ ap (λ ks. map row_of (blocks held ks)) (sym keys)

-- a key's members, one more of them
pub members_more : (key : List ℕ) (items : List (Bor (List ℕ) × Bor Entry)) (i : ℕ) (d : Bor (List ℕ) × Bor Entry) (begun old new : List Row) → i < length items →
    old ≡ begun ++ map row_of (placed key (map lent_entry (take i items))) →
    new ≡ old ++ row_of ((key, (lent_entry (get_or items i d)).0), (lent_entry (get_or items i d)).1) ∷ [] →
    new ≡ begun ++ map row_of (placed key (map lent_entry (take (i + 1) items)))
members_more key items i d begun old new below was is =
    let item = get_or items i d in
    let f : Bor (List ℕ) × Bor Entry → Row = λ x. row_of ((key, (lent_entry x).0), (lent_entry x).1) in
    is ∙ ap (λ xs. xs ++ f item ∷ []) (was ∙ ap (λ xs. begun ++ xs) (fused (take i items)))
    ∙ append_assoc begun (map f (take i items)) (f item ∷ [])
    ∙ ap (λ xs. begun ++ xs) (sym (map-append f (take i items) (item ∷ [])) ∙ ap (map f) (sym (take_more items i d below)) ∙ sym (fused (take (i + 1) items)))
  where
    fused : (xs : List (Bor (List ℕ) × Bor Entry)) → map row_of (placed key (map lent_entry xs)) ≡ map (λ x. row_of ((key, (lent_entry x).0), (lent_entry x).1)) xs
    fused [] = refl
    fused (x ∷ xs) = ap (λ rs. row_of ((key, (lent_entry x).0), (lent_entry x).1) ∷ rs) (fused xs)

pub no_block : (key : List ℕ) (es : Entries) → es ≡ empty → block key es ≡ []
no_block key es is = ap (placed key) (ap entries is ∙ no_entries)
  where
    no_entries : entries (empty {K = List ℕ} {X = Entry} {R = bytes_cmp}) ≡ []
    no_entries = nil_from_length _ (sym (len-entries (empty {K = List ℕ} {X = Entry} {R = bytes_cmp})) ∙ len-empty bytes_cmp Entry)
