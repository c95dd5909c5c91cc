-- Lists of few members: the map that one is, and what changes of one make of it.
use Rattle.std.proofs.Common.{ap, arith, refl, subst, sym, ◌∙◌}
use Rattle.std.proofs.lemmas.List.{length-append, length-map, map-append}
use Rattle.std.proofs.lemmas.List.Sorted.{IsPermutation-cons, IsPermutation-map, IsPermutation-refl, IsPermutation-swap, IsPermutation-swap_remove, IsPermutation-sym, IsPermutation-to_front, IsPermutation-trans}
use Rattle.std.proofs.lemmas.Option.{get_or_from_slice_get, none-some, same_Some, slice_get-map, slice_get_within}
use Rattle.std.specs.FinMap.{FinMap, empty, get, get-empty, insert, len, remove}
use Rattle.std.specs.List.{swap_remove}
use Rattle.std.specs.List.Sorted.{IsPermutation}
use Rattle.std.specs.Prelude.{List, None, Some, [], false, length, option_map, slice_get, slice_set, suc, zero, ℕ, ◌++◌, ◌<◌, ◌∷◌, ◌≡◌, ◌≤◌}
use Rattle.zq_model.specs.Image.{Entry, is_bare}
use Rattle.zq_posheap.proofs.Listings.{length-listing, listing, shuffled}
use Rattle.zq_posheap.specs.Listing.{IsListing}
use Rattle.zq_queue.proofs.Helds.{by_test, get_inserted, get_removed, same_at_each}
use Rattle.zq_queue.proofs.Indexes.{got_removed, inserted_again, listing_less, listing_more}
use Rattle.zq_queue.specs.Entries.{Entries, NoneIsBare, bytes_cmp}
use Rattle.zq_queue.specs.Few.{AreApart, AreFew, entries_by, names_in, row_of, rows_of}
use Rattle.zq_queue.specs.declared.few.Member.{Member}

-- maps with one list of pairs are one
pub one_of : {X : Type 0} (a b : FinMap bytes_cmp X) (pairs : List (X × List ℕ)) → IsListing a pairs → IsListing b pairs → a ≡ b
one_of a b pairs first second = same_at_each a b (λ q.
    elim (get a q) as (λ o. get a q ≡ o → o ≡ get b q) [
      | Some x ↦ λ got. sym ((second.has (x, q)).0 ((first.has (x, q)).1 got))
      | None ↦ λ none. (elim (get b q) as (λ o. get b q ≡ o → None ≡ o) [
        | None ↦ λ _. refl
        | Some x ↦ λ got. absurd (none-some x (sym none ∙ (first.has (x, q)).0 ((second.has (x, q)).1 got)))
      ] refl)
    ] refl)

-- a list of a map's rows is of members apart, and its map is that map
pub apart_of : (m : Entries) (list : List Member) → IsListing m (rows_of list) → AreApart list
apart_of m list lists = lists.once

pub is_map : (m : Entries) (list : List Member) → IsListing m (rows_of list) → entries_by list ≡ m
is_map m list lists = one_of (entries_by list) m (rows_of list) (listing (rows_of list) lists.once) lists

module _ (list : List Member) (apart : AreApart list) where
  pub lists_few : IsListing (entries_by list) (rows_of list)
  lists_few = listing (rows_of list) apart

  pub length-few : length list ≡ len (entries_by list)
  length-few = sym (length-map list row_of) ∙ length-listing (entries_by list) (rows_of list) lists_few

  -- what the list has of a name at its place
  pub got_at : (i : ℕ) (member : Member) → slice_get list i ≡ Some member → get (entries_by list) member.name ≡ Some member.entry
  got_at i member at =
      let here : slice_get (rows_of list) i ≡ Some (row_of member) = slice_get-map row_of list i ∙ ap (option_map row_of) at in
      (lists_few.has (row_of member)).0 (i, slice_get_within (rows_of list) i (row_of member) here, get_or_from_slice_get (rows_of list) i (row_of member) (row_of member) here)

  pub got_named : (i : ℕ) (member : Member) (name : List ℕ) → slice_get list i ≡ Some member → slice_get (names_in list) i ≡ Some name → get (entries_by list) name ≡ Some member.entry
  got_named i member name at named =
      let same : member.name ≡ name = same_Some member.name name (sym (slice_get-map (λ (m : Member). m.name) list i ∙ ap (option_map (λ (m : Member). m.name)) at) ∙ named) in
      ap (get (entries_by list)) (sym same) ∙ got_at i member at

-- no members
pub lists_none : IsListing {X = Entry} empty []
lists_none = record {
  has = λ pair. (λ at. absurd (omega (arith, at.1)), λ got. absurd (none-some pair.0 (sym (get-empty bytes_cmp pair.1) ∙ got)));
  once = λ i j d lo within. absurd (omega (arith, within));
}

-- ---- an element of a list before the others

module _ {X : Type 0} where
  -- what is at a place may stand first, and what is put there too
  pub first_or_put : (xs : List X) (i : ℕ) (x y : X) → slice_get xs i ≡ Some x → (rest : List X) × (IsPermutation xs (x ∷ rest)) × (IsPermutation (slice_set xs i y) (y ∷ rest))
  first_or_put [] i x y at = absurd (none-some x at)
  first_or_put (z ∷ xs) zero x y at = (xs, subst (λ w. IsPermutation (z ∷ xs) (w ∷ xs)) (same_Some z x at) (IsPermutation-refl (z ∷ xs)), IsPermutation-refl (y ∷ xs))
  first_or_put (z ∷ xs) (suc i) x y at =
      let r = first_or_put xs i x y at in (
        z ∷ r.0,
        IsPermutation-trans (z ∷ xs) (z ∷ x ∷ r.0) (x ∷ z ∷ r.0) (IsPermutation-cons z xs (x ∷ r.0) r.1) (IsPermutation-swap (z ∷ x ∷ r.0) (x ∷ z ∷ r.0) 0 1 (omega arith) (omega arith) refl),
        IsPermutation-trans (z ∷ slice_set xs i y) (z ∷ y ∷ r.0) (y ∷ z ∷ r.0) (IsPermutation-cons z (slice_set xs i y) (y ∷ r.0) r.2) (IsPermutation-swap (z ∷ y ∷ r.0) (y ∷ z ∷ r.0) 0 1 (omega arith) (omega arith) refl),
      )

-- ---- changes

module _ (m : Entries) (list : List Member) (lists : IsListing m (rows_of list)) where
  -- a member that is not there comes last
  pub lists_pushed : (member : Member) → get m member.name ≡ None → IsListing (insert m member.name member.entry) (rows_of (list ++ member ∷ []))
  lists_pushed member none =
      let more = listing_more m member.name member.entry (rows_of list) none lists in
      subst (IsListing (insert m member.name member.entry)) (sym (map-append row_of list (member ∷ [])))
      (shuffled (insert m member.name member.entry) (row_of member ∷ rows_of list) more (rows_of list ++ row_of member ∷ [])
      (IsPermutation-sym (rows_of list ++ row_of member ∷ []) (row_of member ∷ rows_of list) (IsPermutation-to_front (rows_of list) (row_of member))))

  -- one is taken out
  pub lists_removed : (i : ℕ) (member : Member) → slice_get list i ≡ Some member → IsListing (remove m member.name) (rows_of (swap_remove list i member))
  lists_removed i member at =
      let moved = IsPermutation-map row_of list (member ∷ swap_remove list i member)
      (IsPermutation-swap_remove list i member (slice_get_within list i member at) (sym (get_or_from_slice_get list i member member at))) in
      listing_less m member.name member.entry (rows_of (swap_remove list i member)) (shuffled m (rows_of list) lists (row_of member ∷ rows_of (swap_remove list i member)) moved)

  -- one has another entry
  pub lists_replaced : (i : ℕ) (member : Member) (entry : Entry) → slice_get list i ≡ Some member →
      IsListing (insert m member.name entry) (rows_of (slice_set list i (record { name = member.name; entry = entry })))
  lists_replaced i member entry at =
      let new : Member = record { name = member.name; entry = entry } in
      let r = first_or_put list i member new at in
      let less = listing_less m member.name member.entry (rows_of r.0) (shuffled m (rows_of list) lists (row_of member ∷ rows_of r.0) (IsPermutation-map row_of list (member ∷ r.0) r.1)) in
      let more = listing_more (remove m member.name) member.name entry (rows_of r.0) (got_removed m member.name member.entry) less in
      subst (λ n. IsListing n (rows_of (slice_set list i new))) (inserted_again m member.name entry)
      (shuffled (insert (remove m member.name) member.name entry) (row_of new ∷ rows_of r.0) more (rows_of (slice_set list i new))
      (IsPermutation-sym (rows_of (slice_set list i new)) (row_of new ∷ rows_of r.0) (IsPermutation-map row_of (slice_set list i new) (new ∷ r.0) r.2)))

-- ---- none is bare

module _ (m : Entries) (all : NoneIsBare m) (name : List ℕ) where
  pub bare-insert : (entry : Entry) → is_bare entry ≡ false → NoneIsBare (insert m name entry)
  bare-insert entry some member e got =
      by_test m name member (Some entry) (λ o. o ≡ Some e → is_bare e ≡ false)
      (λ _ s. subst (λ y. is_bare y ≡ false) (same_Some entry e s) some) (λ s. all member e s) (sym (get_inserted m name entry member) ∙ got)

  pub bare-remove : NoneIsBare (remove m name)
  bare-remove member e got =
      by_test m name member None (λ o. o ≡ Some e → is_bare e ≡ false)
      (λ _ s. absurd (none-some e s)) (λ s. all member e s) (sym (get_removed m name member) ∙ got)

pub bare-empty : NoneIsBare empty
bare-empty member e got = absurd (none-some e (sym (get-empty bytes_cmp member) ∙ got))

-- ---- changes of a list of few

module _ (list : List Member) (its : AreFew list) where
  abbrev m : Entries
  m = entries_by list

  pub few_pushed : (member : Member) → get m member.name ≡ None → is_bare member.entry ≡ false → length list < 32 → (new : List Member) → new ≡ list ++ member ∷ [] →
      AreFew new × (entries_by new ≡ insert m member.name member.entry)
  few_pushed member none some room new is = subst (λ xs. AreFew xs × (entries_by xs ≡ insert m member.name member.entry)) (sym is) (
    record {
      apart = lists.once;
      stand = subst NoneIsBare (sym same) (bare-insert m its.stand member.name member.entry some);
      few = omega (arith, room, length-append list (member ∷ []));
    },
    same,
  )
    where
      lists : IsListing (insert m member.name member.entry) (rows_of (list ++ member ∷ []))
      lists = lists_pushed m list (lists_few list its.apart) member none

      same : entries_by (list ++ member ∷ []) ≡ insert m member.name member.entry
      same = is_map (insert m member.name member.entry) (list ++ member ∷ []) lists

  pub few_removed : (i : ℕ) (member : Member) → slice_get list i ≡ Some member → (new : List Member) → new ≡ swap_remove list i member → length new ≤ length list →
      AreFew new × (entries_by new ≡ remove m member.name)
  few_removed i member at new is fewer =
      let lists : IsListing (remove m member.name) (rows_of new) = subst (λ xs. IsListing (remove m member.name) (rows_of xs)) (sym is) (lists_removed m list (lists_few list its.apart) i member at) in
      let same : entries_by new ≡ remove m member.name = is_map (remove m member.name) new lists in (
        record {
          apart = lists.once;
          stand = subst NoneIsBare (sym same) (bare-remove m its.stand member.name);
          few = omega (arith, fewer, its.few);
        },
        same,
      )

  pub few_replaced : (i : ℕ) (member : Member) (entry : Entry) → slice_get list i ≡ Some member → is_bare entry ≡ false → (new : List Member) →
      new ≡ slice_set list i (record { name = member.name; entry = entry }) → length new ≡ length list →
      AreFew new × (entries_by new ≡ insert m member.name entry)
  few_replaced i member entry at some new is as_many =
      let lists : IsListing (insert m member.name entry) (rows_of new) = subst (λ xs. IsListing (insert m member.name entry) (rows_of xs)) (sym is) (lists_replaced m list (lists_few list its.apart) i member entry at) in
      let same : entries_by new ≡ insert m member.name entry = is_map (insert m member.name entry) new lists in (
        record {
          apart = lists.once;
          stand = subst NoneIsBare (sym same) (bare-insert m its.stand member.name entry some);
          few = omega (arith, as_many, its.few);
        },
        same,
      )

-- no members are few
pub few_none : AreFew []
few_none = record {
  apart = λ i j d lo within. absurd (omega (arith, within));
  stand = subst NoneIsBare (sym (is_map empty [] lists_none)) bare-empty;
  few = omega arith;
}
