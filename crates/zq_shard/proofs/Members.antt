-- The members of a heap, from the queues of its keys.

use Rattle.std.proofs.Common.{Bool, Equal, Greater, Less, List, None, Option, Ordering, Some, [], ap, ap₂, cond, false, map, refl, sym, true, unwrap_or, ℕ, ◌&&◌, ◌||◌, ◌∙◌, ◌∷◌, ◌≡◌}
use Rattle.std.proofs.lemmas.Bool.{or_parts}
use Rattle.std.proofs.lemmas.Cmp.{nat_list_cmp_total}
use Rattle.std.proofs.lemmas.List.Folds.{list_any-append}
use Rattle.std.proofs.lemmas.Map.Lookups.{exact_bytes}
use Rattle.std.specs.FinMap.{find, get, get-empty, keys, same_map}
use Rattle.std.specs.List.{flat_map, list_any}
use Rattle.std.specs.Ordering.{eq_by_cmp, is_eq, ordering_then}
use Rattle.zq_model.proofs.Entries.{get-put_entry}
use Rattle.zq_model.proofs.Maps.{get-map_on_all, get_without, place_exact, place_total, same_key}
use Rattle.zq_model.specs.Image.{Entry, Members, Place, entry_at, no_additions, place_cmp, put_entry, unless_bare}
use Rattle.zq_queue.proofs.Built.{get-set_entry}
use Rattle.zq_queue.specs.Entries.{bytes_cmp, entry_in, set_entry}
use Rattle.zq_queue.specs.Queued.{Queued}
use Rattle.zq_shard.specs.Queues.{HasAt, entries_at, entries_in, entries_or_none, members_in, places_of}

both_equal : (r s : Ordering) → is_eq (ordering_then r s) ≡ (is_eq r && is_eq s)
both_equal Less s = refl
both_equal Equal s = refl
both_equal Greater s = refl

pub same_place : (p q : Place) → eq_by_cmp place_cmp p q ≡ (eq_by_cmp bytes_cmp p.0 q.0 && eq_by_cmp bytes_cmp p.1 q.1)
same_place p q = both_equal (bytes_cmp p.0 q.0) (bytes_cmp p.1 q.1)

-- a place that is not among a key's is not among its members
absent_member : (q : Place) (key : List ℕ) (members : List (List ℕ)) → eq_by_cmp bytes_cmp q.0 key ≡ true →
    list_any (eq_by_cmp place_cmp q) (map (λ m. (key, m)) members) ≡ false → list_any (eq_by_cmp bytes_cmp q.1) members ≡ false
absent_member q key [] e away = refl
absent_member q key (m ∷ members) e away =
    let parts : (eq_by_cmp place_cmp q (key, m) ≡ false) × (list_any (eq_by_cmp place_cmp q) (map (λ m. (key, m)) members) ≡ false) = or_parts _ _ away in
    let here : eq_by_cmp bytes_cmp q.1 m ≡ false = ap (λ b. b && eq_by_cmp bytes_cmp q.1 m) (sym e) ∙ sym (same_place q (key, m)) ∙ parts.0 in
    ap₂ (λ a b. a || b) here (absent_member q key members e parts.1)

absent : (queues : List (List ℕ × Queued)) (q : Place) → list_any (eq_by_cmp place_cmp q) (flat_map places_of queues) ≡ false → get (entries_in queues q.0) q.1 ≡ None
absent [] q away = get-empty bytes_cmp q.1
absent (e ∷ queues) q away =
    let parts : (list_any (eq_by_cmp place_cmp q) (places_of e) ≡ false) × (list_any (eq_by_cmp place_cmp q) (flat_map places_of queues) ≡ false)
    = or_parts _ _ (sym (list_any-append (eq_by_cmp place_cmp q) (places_of e) (flat_map places_of queues)) ∙ away) in
    elim (eq_by_cmp bytes_cmp q.0 e.0) as (λ b. eq_by_cmp bytes_cmp q.0 e.0 ≡ b → get (entries_or_none (cond b (Some e.1) (find bytes_cmp q.0 queues))) q.1 ≡ None) [
      | true ↦ λ here. get_without nat_list_cmp_total exact_bytes e.1.entries q.1 (absent_member q e.0 (keys e.1.entries) here parts.0)
      | false ↦ λ there. absent queues q parts.1
    ] refl

-- what a heap has at a place is what the key's queue has of the member
pub get-members_in : (queues : List (List ℕ × Queued)) (q : Place) → get (members_in queues) q ≡ get (entries_in queues q.0) q.1
get-members_in queues q = get-map_on_all place_total place_exact (λ p. get (entries_in queues p.0) p.1) (flat_map places_of queues) q (absent queues q)

pub entry_at-members_in : (queues : List (List ℕ × Queued)) (q : Place) → entry_at (members_in queues) q ≡ entry_in (entries_in queues q.0) q.1
entry_at-members_in queues q = ap (λ r. unwrap_or r no_additions) (get-members_in queues q)

-- ---- the members of one key

not_named : (key member : List ℕ) (places : List Place) → list_any (eq_by_cmp bytes_cmp member) (map (λ q. q.1) places) ≡ false → list_any (eq_by_cmp place_cmp (key, member)) places ≡ false
not_named key member [] away = refl
not_named key member (q ∷ places) away =
    let parts : (eq_by_cmp bytes_cmp member q.1 ≡ false) × (list_any (eq_by_cmp bytes_cmp member) (map (λ q. q.1) places) ≡ false) = or_parts _ _ away in
    ap₂ (λ a b. a || b) (same_place (key, member) q ∙ both_or_none (eq_by_cmp bytes_cmp key q.0) (eq_by_cmp bytes_cmp member q.1) parts.0) (not_named key member places parts.1)
  where
    both_or_none : (a b : Bool) → b ≡ false → (a && b) ≡ false
    both_or_none true b e = e
    both_or_none false b e = refl

-- what a key's entries have of a member is what the heap has at the place
pub get-entries_at : (members : Members) (key member : List ℕ) → get (entries_at members key) member ≡ get members (key, member)
get-entries_at members key member =
    get-map_on_all nat_list_cmp_total exact_bytes (λ m. get members (key, m)) (map (λ q. q.1) (keys members)) member
    (λ away. get_without place_total place_exact members (key, member) (not_named key member (keys members) away))

-- what the members of a heap have of a key is what the key's queue has
pub entries_at-members_in : (queues : List (List ℕ × Queued)) (key : List ℕ) → entries_at (members_in queues) key ≡ entries_in queues key
entries_at-members_in queues key =
    same_map nat_list_cmp_total exact_bytes (entries_at (members_in queues) key) (entries_in queues key)
    (λ member. get-entries_at (members_in queues) key member ∙ get-members_in queues (key, member))

-- ---- a change at one key

-- where one key's queue has another entry of a member, and the other keys keep theirs, so have the members
pub members_set : (k member : List ℕ) (entry : Entry) (w : Option Queued) (old new : List (List ℕ × Queued)) → HasAt k w old new →
    entries_or_none w ≡ set_entry (entries_in old k) member entry → members_in new ≡ put_entry (members_in old) (k, member) entry
members_set k member entry w old new has is =
    same_map place_total place_exact (members_in new) (put_entry (members_in old) (k, member) entry) (λ p.
    get-members_in new p ∙ ap (λ r. get (entries_or_none r) p.1) (has p.0)
    ∙ (elim (eq_by_cmp bytes_cmp p.0 k) as (λ b. eq_by_cmp bytes_cmp p.0 k ≡ b →
    get (entries_or_none (cond b w (find bytes_cmp p.0 old))) p.1 ≡ cond (b && eq_by_cmp bytes_cmp p.1 member) (unless_bare entry) (get (members_in old) p)) [
      | true ↦ λ here.
          ap (λ es. get es p.1) is ∙ get-set_entry (entries_in old k) member entry p.1
          ∙ ap (cond (eq_by_cmp bytes_cmp p.1 member) (unless_bare entry)) (ap (λ q. get (entries_in old q) p.1) (sym (same_key exact_bytes p.0 k here)) ∙ sym (get-members_in old p))
      | false ↦ λ there. sym (get-members_in old p)
    ] refl)
    ∙ ap (λ b. cond b (unless_bare entry) (get (members_in old) p)) (sym (same_place p (k, member)))
    ∙ sym (get-put_entry (members_in old) (k, member) entry p))
