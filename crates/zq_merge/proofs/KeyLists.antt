-- Rows and the keys that they make.

use Rattle.std.proofs.Common.{ap, cond, Equal, Greater, inl, inr, Less, List, map, None, Option, Ordering, refl, Some, subst, sym, true, [], ℕ, ◌++◌, ◌⊎◌, ◌∙◌, ◌∷◌, ◌≡◌, ◌≢◌}
use Rattle.std.proofs.lemmas.Bool.{cases_Bool}
use Rattle.std.proofs.lemmas.Cmp.{nat_list_cmp_total, tied_itself}
use Rattle.std.proofs.lemmas.List.Sums.{fold-append}
use Rattle.std.proofs.lemmas.Map.Lookups.{exact_bytes}
use Rattle.std.specs.Cmp.Lexicographic.{pointwise, slice_cmp}
use Rattle.std.specs.List.{fold}
use Rattle.std.specs.Ordering.{is_lt, nat_cmp}
use Rattle.std.specs.Prelude.{nat_eq}
use Rattle.zq_merge.specs.Built.{AreKeysAbove, AreMembersAbove}
use Rattle.zq_merge.specs.Fields.{last_key, last_member}
use Rattle.zq_merge.specs.Keys.{KeyRows, MemberRow, by_key, key_rows, member_of, row_in, rows_in, with_row}
use Rattle.zq_merge.specs.Reading.{is_after}
use Rattle.zq_model.proofs.Listing.{in_flat_map_from, in_map_from}
use Rattle.zq_model.proofs.Membership.{in_union}
use Rattle.zq_model.proofs.Places.{bytes_same, same_bytes}
use Rattle.zq_model.proofs.Rising.{less_from}
use Rattle.zq_model.specs.Image.{Place, place_cmp}
use Rattle.zq_model.specs.Rows.{AreInOrder, Row, place_in}
use Rattle.zq_model.specs.Sets.{IsIn}

abbrev bytes_cmp : List ℕ → List ℕ → Ordering
bytes_cmp = slice_cmp nat_cmp

-- ---- the order of places

same_cmp : (x y : List ℕ) → x ≡ y → bytes_cmp x y ≡ Equal
same_cmp x y e = ap (bytes_cmp x) (sym e) ∙ tied_itself nat_list_cmp_total x

-- a lower key is lower
pub lower_key : (p q : Place) → bytes_cmp p.0 q.0 ≡ Less → place_cmp p q ≡ Less
lower_key p q less = rw less refl

-- of one key the lower member is lower
pub lower_member : (p q : Place) → p.0 ≡ q.0 → bytes_cmp p.1 q.1 ≡ Less → place_cmp p q ≡ Less
lower_member p q same less = let tied = same_cmp p.0 q.0 same in rw (tied, less) refl

pub member_lower : (p q : Place) → p.0 ≡ q.0 → place_cmp p q ≡ Less → bytes_cmp p.1 q.1 ≡ Less
member_lower p q same less = let tied = same_cmp p.0 q.0 same in rw tied at less

pub key_lower : (p q : Place) → p.0 ≢ q.0 → place_cmp p q ≡ Less → bytes_cmp p.0 q.0 ≡ Less
key_lower p q other less =
    elim (bytes_cmp p.0 q.0) as (λ r. bytes_cmp p.0 q.0 ≡ r → bytes_cmp p.0 q.0 ≡ Less) [
      | Less ↦ λ is. is
      | Equal ↦ λ is. absurd (other (exact_bytes p.0 q.0 is))
      | Greater ↦ λ is. absurd (let above : ◌≡◌ {A = Ordering} Greater Less = rw is at less in cc)
    ] refl

not_below_itself : (x y : List ℕ) → x ≡ y → bytes_cmp x y ≡ Less → ⊥
not_below_itself x y same less = let tied = same_cmp x y same in cc

-- ---- members and keys that rise

pub last_member_more : (members : List MemberRow) (m : MemberRow) → last_member (members ++ m ∷ []) ≡ Some m.member
last_member_more members m = fold-append (λ last n. Some n.member) None members (m ∷ [])

pub last_key_more : (keys : List KeyRows) (k : KeyRows) → last_key (keys ++ k ∷ []) ≡ Some k.key
last_key_more keys k = fold-append (λ last n. Some n.key) None keys (k ∷ [])

members_push : (before : Option (List ℕ)) (members : List MemberRow) (m : MemberRow) → AreMembersAbove before members → is_after (fold (λ last n. Some n.member) before members) m.member ≡ true → AreMembersAbove before (members ++ m ∷ [])
members_push before [] m above after = (after, tt)
members_push before (n ∷ members) m above after = (above.0, members_push (Some n.member) members m above.1 after)

pub members_more : (members : List MemberRow) (m : MemberRow) → AreMembersAbove None members → is_after (last_member members) m.member ≡ true → AreMembersAbove None (members ++ m ∷ [])
members_more members m above after = members_push None members m above after

keys_push : (before : Option (List ℕ)) (keys : List KeyRows) (k : KeyRows) → AreKeysAbove before keys → is_after (fold (λ last n. Some n.key) before keys) k.key ≡ true → k.members ≢ [] → AreMembersAbove None k.members → AreKeysAbove before (keys ++ k ∷ [])
keys_push before [] k above after some members = (after, (some, (members, tt)))
keys_push before (n ∷ keys) k above after some members = (above.0, (above.1.0, (above.1.1.0, keys_push (Some n.key) keys k above.1.1.1 after some members)))

pub keys_more : (keys : List KeyRows) (k : KeyRows) → AreKeysAbove None keys → is_after (last_key keys) k.key ≡ true → k.members ≢ [] → AreMembersAbove None k.members → AreKeysAbove None (keys ++ k ∷ [])
keys_more keys k above after some members = keys_push None keys k above after some members

after_less : (x y : List ℕ) → is_after (Some x) y ≡ true → bytes_cmp x y ≡ Less
after_less x y e = less_from (bytes_cmp x y) e

less_after : (x y : List ℕ) → bytes_cmp x y ≡ Less → is_after (Some x) y ≡ true
less_after x y e = ap is_lt e

members_above : (x : List ℕ) (members : List MemberRow) → AreMembersAbove (Some x) members → (m : MemberRow) → IsIn m members → bytes_cmp x m.member ≡ Less
members_above x [] above m here = absurd here
members_above x (n ∷ members) above m (inl same) = subst (λ o. bytes_cmp x o.member ≡ Less) same (after_less x n.member above.0)
members_above x (n ∷ members) above m (inr later) =
    nat_list_cmp_total.trans x n.member m.member (after_less x n.member above.0) (members_above n.member members above.1 m later)

keys_above : (x : List ℕ) (keys : List KeyRows) → AreKeysAbove (Some x) keys → (k : KeyRows) → IsIn k keys → bytes_cmp x k.key ≡ Less
keys_above x [] above k here = absurd here
keys_above x (n ∷ keys) above k (inl same) = subst (λ o. bytes_cmp x o.key ≡ Less) same (after_less x n.key above.0)
keys_above x (n ∷ keys) above k (inr later) =
    nat_list_cmp_total.trans x n.key k.key (after_less x n.key above.0) (keys_above n.key keys above.1.1.1 k later)

-- ---- from keys to rows

key_in_order : (key : List ℕ) (before : Option (List ℕ)) (members : List MemberRow) → AreMembersAbove before members → AreInOrder (map (row_in key) members)
key_in_order key before [] above = tt
key_in_order key before (m ∷ members) above = (
  λ later here.
      let from = in_map_from (row_in key) later members here in
      let less = members_above m.member members above.1 from.0 from.1 in
      subst (λ r. place_cmp (key, m.member) (place_in r) ≡ Less) from.2 (lower_member (key, m.member) (key, from.0.member) refl less),
  key_in_order key (Some m.member) members above.1,
)

-- rows in order, where each of the first is below each of the others
in_order_append : (xs ys : List Row) → AreInOrder xs → AreInOrder ys → ((x y : Row) → IsIn x xs → IsIn y ys → place_cmp (place_in x) (place_in y) ≡ Less) → AreInOrder (xs ++ ys)
in_order_append [] ys a b below = b
in_order_append (x ∷ xs) ys a b below = (
  λ later here. elim (in_union later xs ys here) [
    | inl first ↦ a.0 later first
    | inr second ↦ below x later (inl refl) second
  ],
  in_order_append xs ys a.1 b (λ w y here there. below w y (inr here) there),
)

pub keys_in_order : (before : Option (List ℕ)) (keys : List KeyRows) → AreKeysAbove before keys → AreInOrder (rows_in keys)
keys_in_order before [] above = tt
keys_in_order before (k ∷ keys) above =
    in_order_append (key_rows k) (rows_in keys) (key_in_order k.key None k.members above.1.1.0) (keys_in_order (Some k.key) keys above.1.1.1)
    (λ x y here there.
    let first = in_map_from (row_in k.key) x k.members here in
    let second = in_flat_map_from key_rows y keys there in
    let third = in_map_from (row_in second.0.key) y second.0.members second.2 in
    let less = keys_above k.key keys above.1.1.1 second.0 second.1 in
    let keyed : bytes_cmp x.key y.key ≡ Less = ap (λ r. bytes_cmp r.key y.key) (sym first.2) ∙ (ap (λ r. bytes_cmp k.key r.key) (sym third.2) ∙ less) in
    lower_key (place_in x) (place_in y) keyed)

-- ---- from rows to keys

pub same_key : (row : Row) (k : KeyRows) (keys : List KeyRows) → row.key ≡ k.key → with_row row (k ∷ keys) ≡ record { key = k.key; members = member_of row ∷ k.members } ∷ keys
same_key row k keys same =
    ap (λ b. cond b (record { key = k.key; members = member_of row ∷ k.members } ∷ keys) (record { key = row.key; members = member_of row ∷ [] } ∷ (k ∷ keys))) (bytes_same row.key k.key same)

pub other_key : (row : Row) (k : KeyRows) (keys : List KeyRows) → row.key ≢ k.key → with_row row (k ∷ keys) ≡ record { key = row.key; members = member_of row ∷ [] } ∷ (k ∷ keys)
other_key row k keys other =
    elim (cases_Bool (pointwise nat_eq row.key k.key)) [
      | inl equal ↦ absurd (other (same_bytes row.key k.key equal))
      | inr unequal ↦ ap (λ b. cond b (record { key = k.key; members = member_of row ∷ k.members } ∷ keys) (record { key = row.key; members = member_of row ∷ [] } ∷ (k ∷ keys))) unequal
    ]

pub is_same_key : (row : Row) (k : KeyRows) → (row.key ≡ k.key) ⊎ (row.key ≢ k.key)
is_same_key row k = elim (cases_Bool (pointwise nat_eq row.key k.key)) [
  | inl equal ↦ inl (same_bytes row.key k.key equal)
  | inr unequal ↦ inr (λ same. let equal = bytes_same row.key k.key same in cc)
]

rows_with : (row : Row) (keys : List KeyRows) → rows_in (with_row row keys) ≡ row ∷ rows_in keys
rows_with row [] = refl
rows_with row (k ∷ keys) = elim (is_same_key row k) [
  | inl same ↦ ap rows_in (same_key row k keys same) ∙ ap (λ key. record { key = key; member = row.member; additions = row.additions } ∷ rows_in (k ∷ keys)) (sym same)
  | inr other ↦ ap rows_in (other_key row k keys other)
]

-- rows, key by key, are the same rows
pub rows_by_key : (rows : List Row) → rows_in (by_key rows) ≡ rows
rows_by_key [] = refl
rows_by_key (row ∷ rows) = rows_with row (by_key rows) ∙ ap (λ xs. row ∷ xs) (rows_by_key rows)

-- a row before keys whose first key has these members, below all of their rows
with_above_first : (row : Row) (key : List ℕ) (members : List MemberRow) (keys : List KeyRows) → ((later : Row) → IsIn later (rows_in (record { key = key; members = members } ∷ keys)) → place_cmp (place_in row) (place_in later) ≡ Less) → AreKeysAbove None (record { key = key; members = members } ∷ keys) → AreKeysAbove None (with_row row (record { key = key; members = members } ∷ keys))
with_above_first row key [] keys below above = absurd (above.1.0 refl)
with_above_first row key (m ∷ members) keys below above =
    let k : KeyRows = record { key = key; members = m ∷ members } in
    let less : place_cmp (place_in row) (key, m.member) ≡ Less = below (row_in key m) (inl refl) in
    elim (is_same_key row k) [
      | inl same ↦
          subst (AreKeysAbove None) (sym (same_key row k keys same))
          (refl, (λ e. absurd (cc), ((refl, (less_after row.member m.member (member_lower (place_in row) (key, m.member) same less), above.1.1.0.1)), above.1.1.1)))
      | inr other ↦
          subst (AreKeysAbove None) (sym (other_key row k keys other))
          (refl, (λ e. absurd (cc), ((refl, tt), (less_after row.key key (key_lower (place_in row) (key, m.member) other less), above.1))))
    ]

with_above : (row : Row) (keys : List KeyRows) → ((later : Row) → IsIn later (rows_in keys) → place_cmp (place_in row) (place_in later) ≡ Less) → AreKeysAbove None keys → AreKeysAbove None (with_row row keys)
with_above row [] below above = (refl, (λ e. absurd (cc), ((refl, tt), tt)))
with_above row (k ∷ keys) below above = with_above_first row k.key k.members keys below above

-- the keys of rows in order rise, and so do their members
pub by_key_above : (rows : List Row) → AreInOrder rows → AreKeysAbove None (by_key rows)
by_key_above [] order = tt
by_key_above (row ∷ rows) order =
    with_above row (by_key rows) (λ later here. order.0 later (subst (IsIn later) (rows_by_key rows) here)) (by_key_above rows order.1)

-- the rows of one key more
by_key_first : (key : List ℕ) (m : MemberRow) (members : List MemberRow) (keys : List KeyRows) (rows : List Row) → AreKeysAbove (Some key) keys → by_key rows ≡ keys → by_key (map (row_in key) (m ∷ members) ++ rows) ≡ record { key = key; members = m ∷ members } ∷ keys
by_key_first key m [] [] rows above is = ap (with_row (row_in key m)) is
by_key_first key m [] (k ∷ keys) rows above is =
    ap (with_row (row_in key m)) is ∙ other_key (row_in key m) k keys (λ same. not_below_itself key k.key same (after_less key k.key above.0))
by_key_first key m (n ∷ members) keys rows above is =
    ap (with_row (row_in key m)) (by_key_first key n members keys rows above is) ∙ same_key (row_in key m) (record { key = key; members = n ∷ members }) keys refl

first_back : (key : List ℕ) (members : List MemberRow) (keys : List KeyRows) → members ≢ [] → AreKeysAbove (Some key) keys → by_key (rows_in keys) ≡ keys → by_key (map (row_in key) members ++ rows_in keys) ≡ record { key = key; members = members } ∷ keys
first_back key [] keys some above is = absurd (some refl)
first_back key (m ∷ members) keys some above is = by_key_first key m members keys (rows_in keys) above is

-- the rows of keys that rise make these keys
pub keys_back : (before : Option (List ℕ)) (keys : List KeyRows) → AreKeysAbove before keys → by_key (rows_in keys) ≡ keys
keys_back before [] above = refl
keys_back before (k ∷ keys) above = first_back k.key k.members keys above.1.0 above.1.1.1 (keys_back (Some k.key) keys above.1.1.1)
