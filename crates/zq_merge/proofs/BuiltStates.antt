-- States that are made member by member, in the order of their bytes.

use Rattle.std.proofs.Common.{ap, append_assoc, append-nil, arith, drop, false, inl, inr, length, List, map, None, Ok, Option, refl, Some, subst, sym, true, [], ℕ, ◌+◌, ◌++◌, ◌<◌, ◌≤◌, ◌∙◌, ◌∷◌, ◌≡◌, ◌≢◌, Err}
use Rattle.std.proofs.lemmas.List.{drop_at, flat_map_more, map-append}
use Rattle.zq_merge.proofs.KeyLists.{keys_back, keys_in_order, keys_more, last_key_more, last_member_more, members_more}
use Rattle.zq_merge.proofs.Repeated.{IsReadTo, read_fails, read_more, read_start}
use Rattle.zq_merge.specs.Bounds.{AreAdditionsBounded}
use Rattle.zq_merge.specs.Built.{AreKeysAbove, AreMembersAbove, IsBuilt, keys_of, members_since}
use Rattle.zq_merge.specs.Fields.{key_at, last_key, last_member, later_key_at, later_member_at, member_at}
use Rattle.zq_merge.specs.Frame.{Frame}
use Rattle.zq_merge.specs.Keys.{KeyRows, MemberRow, by_key, key_rows, member_of, row_in, rows_in}
use Rattle.zq_merge.specs.Reading.{is_after, many_at}
use Rattle.zq_merge.specs.Sound.{IsSoundRow}
use Rattle.zq_merge.specs.Spelling.{frame_bytes, key_bytes, keys_bytes, member_bytes}
use Rattle.zq_merge.specs.State.{HasSpelling, fields, frame_in, heap_image, state_spelling}
use Rattle.zq_merge.specs.Version.{HasRule, HasVector, version_byte}
use Rattle.zq_merge.specs.declared.fault.StateFault.{StateFault}
use Rattle.zq_merge.specs.declared.version.Version.{Version}
use Rattle.zq_model.proofs.Membership.{in_union}
use Rattle.zq_model.proofs.RowLists.{rows_forth}
use Rattle.zq_model.proofs.SparseEntries.{additions_by_site, some_listed}
use Rattle.zq_model.specs.Bounded.{IsBoundedRow}
use Rattle.zq_model.specs.Heaps.{heap_of}
use Rattle.zq_model.specs.Image.{Entry, is_bare}
use Rattle.zq_model.specs.Operation.{LONGEST}
use Rattle.zq_model.specs.Rows.{AreInOrder, AreRows, Row, additions_from, image_of_rows, rows_of}
use Rattle.zq_model.specs.Sets.{IsIn, SITES}
use Rattle.zq_shard.specs.Shard.{HeapImage}

-- ---- rows that are sound

some_additions : {X : Type 0} (items : List X) → 1 ≤ length items → items ≢ []
some_additions items some none = let e = ap length none in absurd (omega arith)

pub are_rows : (frame : Frame) (rows : List Row) → AreInOrder rows → ((row : Row) → IsIn row rows → IsSoundRow frame row) → AreRows rows
are_rows frame rows order sound = record {
  each = λ row here. record { some = some_additions row.additions (sound row here).some; by_site = (sound row here).by_site };
  in_order = order;
}

pub bounded_of_sound : (frame : Frame) (row : Row) → IsSoundRow frame row → IsBoundedRow frame.heap.heaps frame.heap.heap frame.vector row
bounded_of_sound frame row sound s x here =
    let b = sound.bounded (s, x) here in
    record { placed = sound.placed; key = sound.key; member = sound.member; counter = b.counter; score = b.score; wide = b.wide; sums = b.sums }

-- ---- the rows of a state that is made of rows

rows_are : (frame : Frame) (keys : List KeyRows) (s : HeapImage) → s ≡ heap_image frame keys → AreRows (rows_in keys) → rows_of s.image ≡ rows_in keys
rows_are frame keys s is rows = ap (λ t. rows_of t.image) is ∙ rows_forth frame.vector (rows_in keys) rows

pub built_rows : (frame : Frame) (keys : List KeyRows) (s : HeapImage) → IsBuilt frame keys s → rows_of s.image ≡ rows_in keys
built_rows frame keys s b = rows_are frame keys s b.is (are_rows frame (rows_in keys) (keys_in_order None keys b.above) b.sound)

-- the keys of a state are those that it is made of
pub built_keys : (frame : Frame) (keys : List KeyRows) (s : HeapImage) → IsBuilt frame keys s → keys_of s ≡ keys
built_keys frame keys s b = ap by_key (built_rows frame keys s b) ∙ keys_back None keys b.above

pub built_none : (frame : Frame) (s : HeapImage) → s ≡ heap_image frame [] → IsBuilt frame [] s
built_none frame s is = record { is = is; above = tt; sound = λ row here. absurd here }

-- ---- members behind the keys before them

-- the keys, and a key with these members
abbrev pub with_key : List KeyRows → List ℕ → List MemberRow → List KeyRows
with_key keys key members = keys ++ record { key = key; members = members } ∷ []

with_rows : (keys : List KeyRows) (key : List ℕ) (members : List MemberRow) → rows_in (with_key keys key members) ≡ rows_in keys ++ map (row_in key) members
with_rows keys key members = sym (flat_map_more key_rows [] keys (record { key = key; members = members }))

with_rows_more : (keys : List KeyRows) (key : List ℕ) (members : List MemberRow) (m : MemberRow) → rows_in (with_key keys key (members ++ m ∷ [])) ≡ rows_in (with_key keys key members) ++ row_in key m ∷ []
with_rows_more keys key members m =
    with_rows keys key (members ++ m ∷ []) ∙ (ap (λ xs. rows_in keys ++ xs) (map-append (row_in key) members (m ∷ []))
    ∙ (sym (append_assoc (rows_in keys) (map (row_in key) members) (row_in key m ∷ [])) ∙ ap (λ xs. xs ++ row_in key m ∷ []) (sym (with_rows keys key members))))

members_of_rows : (key : List ℕ) (members : List MemberRow) → map member_of (map (row_in key) members) ≡ members
members_of_rows key [] = refl
members_of_rows key (m ∷ members) = ap (λ xs. m ∷ xs) (members_of_rows key members)

in_map_rows : (frame : Frame) (key : List ℕ) (members : List MemberRow) → ((m : MemberRow) → IsIn m members → IsSoundRow frame (row_in key m)) → (row : Row) → IsIn row (map (row_in key) members) → IsSoundRow frame row
in_map_rows frame key [] sound row here = absurd here
in_map_rows frame key (m ∷ members) sound row (inl same) = subst (IsSoundRow frame) same (sound m (inl refl))
in_map_rows frame key (m ∷ members) sound row (inr later) = in_map_rows frame key members (λ n there. sound n (inr there)) row later

-- sound members of a key behind sound keys
pub record AreMembersOf (frame : Frame) (keys : List KeyRows) (key : List ℕ) (members : List MemberRow) : Type 0 where
  pub keys_above : AreKeysAbove None keys
  pub keys_sound : (row : Row) → IsIn row (rows_in keys) → IsSoundRow frame row
  pub after : is_after (last_key keys) key ≡ true
  pub above : AreMembersAbove None members
  pub sound : (m : MemberRow) → IsIn m members → IsSoundRow frame (row_in key m)

all_sound : (frame : Frame) (keys : List KeyRows) (key : List ℕ) (members : List MemberRow) → AreMembersOf frame keys key members → (row : Row) → IsIn row (rows_in (with_key keys key members)) → IsSoundRow frame row
all_sound frame keys key members are row here =
    elim (in_union row (rows_in keys) (map (row_in key) members) (subst (IsIn row) (with_rows keys key members) here)) [
      | inl first ↦ are.keys_sound row first
      | inr second ↦ in_map_rows frame key members are.sound row second
    ]

-- the rows of the keys and of a key with members
with_are_rows : (frame : Frame) (keys : List KeyRows) (key : List ℕ) (members : List MemberRow) → AreMembersOf frame keys key members → AreRows (rows_in (with_key keys key members))
with_are_rows frame keys key [] are =
    let none : rows_in (with_key keys key []) ≡ rows_in keys = with_rows keys key [] ∙ append-nil (rows_in keys) in
    subst AreRows (sym none) (are_rows frame (rows_in keys) (keys_in_order None keys are.keys_above) are.keys_sound)
with_are_rows frame keys key (m ∷ members) are =
    are_rows frame (rows_in (with_key keys key (m ∷ members))) (keys_in_order None (with_key keys key (m ∷ members)) (keys_more keys (record { key = key; members = m ∷ members }) are.keys_above are.after (λ e. absurd (cc)) are.above)) (all_sound frame keys key (m ∷ members) are)

-- the members that came since
pub since_are : (frame : Frame) (keys : List KeyRows) (key : List ℕ) (members : List MemberRow) (old new : HeapImage) → IsBuilt frame keys old → AreMembersOf frame keys key members → new ≡ heap_image frame (with_key keys key members) → members_since old new ≡ members
since_are frame keys key members old new built are is =
    let before = built_rows frame keys old built in
    let after : rows_of new.image ≡ rows_in keys ++ map (row_in key) members = rows_are frame (with_key keys key members) new is (with_are_rows frame keys key members are) ∙ with_rows keys key members in
    ap (λ rows. map member_of (drop (length rows) (rows_of new.image))) before
    ∙ (ap (λ rows. map member_of (drop (length (rows_in keys)) rows)) after
    ∙ (ap (map member_of) (drop_at (rows_in keys) (map (row_in key) members) (length (rows_in keys)) refl) ∙ members_of_rows key members))

-- ---- the members of a key, as they are read

-- i of so many are read
pub record AreMembersTo (v : Version) (whole : ℕ) (frame : Frame) (keys : List KeyRows) (key : List ℕ) (count i : ℕ) (all bytes : List ℕ) (last : Option (List ℕ)) (members : List MemberRow) (s : HeapImage) : Type 0 where
  pub read : IsReadTo (later_member_at v whole frame key) (member_bytes v) count i all bytes members
  pub last_is : last ≡ last_member members
  pub is : s ≡ heap_image frame (with_key keys key members)
  pub are : AreMembersOf frame keys key members

pub members_none : (v : Version) (whole : ℕ) (frame : Frame) (keys : List KeyRows) (key : List ℕ) (count : ℕ) (all : List ℕ) (s : HeapImage) → IsBuilt frame keys s → is_after (last_key keys) key ≡ true → AreMembersTo v whole frame keys key count 0 all all None [] s
members_none v whole frame keys key count all s built after =
    let none : rows_in (with_key keys key []) ≡ rows_in keys = with_rows keys key [] ∙ append-nil (rows_in keys) in
    record {
      read = read_start (later_member_at v whole frame key) (member_bytes v) count all;
      last_is = refl;
      is = built.is ∙ ap (λ rows. record { heap = frame.heap.heap; heaps = frame.heap.heaps; rule = frame.rule; image = image_of_rows frame.vector rows }) (sym none);
      are = record { keys_above = built.above; keys_sound = built.sound; after = after; above = tt; sound = λ m here. absurd here };
    }

sound_push : (frame : Frame) (key : List ℕ) (members : List MemberRow) (m : MemberRow) → ((n : MemberRow) → IsIn n members → IsSoundRow frame (row_in key n)) → IsSoundRow frame (row_in key m) → (n : MemberRow) → IsIn n (members ++ m ∷ []) → IsSoundRow frame (row_in key n)
sound_push frame key members m sound here n there = elim (in_union n members (m ∷ []) there) [
  | inl first ↦ sound n first
  | inr (inl same) ↦ subst (λ o. IsSoundRow frame (row_in key o)) same here
  | inr (inr none) ↦ absurd none
]

pub are_more : (frame : Frame) (keys : List KeyRows) (key : List ℕ) (members : List MemberRow) (m : MemberRow) → is_after (last_member members) m.member ≡ true → IsSoundRow frame (row_in key m) → AreMembersOf frame keys key members → AreMembersOf frame keys key (members ++ m ∷ [])
are_more frame keys key members m after sound are = record {
  keys_above = are.keys_above;
  keys_sound = are.keys_sound;
  after = are.after;
  above = members_more members m are.above after;
  sound = sound_push frame key members m are.sound sound;
}

-- the rows with the next member's are in order
pub order_more : (frame : Frame) (keys : List KeyRows) (key : List ℕ) (members : List MemberRow) (m : MemberRow) → is_after (last_member members) m.member ≡ true → IsSoundRow frame (row_in key m) → AreMembersOf frame keys key members → AreInOrder (rows_in (with_key keys key members) ++ row_in key m ∷ [])
order_more frame keys key members m after sound are =
    subst AreInOrder (with_rows_more keys key members m) (with_are_rows frame keys key (members ++ m ∷ []) (are_more frame keys key members m after sound are)).in_order

-- the state with the next member
pub state_more : (frame : Frame) (keys : List KeyRows) (key : List ℕ) (members : List MemberRow) (m : MemberRow) (old new : HeapImage) → old ≡ heap_image frame (with_key keys key members) → new.heap ≡ old.heap → new.heaps ≡ old.heaps → new.rule ≡ old.rule → new.image ≡ image_of_rows old.image.vector (rows_in (with_key keys key members) ++ row_in key m ∷ []) → new ≡ heap_image frame (with_key keys key (members ++ m ∷ []))
state_more frame keys key members m old new is heap heaps rule image =
    let h : new.heap ≡ frame.heap.heap = heap ∙ ap (λ s. s.heap) is in
    let k : new.heaps ≡ frame.heap.heaps = heaps ∙ ap (λ s. s.heaps) is in
    let r : new.rule ≡ frame.rule = rule ∙ ap (λ s. s.rule) is in
    let v = ap (λ s. s.image.vector) is in
    let a : new.image ≡ image_of_rows frame.vector (rows_in (with_key keys key (members ++ m ∷ []))) =
    image ∙ (ap (λ u. image_of_rows u (rows_in (with_key keys key members) ++ row_in key m ∷ [])) v ∙ ap (image_of_rows frame.vector) (sym (with_rows_more keys key members m))) in
    λ i. record { heap = h i; heaps = k i; rule = r i; image = a i }

pub members_step : (v : Version) (whole : ℕ) (frame : Frame) (keys : List KeyRows) (key : List ℕ) (count i : ℕ) (all bytes rest : List ℕ) (last : Option (List ℕ)) (members : List MemberRow) (m : MemberRow) (old new : HeapImage) → i < count → member_at v whole frame key last bytes ≡ Ok (m, rest) → bytes ≡ member_bytes v m ++ rest → is_after last m.member ≡ true → IsSoundRow frame (row_in key m) → AreMembersTo v whole frame keys key count i all bytes last members old → new ≡ heap_image frame (with_key keys key (members ++ m ∷ [])) → AreMembersTo v whole frame keys key count (i + 1) all rest (Some m.member) (members ++ m ∷ []) new
members_step v whole frame keys key count i all bytes rest last members m old new below e found after sound to is = record {
  read = read_more (later_member_at v whole frame key) (member_bytes v) count i all bytes rest members m below (ap (λ l. member_at v whole frame key l bytes) (sym to.last_is) ∙ e) found to.read;
  last_is = sym (last_member_more members m);
  is = is;
  are = are_more frame keys key members m (ap (λ l. is_after l m.member) (sym to.last_is) ∙ after) sound to.are;
}

pub members_fail : (v : Version) (whole : ℕ) (frame : Frame) (keys : List KeyRows) (key : List ℕ) (count i : ℕ) (all bytes : List ℕ) (last : Option (List ℕ)) (members : List MemberRow) (s : HeapImage) (fault : StateFault) → i < count → member_at v whole frame key last bytes ≡ Err fault → AreMembersTo v whole frame keys key count i all bytes last members s → many_at (later_member_at v whole frame key) count [] all ≡ Err fault
members_fail v whole frame keys key count i all bytes last members s fault below e to =
    read_fails (later_member_at v whole frame key) (member_bytes v) count i all bytes members fault below (ap (λ l. member_at v whole frame key l bytes) (sym to.last_is) ∙ e) to.read

-- all members of a key, at least one, make the state of one key more
pub members_built : (v : Version) (whole : ℕ) (frame : Frame) (keys : List KeyRows) (key : List ℕ) (count i : ℕ) (all bytes : List ℕ) (last : Option (List ℕ)) (members : List MemberRow) (s : HeapImage) → 1 ≤ i → AreMembersTo v whole frame keys key count i all bytes last members s → IsBuilt frame (with_key keys key members) s
members_built v whole frame keys key count i all bytes last members s some to =
    let size = to.read.size in
    record {
      is = to.is;
      above = keys_more keys (record { key = key; members = members }) to.are.keys_above to.are.after (some_additions members (omega arith)) to.are.above;
      sound = all_sound frame keys key members to.are;
    }

-- ---- the keys, as they are read

-- i of so many are read
pub record AreKeysTo (v : Version) (whole : ℕ) (frame : Frame) (count i : ℕ) (all bytes : List ℕ) (last : Option (List ℕ)) (keys : List KeyRows) (s : HeapImage) : Type 0 where
  pub read : IsReadTo (later_key_at v whole frame) (key_bytes v) count i all bytes keys
  pub last_is : last ≡ last_key keys
  pub built : IsBuilt frame keys s

pub keys_none : (v : Version) (whole : ℕ) (frame : Frame) (count : ℕ) (all : List ℕ) (s : HeapImage) → s ≡ heap_image frame [] → AreKeysTo v whole frame count 0 all all None [] s
keys_none v whole frame count all s is = record {
  read = read_start (later_key_at v whole frame) (key_bytes v) count all;
  last_is = refl;
  built = built_none frame s is;
}

pub keys_step : (v : Version) (whole : ℕ) (frame : Frame) (count i : ℕ) (all bytes rest : List ℕ) (last : Option (List ℕ)) (keys : List KeyRows) (k : KeyRows) (old new : HeapImage) → i < count → key_at v whole frame last bytes ≡ Ok (k, rest) → bytes ≡ key_bytes v k ++ rest → IsBuilt frame (keys ++ k ∷ []) new → AreKeysTo v whole frame count i all bytes last keys old → AreKeysTo v whole frame count (i + 1) all rest (Some k.key) (keys ++ k ∷ []) new
keys_step v whole frame count i all bytes rest last keys k old new below e found built to = record {
  read = read_more (later_key_at v whole frame) (key_bytes v) count i all bytes rest keys k below (ap (λ l. key_at v whole frame l bytes) (sym to.last_is) ∙ e) found to.read;
  last_is = sym (last_key_more keys k);
  built = built;
}

pub keys_fail : (v : Version) (whole : ℕ) (frame : Frame) (count i : ℕ) (all bytes : List ℕ) (last : Option (List ℕ)) (keys : List KeyRows) (s : HeapImage) (fault : StateFault) → i < count → key_at v whole frame last bytes ≡ Err fault → AreKeysTo v whole frame count i all bytes last keys s → many_at (later_key_at v whole frame) count [] all ≡ Err fault
keys_fail v whole frame count i all bytes last keys s fault below e to =
    read_fails (later_key_at v whole frame) (key_bytes v) count i all bytes keys fault below (ap (λ l. key_at v whole frame l bytes) (sym to.last_is) ∙ e) to.read

-- ---- a member that was read

not_empty : {X : Type 0} (items : List X) → items ≢ [] → 1 ≤ length items
not_empty [] some = absurd (some refl)
not_empty (x ∷ items) some = omega arith

-- a member with its entry makes a sound row
pub read_sound : (frame : Frame) (key member : List ℕ) (e : Entry) → length key ≤ LONGEST → length member ≤ LONGEST → heap_of key member frame.heap.heaps ≡ frame.heap.heap → length e ≡ SITES → is_bare e ≡ false → AreAdditionsBounded frame.vector (additions_from 0 e) → IsSoundRow frame (row_in key (record { member = member; additions = additions_from 0 e }))
read_sound frame key member e short_key short_member placed wide full bounded = record {
  key = short_key;
  member = short_member;
  placed = placed;
  some = not_empty (additions_from 0 e) (some_listed 0 e full);
  by_site = additions_by_site 0 SITES e (omega arith);
  bounded = bounded;
}

-- what a shard asks of its row
pub bounded_at : (frame : Frame) (keys : List KeyRows) (s : HeapImage) (row : Row) → s ≡ heap_image frame keys → IsSoundRow frame row → IsBoundedRow s.heaps s.heap s.image.vector row
bounded_at frame keys s row is sound = let P : HeapImage → Type 0 = λ t. IsBoundedRow t.heaps t.heap t.image.vector row in subst P (sym is) (bounded_of_sound frame row sound)

-- the next member is read and goes into the shard
pub members_pushed : (v : Version) (whole : ℕ) (frame : Frame) (keys : List KeyRows) (key : List ℕ) (count i : ℕ) (all bytes rest : List ℕ) (last : Option (List ℕ)) (m : MemberRow) (first old new : HeapImage) → IsBuilt frame keys first → i < count → member_at v whole frame key last bytes ≡ Ok (m, rest) → bytes ≡ member_bytes v m ++ rest → is_after last m.member ≡ true → IsSoundRow frame (row_in key m) → AreMembersTo v whole frame keys key count i all bytes last (members_since first old) old → new.heap ≡ old.heap → new.heaps ≡ old.heaps → new.rule ≡ old.rule → ((before : List Row) → old.image ≡ image_of_rows old.image.vector before → AreInOrder (before ++ row_in key m ∷ []) → new.image ≡ image_of_rows old.image.vector (before ++ row_in key m ∷ [])) → AreMembersTo v whole frame keys key count (i + 1) all rest (Some m.member) (members_since first new) new
members_pushed v whole frame keys key count i all bytes rest last m first old new built below e found after sound to heap heaps rule rows =
    let members = members_since first old in
    let above : is_after (last_member members) m.member ≡ true = ap (λ l. is_after l m.member) (sym to.last_is) ∙ after in
    let had : old.image ≡ image_of_rows old.image.vector (rows_in (with_key keys key members)) = ap (λ t. t.image) to.is ∙ ap (λ u. image_of_rows u (rows_in (with_key keys key members))) (sym (ap (λ t. t.image.vector) to.is)) in
    let image = rows (rows_in (with_key keys key members)) had (order_more frame keys key members m above sound to.are) in
    let is = state_more frame keys key members m old new to.is heap heaps rule image in
    let since = since_are frame keys key (members ++ m ∷ []) first new built (are_more frame keys key members m above sound to.are) is in
    subst (λ ms. AreMembersTo v whole frame keys key count (i + 1) all rest (Some m.member) ms new) (sym since) (members_step v whole frame keys key count i all bytes rest last members m old new below e found after sound to is)

-- ---- the whole

-- what was read is the state's spelling
pub found_whole : (v : Version) (frame : Frame) (s : HeapImage) (bytes b1 b2 b3 : List ℕ) → bytes ≡ version_byte v ∷ b1 → b1 ≡ frame_bytes v frame ++ b2 → b2 ≡ keys_bytes v (keys_of s) ++ b3 → b3 ≡ [] → IsBuilt frame (keys_of s) s → HasRule v frame.rule → HasVector v frame.vector → (x : Version) × HasSpelling x s × (bytes ≡ state_spelling x s)
unfolding fields
found_whole v frame s bytes b1 b2 b3 first second third none built rule vector =
    let same : frame_in s ≡ frame = ap frame_in built.is in
    let all : b2 ≡ keys_bytes v (keys_of s) = third ∙ (ap (λ b. keys_bytes v (keys_of s) ++ b) none ∙ append-nil (keys_bytes v (keys_of s))) in (
      v,
      (subst (HasRule v) (sym (ap (λ f. f.rule) same)) rule, subst (HasVector v) (sym (ap (λ f. f.vector) same)) vector),
      first ∙ (ap (λ b. version_byte v ∷ b) second ∙ (ap (λ b. version_byte v ∷ (frame_bytes v frame ++ b)) all ∙ ap (λ f. version_byte v ∷ (frame_bytes v f ++ keys_bytes v (keys_of s))) (sym same))),
    )
