-- Additions, members and keys that were written are read again.

use Rattle.std.proofs.Common.{ap, append_assoc, arith, inl, inr, length, List, None, Ok, Option, refl, subst, sym, true, [], ℕ, ℤ, ◌+◌, ◌++◌, ◌<◌, ◌^◌, ◌≤◌, ◌∙◌, ◌∷◌, ◌≡◌, ◌≢◌}
use Rattle.std.proofs.lemmas.Bool.{cases_lt}
use Rattle.std.specs.Int.{to_be_bytes, w64}
use Rattle.std.specs.List.{flat_map}
use Rattle.std.specs.Prelude.{slice_index}
use Rattle.zq_entry.proofs.SparseLemmas.{rising-length}
use Rattle.zq_fields.specs.Fields.{signed, text}
use Rattle.zq_merge.proofs.AgainParts.{counter_again, placed_again, site_again, text_above_again}
use Rattle.zq_merge.proofs.AgainSums.{sums_again}
use Rattle.zq_merge.proofs.KeyLists.{last_key_more, last_member_more}
use Rattle.zq_merge.proofs.Repeated.{AreAgain, many_again}
use Rattle.zq_merge.proofs.RisingSites.{next_more}
use Rattle.zq_merge.specs.Built.{AreKeysAbove, AreMembersAbove}
use Rattle.zq_merge.specs.Bounds.{AreAdditionsBounded, IsAdditionBounded}
use Rattle.zq_merge.specs.Fields.{LAST_NUMBER, addition_at, additions_at, key_at, keys_at, last_key, last_member, later_addition_at, later_key_at, later_member_at, member_at, members_at, placed_member_at, sums_at}
use Rattle.zq_merge.specs.Frame.{Frame}
use Rattle.zq_merge.specs.Keys.{KeyRows, MemberRow, row_in}
use Rattle.zq_merge.specs.Reading.{counter_at, is_after, many_at, next_site, rising_text_at, site_at}
use Rattle.zq_merge.specs.Sound.{IsSoundRow}
use Rattle.zq_merge.specs.Spelling.{addition_bytes, additions_bytes, key_bytes, keys_bytes, member_bytes, sums_bytes}
use Rattle.zq_merge.specs.Version.{HasVector, sites}
use Rattle.zq_merge.specs.declared.version.Version.{Version}
use Rattle.zq_merge.specs.declared.version.Version.TheVariants.{One, Three, Two}
use Rattle.zq_model.specs.Rows.{OfSite}
use Rattle.zq_model.specs.Sets.{IsCounters, IsIn, SITES}
use Rattle.zq_model.specs.Sparse.{AreBySite}
use Rattle.zq_fields.proofs.PartsAgain.{byte_in_again, number_in_again, score_read}
use Rattle.zq_fields.specs.Reading.{byte_in, number_in, score_at}
use Rattle.zq_fields.specs.Vectors.{DENSE_SITES}

-- ---- one addition

-- a version that has the vector knows the site of each dot in it
site_known : (v : Version) (vector : List ℕ) (p : OfSite) → HasVector v vector → p.0 < SITES → IsAdditionBounded vector p → p.0 < sites v
site_known One vector p few site bounded = elim (cases_lt p.0 DENSE_SITES) [
  | inl below ↦ below
  | inr past ↦ absurd (let none = few p.0 past in let first = bounded.counter.0 in let within = bounded.counter.1 in omega arith)
]
site_known Two vector p few site bounded = site
site_known Three vector p few site bounded = site

addition_of : (v : Version) (whole : ℕ) (vector : List ℕ) (low s n : ℕ) (z : ℤ) (sums : List ℤ) (b0 b1 b2 b3 b4 : List ℕ) → site_at whole (sites v) low b0 ≡ Ok (s, b1) → counter_at (slice_index vector s) b1 ≡ Ok (n, b2) → score_at b2 ≡ Ok (z, b3) → sums_at v whole vector b3 ≡ Ok (sums, b4) → addition_at v whole vector low b0 ≡ Ok ((s, record { n = n; score = z; sums = sums }), b4)
unfolding addition_at
addition_of v whole vector low s n z sums b0 b1 b2 b3 b4 e0 e1 e2 e3 = rw (e0, e1, e2, e3) refl

regroup : (a b c rest : List ℕ) → (a ++ (b ++ c)) ++ rest ≡ a ++ (b ++ (c ++ rest))
regroup a b c rest = simp append_assoc

addition_again : (v : Version) (whole : ℕ) (vector : List ℕ) (low : ℕ) (p : OfSite) (rest : List ℕ) → HasVector v vector → IsCounters vector → low ≤ p.0 → p.0 < SITES → IsAdditionBounded vector p → addition_at v whole vector low (addition_bytes v p ++ rest) ≡ Ok (p, rest)
unfolding addition_bytes
addition_again v whole vector low p rest has counters from below bounded =
    let b3 = sums_bytes v p.1.sums ++ rest in
    let b2 = signed w64 p.1.score ++ b3 in
    let b1 = to_be_bytes w64 p.1.n ++ b2 in
    let group = regroup (to_be_bytes w64 p.1.n) (signed w64 p.1.score) (sums_bytes v p.1.sums) rest in
    ap (λ x. addition_at v whole vector low (p.0 ∷ x)) group
    ∙ addition_of v whole vector low p.0 p.1.n p.1.score p.1.sums (p.0 ∷ b1) b1 b2 b3 rest (site_again whole (sites v) low p.0 b1 from (site_known v vector p has below bounded))
    (counter_again (slice_index vector p.0) p.1.n b2 bounded.counter.0 bounded.counter.1 (counters.bounded p.0)) (score_read p.1.score b3 bounded.score) (sums_again v whole vector p.1.sums rest has counters bounded.wide bounded.sums)

-- ---- the additions of a member

listed_again : (v : Version) (whole : ℕ) (vector : List ℕ) (low : ℕ) (before items : List OfSite) → HasVector v vector → IsCounters vector → next_site before ≤ low → AreBySite low SITES items → AreAdditionsBounded vector items → AreAgain (later_addition_at v whole vector) (addition_bytes v) before items
listed_again v whole vector low before [] has counters from rising bounded = tt
listed_again v whole vector low before (p ∷ items) has counters from rising bounded =
    let first : low ≤ p.0 = rising.0 in
    let next = next_more before p in (
      λ rest. addition_again v whole vector (next_site before) p rest has counters (omega arith) rising.1 (bounded p (inl refl)),
      listed_again v whole vector (p.0 + 1) (before ++ p ∷ []) items has counters (omega arith) rising.2 (λ q here. bounded q (inr here)),
    )

known_rising : (v : Version) (vector : List ℕ) (low : ℕ) (items : List OfSite) → HasVector v vector → AreBySite low SITES items → AreAdditionsBounded vector items → AreBySite low (sites v) items
known_rising v vector low [] has rising bounded = tt
known_rising v vector low (p ∷ items) has rising bounded =
    (rising.0, site_known v vector p has rising.1 (bounded p (inl refl)), known_rising v vector (p.0 + 1) items has rising.2 (λ q here. bounded q (inr here)))

additions_of : (v : Version) (whole : ℕ) (vector : List ℕ) (count : ℕ) (items : List OfSite) (b0 b1 b2 : List ℕ) → byte_in whole 1 (sites v + 1) b0 ≡ Ok (count, b1) → many_at (later_addition_at v whole vector) count [] b1 ≡ Ok (items, b2) → additions_at v whole vector b0 ≡ Ok (items, b2)
unfolding additions_at
additions_of v whole vector count items b0 b1 b2 first many = rw (first, many) refl

additions_again : (v : Version) (whole : ℕ) (vector : List ℕ) (items : List OfSite) (rest : List ℕ) → HasVector v vector → IsCounters vector → 1 ≤ length items → AreBySite 0 SITES items → AreAdditionsBounded vector items → additions_at v whole vector (additions_bytes v items ++ rest) ≡ Ok (items, rest)
unfolding additions_bytes
additions_again v whole vector items rest has counters some rising bounded =
    let bytes = flat_map (addition_bytes v) items ++ rest in
    let few = rising-length 0 (sites v) items (omega arith) (known_rising v vector 0 items has rising bounded) in
    additions_of v whole vector (length items) items (length items ∷ bytes) bytes rest (byte_in_again whole 1 (sites v + 1) (length items) bytes some (omega arith))
    (many_again (later_addition_at v whole vector) (addition_bytes v) [] items rest (listed_again v whole vector 0 [] items has counters (omega arith) rising bounded))

-- ---- members

member_of : (v : Version) (whole : ℕ) (frame : Frame) (key : List ℕ) (before : Option (List ℕ)) (m : MemberRow) (b0 b1 b2 : List ℕ) → placed_member_at frame.heap key before b0 ≡ Ok (m.member, b1) → additions_at v whole frame.vector b1 ≡ Ok (m.additions, b2) → member_at v whole frame key before b0 ≡ Ok (m, b2)
unfolding member_at
member_of v whole frame key before m b0 b1 b2 first second = rw (first, second) refl

member_again : (v : Version) (whole : ℕ) (frame : Frame) (key : List ℕ) (before : Option (List ℕ)) (m : MemberRow) (rest : List ℕ) → HasVector v frame.vector → IsCounters frame.vector → is_after before m.member ≡ true → IsSoundRow frame (row_in key m) → member_at v whole frame key before (member_bytes v m ++ rest) ≡ Ok (m, rest)
unfolding member_bytes
member_again v whole frame key before m rest has counters after sound =
    let bytes = additions_bytes v m.additions ++ rest in
    ap (member_at v whole frame key before) (append_assoc (text m.member) (additions_bytes v m.additions) rest)
    ∙ member_of v whole frame key before m (text m.member ++ bytes) bytes rest (placed_again frame.heap key before m.member bytes sound.member after sound.placed)
    (additions_again v whole frame.vector m.additions rest has counters sound.some sound.by_site sound.bounded)

members_listed : (v : Version) (whole : ℕ) (frame : Frame) (key : List ℕ) (before members : List MemberRow) → HasVector v frame.vector → IsCounters frame.vector → AreMembersAbove (last_member before) members → ((m : MemberRow) → IsIn m members → IsSoundRow frame (row_in key m)) → AreAgain (later_member_at v whole frame key) (member_bytes v) before members
members_listed v whole frame key before [] has counters above sound = tt
members_listed v whole frame key before (m ∷ members) has counters above sound = (
  λ rest. member_again v whole frame key (last_member before) m rest has counters above.0 (sound m (inl refl)),
  members_listed v whole frame key (before ++ m ∷ []) members has counters (subst (λ last. AreMembersAbove last members) (sym (last_member_more before m)) above.1) (λ n here. sound n (inr here)),
)

members_of : (v : Version) (whole : ℕ) (frame : Frame) (key : List ℕ) (count : ℕ) (items : List MemberRow) (b0 b1 b2 : List ℕ) → number_in whole 1 LAST_NUMBER b0 ≡ Ok (count, b1) → many_at (later_member_at v whole frame key) count [] b1 ≡ Ok (items, b2) → members_at v whole frame key b0 ≡ Ok (items, b2)
unfolding members_at
members_of v whole frame key count items b0 b1 b2 first many = rw (first, many) refl

-- ---- keys

-- each row of the key is sound
abbrev pub IsSoundKey : Frame → KeyRows → Type 0
IsSoundKey frame k = (length k.members < 2 ^ 64) × ((m : MemberRow) → IsIn m k.members → IsSoundRow frame (row_in k.key m))

first_short : (frame : Frame) (key : List ℕ) (members : List MemberRow) → members ≢ [] → ((m : MemberRow) → IsIn m members → IsSoundRow frame (row_in key m)) → (1 ≤ length members) × (length key ≤ 1048576)
first_short frame key [] some sound = absurd (some refl)
first_short frame key (m ∷ members) some sound = (omega arith, (sound m (inl refl)).key)

key_of : (v : Version) (whole : ℕ) (frame : Frame) (before : Option (List ℕ)) (k : KeyRows) (b0 b1 b2 : List ℕ) → rising_text_at before b0 ≡ Ok (k.key, b1) → members_at v whole frame k.key b1 ≡ Ok (k.members, b2) → key_at v whole frame before b0 ≡ Ok (k, b2)
unfolding key_at
key_of v whole frame before k b0 b1 b2 first second = rw (first, second) refl

key_again : (v : Version) (whole : ℕ) (frame : Frame) (before : Option (List ℕ)) (k : KeyRows) (rest : List ℕ) → HasVector v frame.vector → IsCounters frame.vector → is_after before k.key ≡ true → k.members ≢ [] → AreMembersAbove None k.members → IsSoundKey frame k → key_at v whole frame before (key_bytes v k ++ rest) ≡ Ok (k, rest)
unfolding key_bytes
key_again v whole frame before k rest has counters after some above sound =
    let b2 = flat_map (member_bytes v) k.members ++ rest in
    let b1 = to_be_bytes w64 (length k.members) ++ b2 in
    let first = first_short frame k.key k.members some sound.1 in
    let few = sound.0 in
    let many = many_again (later_member_at v whole frame k.key) (member_bytes v) [] k.members rest (members_listed v whole frame k.key [] k.members has counters above sound.1) in
    let members = members_of v whole frame k.key (length k.members) k.members b1 b2 rest (number_in_again whole 1 LAST_NUMBER (length k.members) b2 first.0 (omega arith) (omega arith)) many in
    ap (key_at v whole frame before) (regroup (text k.key) (to_be_bytes w64 (length k.members)) (flat_map (member_bytes v) k.members) rest)
    ∙ key_of v whole frame before k (text k.key ++ b1) b1 rest (text_above_again before k.key b1 first.1 after) members

keys_listed : (v : Version) (whole : ℕ) (frame : Frame) (before keys : List KeyRows) → HasVector v frame.vector → IsCounters frame.vector → AreKeysAbove (last_key before) keys → ((k : KeyRows) → IsIn k keys → IsSoundKey frame k) → AreAgain (later_key_at v whole frame) (key_bytes v) before keys
keys_listed v whole frame before [] has counters above sound = tt
keys_listed v whole frame before (k ∷ keys) has counters above sound = (
  λ rest. key_again v whole frame (last_key before) k rest has counters above.0 above.1.0 above.1.1.0 (sound k (inl refl)),
  keys_listed v whole frame (before ++ k ∷ []) keys has counters (subst (λ last. AreKeysAbove last keys) (sym (last_key_more before k)) above.1.1.1) (λ n here. sound n (inr here)),
)

keys_of : (v : Version) (whole : ℕ) (frame : Frame) (count : ℕ) (items : List KeyRows) (b0 b1 b2 : List ℕ) → number_in whole 0 LAST_NUMBER b0 ≡ Ok (count, b1) → many_at (later_key_at v whole frame) count [] b1 ≡ Ok (items, b2) → keys_at v whole frame b0 ≡ Ok (items, b2)
unfolding keys_at
keys_of v whole frame count items b0 b1 b2 first many = rw (first, many) refl

pub keys_again : (v : Version) (whole : ℕ) (frame : Frame) (keys : List KeyRows) (rest : List ℕ) → HasVector v frame.vector → IsCounters frame.vector → length keys < 2 ^ 64 → AreKeysAbove None keys → ((k : KeyRows) → IsIn k keys → IsSoundKey frame k) → keys_at v whole frame (keys_bytes v keys ++ rest) ≡ Ok (keys, rest)
unfolding keys_bytes
keys_again v whole frame keys rest has counters few above sound =
    let bytes = flat_map (key_bytes v) keys ++ rest in
    ap (keys_at v whole frame) (append_assoc (to_be_bytes w64 (length keys)) (flat_map (key_bytes v) keys) rest)
    ∙ keys_of v whole frame (length keys) keys (to_be_bytes w64 (length keys) ++ bytes) bytes rest (number_in_again whole 0 LAST_NUMBER (length keys) bytes (omega arith) (omega arith) (omega arith))
    (many_again (later_key_at v whole frame) (key_bytes v) [] keys rest (keys_listed v whole frame [] keys has counters above sound))
