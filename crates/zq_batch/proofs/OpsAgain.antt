-- An operation that was written behind others is read again.

use Rattle.std.proofs.Common.{ap, append_assoc, arith, Err, false, get_or, if◌then◌else◌, inl, inr, length, List, None, Ok, Option, refl, Some, suc, sym, true, zero, Bool, [], ℕ, ℤ, ◌*◌, ◌+◌, ◌++◌, ◌/◌, ◌%◌, ◌<◌, ◌==◌, ◌∙◌, ◌∷◌, ◌≡◌, ◌≤◌}
use Rattle.std.proofs.Math.Nat.{div-add-mod, mod-lt}
use Rattle.std.proofs.lemmas.Bool.{cases_lt}
use Rattle.std.proofs.lemmas.Bool.Decides.{nat_tests}
use Rattle.std.proofs.lemmas.Int.{ints}
use Rattle.std.proofs.lemmas.List.{get_or-set_same}
use Rattle.std.proofs.lemmas.List.Elements.{All-head, All-tail}
use Rattle.std.proofs.Math.ListN.{length-set, set}
use Rattle.zq_model.proofs.Places.{same_bytes}
use Rattle.zq_model.proofs.Sites.{length-by_site}
use Rattle.std.specs.Cmp.Lexicographic.{pointwise}
use Rattle.std.specs.List.{All}
use Rattle.std.specs.Prelude.{IfSome, nat_eq, nat_lt, negsuc, pos, ◌&&◌}
use Rattle.zq_batch.proofs.Risen.{changes_again}
use Rattle.zq_batch.proofs.Varints.{varint_again}
use Rattle.zq_batch.specs.Batch.{IsOfHeap}
use Rattle.zq_batch.specs.Before.{IsNext, base_from, base_of, has_key, has_short_key, holds, is_of, last_of, last_op, latest, later, repeats_key, repeats_site, top_from, top_of}
use Rattle.zq_batch.specs.Fields.{act_at, changes_at, count_at, head_at, head_of, is_head, is_there, key_at, key_from, name_at, op_at, other_key_at, other_site_at, placed, score_at, site_at, site_from, unzigzag, written_site_at}
use Rattle.zq_batch.specs.Spelling.{FEW, act_no, body_bytes, changes, count_bytes, few_of, head_byte, key_bytes, moved, moved_by, name, one_if, op_bytes, score_bytes, site_bytes, zigzag}
use Rattle.zq_batch.specs.Varint.{varint, varint_in}
use Rattle.zq_batch.specs.declared.head.Head.{Head}
use Rattle.zq_dots.proofs.Counters.{last_is}
use Rattle.zq_dots.specs.Placed.{IsRanged, LONGEST, Placed}
use Rattle.zq_fields.proofs.Again.{bytes_read}
use Rattle.zq_fields.proofs.PartsAgain.{byte_in_again}
use Rattle.zq_fields.specs.Fields.{bytes_field}
use Rattle.zq_fields.specs.Reading.{place}
use Rattle.zq_fields.specs.declared.fault.PartFault.TheVariants.{Field}
use Rattle.zq_fields.specs.declared.heap_no.HeapNo.{HeapNo}
use Rattle.zq_model.specs.Operation.{Act, Bump, Drop, IsAct, IsWithin, MOST, Put}
use Rattle.zq_model.specs.Sets.{LAST, SITES}

-- ---- the head

act_below : (act : Act) → act_no act < 3
act_below (Put z) = omega arith
act_below (Bump z) = omega arith
act_below Drop = omega arith

few_most : (n : ℕ) → few_of n ≤ FEW
few_most n = elim (cases_lt n FEW) [
  | inl less ↦ (let is : few_of n ≡ n = grind (arith, nat_tests) in omega arith)
  | inr more ↦ (let is : few_of n ≡ FEW = grind (arith, nat_tests) in omega arith)
]

-- the parts of a head, from its number
parts_of : (kind k s few : ℕ) → kind < 3 → k ≤ 1 → s ≤ 1 → (((kind + 4 * k + 8 * s + 16 * few) % 4 ≡ kind) × ((kind + 4 * k + 8 * s + 16 * few) / 4 % 2 ≡ k)) × (((kind + 4 * k + 8 * s + 16 * few) / 8 % 2 ≡ s) × ((kind + 4 * k + 8 * s + 16 * few) / 16 ≡ few))
parts_of kind k s few small low high =
    let b = kind + 4 * k + 8 * s + 16 * few in
    let b4 : b % 4 < 4 = mod-lt b (omega arith) in
    let b8 : b % 8 < 8 = mod-lt b (omega arith) in
    let b16 : b % 16 < 16 = mod-lt b (omega arith) in
    let k2 : b / 4 % 2 < 2 = mod-lt (b / 4) (omega arith) in
    let s2 : b / 8 % 2 < 2 = mod-lt (b / 8) (omega arith) in
    let d4 = div-add-mod b 4 in
    let d8 = div-add-mod b 8 in
    let d16 = div-add-mod b 16 in
    let dk = div-add-mod (b / 4) 2 in
    let ds = div-add-mod (b / 8) 2 in
    ((omega arith, omega arith), (omega arith, omega arith))

one_most : (b : Bool) → one_if b ≤ 1
one_most true = omega arith
one_most false = omega arith

one_is : (b : Bool) → (one_if b == 1) ≡ b
one_is true = refl
one_is false = refl

head_of_byte : (act : Act) (k s : Bool) (n : ℕ) → head_of (head_byte act k s n) ≡ record { kind = act_no act; key = k; site = s; few = few_of n }
unfolding head_byte
head_of_byte act k s n =
    let p = parts_of (act_no act) (one_if k) (one_if s) (few_of n) (act_below act) (one_most k) (one_most s) in
    let key : (head_byte act k s n / 4 % 2 == 1) ≡ k = ap (λ m. m == 1) p.0.1 ∙ one_is k in
    let site : (head_byte act k s n / 8 % 2 == 1) ≡ s = ap (λ m. m == 1) p.1.0 ∙ one_is s in
    λ i. record { kind = p.0.0 i; key = key i; site = site i; few = p.1.1 i }

is_head_if : (before : List Placed) (kind few : ℕ) (k s : Bool) → kind < 3 → (k ≡ true → holds has_short_key (last_op before) ≡ true) → (s ≡ true → holds is_there (last_op before) ≡ true) → is_head before (record { kind = kind; key = k; site = s; few = few }) ≡ true
is_head_if before kind few true true small key site = let is : nat_lt kind 3 ≡ true = grind (arith, nat_tests) in rw (is, key refl, site refl) refl
is_head_if before kind few true false small key site = let is : nat_lt kind 3 ≡ true = grind (arith, nat_tests) in rw (is, key refl) refl
is_head_if before kind few false true small key site = let is : nat_lt kind 3 ≡ true = grind (arith, nat_tests) in rw (is, site refl) refl
is_head_if before kind few false false small key site = let is : nat_lt kind 3 ≡ true = grind (arith, nat_tests) in rw is refl

head_from : (whole b : ℕ) (before : List Placed) (h : Head) (rest : List ℕ) → head_of b ≡ h → is_head before h ≡ true → head_at whole before (b ∷ rest) ≡ Ok (h, rest)
unfolding head_at
head_from whole b before h rest e is =
    ap (λ t. if t then Ok (head_of b, rest) else Err (Field (place whole (b ∷ rest)))) (ap (is_head before) e ∙ is) ∙ ap (λ x. Ok (x, rest)) e

-- what is the same as before, before which there is something
there_if : (o : Option Placed) (s : ℕ) → holds (is_of s) o ≡ true → holds is_there o ≡ true
there_if None s is = cc
there_if (Some o) s is = refl

short_test : (a b : Bool) → (a && b) ≡ true → a ≡ true
short_test true b is = refl
short_test false b is = cc

pub both_tests : (a b : Bool) → (a && b) ≡ true → b ≡ true
both_tests true b is = is
both_tests false b is = cc

short_if : (o : Option Placed) (key : List ℕ) → holds (has_key key) o ≡ true → holds has_short_key o ≡ true
short_if None key is = cc
short_if (Some o) key is = short_test (has_short_key o) (pointwise nat_eq o.operation.key key) is

site_if : (o : Option Placed) (s : ℕ) → holds (is_of s) o ≡ true → site_from o ≡ s
site_if None s is = cc
site_if (Some o) s is = grind (arith, nat_tests)

key_if : (o : Option Placed) (key : List ℕ) → holds (has_key key) o ≡ true → key_from o ≡ key
key_if None key is = cc
key_if (Some o) key is = same_bytes o.operation.key key (both_tests (has_short_key o) (pointwise nat_eq o.operation.key key) is)

head_again : (whole n : ℕ) (before : List Placed) (o : Placed) (rest : List ℕ) → head_at whole before (head_byte o.operation.act (repeats_key before o.operation.key) (repeats_site before o.operation.site) n ∷ rest) ≡ Ok (record { kind = act_no o.operation.act; key = repeats_key before o.operation.key; site = repeats_site before o.operation.site; few = few_of n }, rest)
head_again whole n before o rest =
    let act = o.operation.act in
    let k = repeats_key before o.operation.key in
    let s = repeats_site before o.operation.site in
    head_from whole (head_byte act k s n) before (record { kind = act_no act; key = k; site = s; few = few_of n }) rest (head_of_byte act k s n)
    (is_head_if before (act_no act) (few_of n) k s (act_below act) (short_if (last_op before) o.operation.key) (there_if (last_op before) o.operation.site))

-- ---- the site

other_site_again : (whole s : ℕ) (before : List Placed) (rest : List ℕ) → s < SITES → repeats_site before s ≡ false → other_site_at whole before (s ∷ rest) ≡ Ok (s, rest)
unfolding other_site_at
other_site_again whole s before rest below other = rw (byte_in_again whole 0 SITES s rest (omega arith) below, other) refl

written_site_again : (whole s : ℕ) (before : List Placed) (rest : List ℕ) (again : Bool) → s < SITES → repeats_site before s ≡ again → written_site_at whole before again (site_bytes again s ++ rest) ≡ Ok (s, rest)
written_site_again whole s before rest true below is = ap (λ x. Ok (x, rest)) (site_if (last_op before) s is)
written_site_again whole s before rest false below is = other_site_again whole s before rest below is

site_of : (whole at s : ℕ) (before : List Placed) (again : Bool) (b0 b1 : List ℕ) → written_site_at whole before again b0 ≡ Ok (s, b1) → top_of s before < LAST → site_at whole at before again b0 ≡ Ok (s, b1)
unfolding site_at
site_of whole at s before again b0 b1 e below = let test : nat_lt (top_of s before) LAST ≡ true = grind (arith, nat_tests) in rw (e, test) refl

site_again : (whole at s : ℕ) (before : List Placed) (rest : List ℕ) → s < SITES → top_of s before < LAST → site_at whole at before (repeats_site before s) (site_bytes (repeats_site before s) s ++ rest) ≡ Ok (s, rest)
site_again whole at s before rest below unworn =
    site_of whole at s before (repeats_site before s) (site_bytes (repeats_site before s) s ++ rest) rest (written_site_again whole s before rest (repeats_site before s) below refl) unworn

-- ---- the number of changes

pub moved_most : (k s : ℕ) (base v : List ℕ) → moved k s base v ≤ k
unfolding moved
moved_most zero s base v = omega arith
moved_most (suc k) s base v = let more = moved_most k (s + 1) base v in let one = one_most (nat_lt (get_or base s 0) (get_or v s 0)) in omega arith

count_again : (whole n : ℕ) (rest : List ℕ) → n ≤ SITES → count_at whole (few_of n) (count_bytes n ++ rest) ≡ Ok (n, rest)
count_again whole n rest most = elim (cases_lt n FEW) [
  | inl less ↦ (
      let test : nat_lt n FEW ≡ true = grind (arith, nat_tests) in
      let other : (n == FEW) ≡ false = grind (arith, nat_tests) in
      rw (test, other) refl)
  | inr more ↦ (
      let test : nat_lt n FEW ≡ false = grind (arith, nat_tests) in
      rw (test, byte_in_again whole FEW (SITES + 1) n rest more (omega arith)) refl)
]

-- ---- the act

score_number : (z : ℤ) → IsWithin MOST z → zigzag z ≤ 2 * MOST
score_number (pos n) within = let high = within.1 in omega (arith, ints)
score_number (negsuc n) within = let low = within.0 in omega (arith, ints)

unzigzag_of : (z : ℤ) → unzigzag (zigzag z) ≡ z
unzigzag_of (pos n) =
    let r : 2 * n % 2 < 2 = mod-lt (2 * n) (omega arith) in
    let d = div-add-mod (2 * n) 2 in
    let none : 2 * n % 2 ≡ 0 = omega arith in
    let half : 2 * n / 2 ≡ n = omega arith in
    (λ i. if none i == 0 then pos (half i) else negsuc (half i))
unzigzag_of (negsuc n) =
    let r : (2 * n + 1) % 2 < 2 = mod-lt (2 * n + 1) (omega arith) in
    let d = div-add-mod (2 * n + 1) 2 in
    let one : (2 * n + 1) % 2 ≡ 1 = omega arith in
    let half : (2 * n + 1) / 2 ≡ n = omega arith in
    (λ i. if one i == 0 then pos (half i) else negsuc (half i))

score_of : (whole n : ℕ) (z : ℤ) (b0 b1 : List ℕ) → varint_in whole 0 (2 * MOST) b0 ≡ Ok (n, b1) → unzigzag n ≡ z → score_at whole b0 ≡ Ok (z, b1)
unfolding score_at
score_of whole n z b0 b1 e is = rw (e, is) refl

score_again : (whole : ℕ) (z : ℤ) (rest : List ℕ) → IsWithin MOST z → score_at whole (varint (zigzag z) ++ rest) ≡ Ok (z, rest)
score_again whole z rest within =
    let most = score_number z within in
    score_of whole (zigzag z) z (varint (zigzag z) ++ rest) rest (varint_again whole 0 (2 * MOST) (zigzag z) rest (omega arith) most (omega arith)) (unzigzag_of z)

put_of : (whole : ℕ) (z : ℤ) (b0 b1 : List ℕ) → score_at whole b0 ≡ Ok (z, b1) → act_at whole 0 b0 ≡ Ok (Put z, b1)
unfolding act_at
put_of whole z b0 b1 e = rw e refl

bump_of : (whole : ℕ) (z : ℤ) (b0 b1 : List ℕ) → score_at whole b0 ≡ Ok (z, b1) → act_at whole 1 b0 ≡ Ok (Bump z, b1)
unfolding act_at
bump_of whole z b0 b1 e = rw e refl

drop_of : (whole : ℕ) (bytes : List ℕ) → act_at whole 2 bytes ≡ Ok (Drop, bytes)
unfolding act_at
drop_of whole bytes = refl

act_again : (whole : ℕ) (act : Act) (rest : List ℕ) → IsAct act → act_at whole (act_no act) (score_bytes act ++ rest) ≡ Ok (act, rest)
act_again whole (Put z) rest within = put_of whole z (varint (zigzag z) ++ rest) rest (score_again whole z rest within)
act_again whole (Bump z) rest within = bump_of whole z (varint (zigzag z) ++ rest) rest (score_again whole z rest within)
act_again whole Drop rest within = drop_of whole rest

-- ---- names

name_of : (whole n : ℕ) (b0 b1 x b2 : List ℕ) → varint_in whole 0 LONGEST b0 ≡ Ok (n, b1) → bytes_field n b1 ≡ Some (x, b2) → name_at whole b0 ≡ Ok (x, b2)
unfolding name_at
name_of whole n b0 b1 x b2 count bytes = rw (count, bytes) refl

name_again : (whole : ℕ) (x rest : List ℕ) → length x ≤ LONGEST → name_at whole (name x ++ rest) ≡ Ok (x, rest)
name_again whole x rest short =
    name_of whole (length x) (name x ++ rest) (x ++ rest) x rest (ap (varint_in whole 0 LONGEST) (append_assoc (varint (length x)) x rest) ∙ varint_again whole 0 LONGEST (length x) (x ++ rest) (omega arith) short (omega arith)) (bytes_read (length x) x rest refl)

other_key_of : (whole : ℕ) (before : List Placed) (x b0 b1 : List ℕ) → name_at whole b0 ≡ Ok (x, b1) → repeats_key before x ≡ false → other_key_at whole before b0 ≡ Ok (x, b1)
unfolding other_key_at
other_key_of whole before x b0 b1 e other = rw (e, other) refl

key_again : (whole : ℕ) (before : List Placed) (x rest : List ℕ) (again : Bool) → length x ≤ LONGEST → repeats_key before x ≡ again → key_at whole before again (key_bytes again x ++ rest) ≡ Ok (x, rest)
key_again whole before x rest true short is = ap (λ k. Ok (k, rest)) (key_if (last_op before) x is)
key_again whole before x rest false short is = other_key_of whole before x (name x ++ rest) rest (name_again whole x rest short) is

-- ---- an operation

-- the fields one after the other
pub op_of : (whole : ℕ) (heap : HeapNo) (before : List Placed) (h : Head) (site count : ℕ) (seen : List ℕ) (act : Act) (key member b0 b1 b2 b3 b4 b5 b6 b7 : List ℕ) → head_at whole before b0 ≡ Ok (h, b1) → site_at whole (place whole b0) before h.site b1 ≡ Ok (site, b2) → count_at whole h.few b2 ≡ Ok (count, b3) → changes_at whole site (top_of site before) count 0 (base_of site before) b3 ≡ Ok (seen, b4) → act_at whole h.kind b4 ≡ Ok (act, b5) → key_at whole before h.key b5 ≡ Ok (key, b6) → name_at whole b6 ≡ Ok (member, b7) → op_at whole heap before b0 ≡ Ok (placed heap site seen act key member, b7)
unfolding op_at
op_of whole heap before h site count seen act key member b0 b1 b2 b3 b4 b5 b6 b7 e0 e1 e2 e3 e4 e5 e6 = rw (e0, e1, e2, e3, e4, e5, e6) refl

regroup : (a b c d e f rest : List ℕ) → (a ++ (b ++ (c ++ (d ++ (e ++ f))))) ++ rest ≡ a ++ (b ++ (c ++ (d ++ (e ++ (f ++ rest)))))
regroup a b c d e f rest = simp append_assoc

-- the bytes of an operation, and what follows them
pub op_spelled : (before : List Placed) (o : Placed) (rest : List ℕ) → op_bytes before o ++ rest ≡ head_byte o.operation.act (repeats_key before o.operation.key) (repeats_site before o.operation.site) (moved_by before o) ∷ (site_bytes (repeats_site before o.operation.site) o.operation.site ++ (count_bytes (moved_by before o) ++ (changes SITES 0 (base_of o.operation.site before) o.operation.seen ++ (score_bytes o.operation.act ++ (key_bytes (repeats_key before o.operation.key) o.operation.key ++ (name o.operation.member ++ rest))))))
unfolding op_bytes body_bytes
op_spelled before o rest =
    let op = o.operation in
    ap (λ x. head_byte op.act (repeats_key before op.key) (repeats_site before op.site) (moved_by before o) ∷ x)
    (regroup (site_bytes (repeats_site before op.site) op.site) (count_bytes (moved_by before o)) (changes SITES 0 (base_of op.site before) op.seen) (score_bytes op.act) (key_bytes (repeats_key before op.key) op.key) (name op.member) rest)

-- what is true of all is true of the last that passes
later_has : (P : Placed → Type 0) (a b : Option Placed) → IfSome a P → IfSome b P → IfSome (later a b) P
later_has P a None first last = first
later_has P a (Some o) first last = last

if_has : (P : Placed → Type 0) (b : Bool) (o : Placed) → P o → IfSome (if b then Some o else None) P
if_has P true o is = is
if_has P false o is = tt

pub latest_has : (P : Placed → Type 0) (p : Placed → Bool) (ops : List Placed) → All P ops → IfSome (latest p ops) P
latest_has P p [] all = tt
latest_has P p (o ∷ ops) all =
    later_has P (if p o then Some o else None) (latest p ops) (if_has P (p o) o (All-head P o ops all)) (latest_has P p ops (All-tail P o ops all))

wide_by : (s : ℕ) (r : Option Placed) → IfSome r IsRanged → length (base_from s r) ≡ SITES
wide_by s None ranged = length-by_site (λ _. 0)
wide_by s (Some o) ranged = length-set o.operation.seen s o.operation.n ∙ ranged.seen.wide

pub base_wide : (s : ℕ) (before : List Placed) → All IsRanged before → length (base_of s before) ≡ SITES
base_wide s before ranged = wide_by s (last_of s before) (latest_has IsRanged (is_of s) before ranged)

unworn_by : (s m : ℕ) (r : Option Placed) → s < SITES → IfSome r IsRanged → get_or (base_from s r) s 0 ≤ m → m < LAST → top_from r < LAST
unworn_by s m None below ranged less small = let last = last_is in omega arith
unworn_by s m (Some o) below ranged less small =
    let wide = ranged.seen.wide in
    let here : get_or (set o.operation.seen s o.operation.n) s 0 ≡ o.operation.n = get_or-set_same o.operation.seen s o.operation.n 0 (omega arith) in
    omega arith

unworn_top : (before : List Placed) (o : Placed) → All IsRanged before → IsRanged o → IsNext before o → top_of o.operation.site before < LAST
unworn_top before o ranged sound next =
    let s = o.operation.site in
    let counter = sound.next in
    let bounded = sound.bounded in
    unworn_by s (get_or o.operation.seen s 0) (last_of s before) sound.site (latest_has IsRanged (is_of s) before ranged) (next.rises s) (omega arith)

-- a spelling, whatever follows it, is read as its operation
pub op_again : (whole : ℕ) (heap : HeapNo) (before : List Placed) (o : Placed) (rest : List ℕ) → All IsRanged before → IsRanged o → IsOfHeap heap.heaps heap.heap o → IsNext before o → op_at whole heap before (op_bytes before o ++ rest) ≡ Ok (o, rest)
op_again whole heap before o rest ranged sound of_heap next =
    let op = o.operation in
    let k = repeats_key before op.key in
    let s = repeats_site before op.site in
    let n = moved_by before o in
    let b7 = rest in
    let b6 = name op.member ++ b7 in
    let b5 = key_bytes k op.key ++ b6 in
    let b4 = score_bytes op.act ++ b5 in
    let b3 = changes SITES 0 (base_of op.site before) op.seen ++ b4 in
    let b2 = count_bytes n ++ b3 in
    let b1 = site_bytes s op.site ++ b2 in
    let b0 = head_byte op.act k s n ∷ b1 in
    let counter = sound.next in
    let heaps = of_heap.0 in
    let in_heap = of_heap.1 in
    ap (op_at whole heap before) (op_spelled before o rest)
    ∙ (op_of whole heap before (record { kind = act_no op.act; key = k; site = s; few = few_of n }) op.site n op.seen op.act op.key op.member b0 b1 b2 b3 b4 b5 b6 b7
    (head_again whole n before o b1)
    (site_again whole (place whole b0) op.site before b2 sound.site (unworn_top before o ranged sound next))
    (count_again whole n b3 (moved_most SITES 0 (base_of op.site before) op.seen))
    (changes_again whole op.site (top_of op.site before) (base_of op.site before) op.seen b4 (base_wide op.site before ranged) next sound.seen)
    (act_again whole op.act b5 sound.act)
    (key_again whole before op.key b6 k sound.key refl)
    (name_again whole op.member b7 sound.member)
    ∙ (λ i. Ok (record { heaps = sym heaps i; operation = record { heap = sym in_heap i; site = op.site; n = sym counter i; seen = op.seen; key = op.key; member = op.member; act = op.act } }, rest)))

-- what was read is spelled so
pub op_found : (heap : HeapNo) (before : List Placed) (h : Head) (site count : ℕ) (seen : List ℕ) (act : Act) (key member b0 b1 b2 b3 b4 b5 b6 b7 : List ℕ) → b0 ≡ (h.kind + 4 * one_if h.key + 8 * one_if h.site + 16 * h.few) ∷ b1 → b1 ≡ site_bytes h.site site ++ b2 → repeats_site before site ≡ h.site → b2 ≡ count_bytes count ++ b3 → few_of count ≡ h.few → b3 ≡ changes SITES 0 (base_of site before) seen ++ b4 → moved SITES 0 (base_of site before) seen ≡ count → b4 ≡ score_bytes act ++ b5 → act_no act ≡ h.kind → b5 ≡ key_bytes h.key key ++ b6 → repeats_key before key ≡ h.key → b6 ≡ name member ++ b7 → b0 ≡ op_bytes before (placed heap site seen act key member) ++ b7
unfolding head_byte
op_found heap before h site count seen act key member b0 b1 b2 b3 b4 b5 b6 b7 e0 e1 es e2 ef e3 en e4 ea e5 ek e6 =
    let c = changes SITES 0 (base_of site before) seen in
    let few : h.few ≡ few_of (moved SITES 0 (base_of site before) seen) = sym ef ∙ ap few_of (sym en) in
    let first : (h.kind + 4 * one_if h.key + 8 * one_if h.site + 16 * h.few) ≡ head_byte act (repeats_key before key) (repeats_site before site) (moved SITES 0 (base_of site before) seen) = λ i. sym ea i + 4 * one_if (sym ek i) + 8 * one_if (sym es i) + 16 * few i in
    let read : b1 ≡ site_bytes h.site site ++ (count_bytes count ++ (c ++ (score_bytes act ++ (key_bytes h.key key ++ (name member ++ b7))))) =
    e1 ∙ ap (λ x. site_bytes h.site site ++ x) (e2 ∙ ap (λ x. count_bytes count ++ x) (e3 ∙ ap (λ x. c ++ x) (e4 ∙ ap (λ x. score_bytes act ++ x) (e5 ∙ ap (λ x. key_bytes h.key key ++ x) e6)))) in
    let told : b1 ≡ site_bytes (repeats_site before site) site ++ (count_bytes (moved SITES 0 (base_of site before) seen) ++ (c ++ (score_bytes act ++ (key_bytes (repeats_key before key) key ++ (name member ++ b7))))) =
    read ∙ (λ i. site_bytes (sym es i) site ++ (count_bytes (sym en i) ++ (c ++ (score_bytes act ++ (key_bytes (sym ek i) key ++ (name member ++ b7)))))) in
    e0 ∙ ((λ i. first i ∷ told i) ∙ sym (op_spelled before (placed heap site seen act key member) b7))
