-- What is chosen for a batch, one operation after the other.

use Rattle.std.proofs.Common.{Bool, List, [], ap, arith, drop, false, get_or, length, max, min, refl, slice_set, subst, sym, take, true, ℕ, ◌++◌, ◌+◌, ◌-◌, ◌<◌, ◌∙◌, ◌∷◌, ◌≡◌}
use Rattle.std.proofs.lemmas.List.{append-nil, drop_min, flat_map_more, get_or-drop, get_or-take, length-append, length-drop, length-take, length_push}
use Rattle.std.specs.List.{flat_map}
use Rattle.zq_backlog.proofs.Picked.{passes_next, raised-append, set_is_risen, takes_next, wanted}
use Rattle.zq_backlog.specs.Batch.{MOST_LOOKED, from_place, is_wanted, looked_in, picked, taken_of, window}
use Rattle.zq_backlog.specs.Log.{Log, raised}
use Rattle.zq_backlog.specs.Written.{spelling}
use Rattle.zq_dots.specs.Placed.{Placed}

-- the operations that are looked at from a number on
abbrev looks : List Placed → ℕ → List Placed
looks ops from = take MOST_LOOKED (drop from ops)

in_looks : (ops : List Placed) (from k : ℕ) → k < MOST_LOOKED → from + k < length ops → k < length (looks ops from)
in_looks ops from k few in' = omega (arith, length-take MOST_LOOKED (drop from ops), length-drop from ops)

at_looks : (ops : List Placed) (from k : ℕ) (o : Placed) → k < MOST_LOOKED → o ≡ get_or ops (from + k) o → o ≡ get_or (looks ops from) k o
at_looks ops from k o few is = is ∙ sym (get_or-take MOST_LOOKED (drop from ops) k o few ∙ get_or-drop from ops k o)

abbrev pub taken_in : List Bool → List ℕ → List Placed → ℕ → ℕ → List Placed
taken_in class sent ops from k = picked class sent (looked_in ops from k)

one_taken : (class : List Bool) (sent : List ℕ) (ops : List Placed) (from k : ℕ) (o : Placed) → k < MOST_LOOKED → from + k < length ops → o ≡ get_or ops (from + k) o → is_wanted class (raised sent (taken_in class sent ops from k)) o ≡ true → taken_in class sent ops from (k + 1) ≡ taken_in class sent ops from k ++ o ∷ []
one_taken class sent ops from k o few in' is want = takes_next class sent (looks ops from) k o (in_looks ops from k few in') (at_looks ops from k o few is) want

one_passed : (class : List Bool) (sent : List ℕ) (ops : List Placed) (from k : ℕ) (o : Placed) → k < MOST_LOOKED → from + k < length ops → o ≡ get_or ops (from + k) o → is_wanted class (raised sent (taken_in class sent ops from k)) o ≡ false → taken_in class sent ops from (k + 1) ≡ taken_in class sent ops from k
one_passed class sent ops from k o few in' is want = passes_next class sent (looks ops from) k o (in_looks ops from k few in') (at_looks ops from k o few is) want

sent_next : (sent : List ℕ) (taken : List Placed) (o : Placed) → get_or (raised sent taken) o.operation.site 0 < o.operation.n → raised sent (taken ++ o ∷ []) ≡ slice_set (raised sent taken) o.operation.site o.operation.n
sent_next sent taken o above = raised-append sent taken (o ∷ []) ∙ sym (set_is_risen (raised sent taken) o above)

-- ---- choosing

-- of the first k that are looked at so many are taken, with so many bytes, and this was sent then
pub record IsChosen (class : List Bool) (sent : List ℕ) (ops : List Placed) (from k many long : ℕ) (known : List ℕ) : Type 0 where
  pub count : many ≡ length (taken_in class sent ops from k)
  pub bytes : long ≡ length (flat_map spelling (taken_in class sent ops from k))
  pub after : known ≡ raised sent (taken_in class sent ops from k)

pub chosen_none : (class : List Bool) (sent : List ℕ) (ops : List Placed) (from : ℕ) → IsChosen class sent ops from 0 0 0 sent
chosen_none class sent ops from = record { count = refl; bytes = refl; after = refl }

pub chosen_taken : (class : List Bool) (sent : List ℕ) (ops : List Placed) (from k count bytes : ℕ) (after : List ℕ) (o : Placed) → IsChosen class sent ops from k count bytes after → k < MOST_LOOKED → from + k < length ops → o ≡ get_or ops (from + k) o → is_wanted class after o ≡ true
    → IsChosen class sent ops from (k + 1) (count + 1) (bytes + length (spelling o)) (slice_set after o.operation.site o.operation.n)
chosen_taken class sent ops from k count bytes after o chosen few in' is want =
    let before = taken_in class sent ops from k in
    let want' : is_wanted class (raised sent before) o ≡ true = subst (λ v. is_wanted class v o ≡ true) chosen.after want in
    let more : taken_in class sent ops from (k + 1) ≡ before ++ o ∷ [] = one_taken class sent ops from k o few in' is want' in
    record {
      count = ap (λ n. n + 1) chosen.count ∙ sym (length_push before o) ∙ ap length (sym more);
      bytes =
          ap (λ n. n + length (spelling o)) chosen.bytes
          ∙ sym (length-append (flat_map spelling before) (spelling o))
          ∙ ap length (flat_map_more spelling [] before o)
          ∙ ap (λ os. length (flat_map spelling os)) (sym more);
      after =
          ap (λ v. slice_set v o.operation.site o.operation.n) chosen.after
          ∙ sym (sent_next sent before o (wanted class (raised sent before) o want').above)
          ∙ ap (raised sent) (sym more);
    }

pub chosen_passed : (class : List Bool) (sent : List ℕ) (ops : List Placed) (from k count bytes : ℕ) (after : List ℕ) (o : Placed) → IsChosen class sent ops from k count bytes after → k < MOST_LOOKED → from + k < length ops → o ≡ get_or ops (from + k) o → is_wanted class after o ≡ false
    → IsChosen class sent ops from (k + 1) count bytes after
chosen_passed class sent ops from k count bytes after o chosen few in' is want =
    let before = taken_in class sent ops from k in
    let want' : is_wanted class (raised sent before) o ≡ false = subst (λ v. is_wanted class v o ≡ false) chosen.after want in
    let more : taken_in class sent ops from (k + 1) ≡ before = one_passed class sent ops from k o few in' is want' in
    record {
      count = chosen.count ∙ ap length (sym more);
      bytes = chosen.bytes ∙ ap (λ os. length (flat_map spelling os)) (sym more);
      after = chosen.after ∙ ap (raised sent) (sym more);
    }

-- ---- copying

-- the frame has its head and the bytes of those that are taken of the first k, and this was sent then
pub record IsCopied (class : List Bool) (sent : List ℕ) (ops : List Placed) (from k : ℕ) (head text known : List ℕ) : Type 0 where
  pub frame : text ≡ head ++ flat_map spelling (taken_in class sent ops from k)
  pub after : known ≡ raised sent (taken_in class sent ops from k)

pub copied_none : (class : List Bool) (sent : List ℕ) (ops : List Placed) (from : ℕ) (head : List ℕ) → IsCopied class sent ops from 0 head head sent
copied_none class sent ops from head = record { frame = sym (append-nil head); after = refl }

pub copied_taken : (class : List Bool) (sent : List ℕ) (ops : List Placed) (from k : ℕ) (head frame after : List ℕ) (o : Placed) → IsCopied class sent ops from k head frame after → k < MOST_LOOKED → from + k < length ops → o ≡ get_or ops (from + k) o → is_wanted class after o ≡ true
    → IsCopied class sent ops from (k + 1) head (frame ++ spelling o) (slice_set after o.operation.site o.operation.n)
copied_taken class sent ops from k head frame after o copied few in' is want =
    let before = taken_in class sent ops from k in
    let want' : is_wanted class (raised sent before) o ≡ true = subst (λ v. is_wanted class v o ≡ true) copied.after want in
    let more : taken_in class sent ops from (k + 1) ≡ before ++ o ∷ [] = one_taken class sent ops from k o few in' is want' in
    record {
      frame =
          ap (λ xs. xs ++ spelling o) copied.frame
          ∙ flat_map_more spelling head before o
          ∙ ap (λ os. head ++ flat_map spelling os) (sym more);
      after =
          ap (λ v. slice_set v o.operation.site o.operation.n) copied.after
          ∙ sym (sent_next sent before o (wanted class (raised sent before) o want').above)
          ∙ ap (raised sent) (sym more);
    }

pub copied_passed : (class : List Bool) (sent : List ℕ) (ops : List Placed) (from k : ℕ) (head frame after : List ℕ) (o : Placed) → IsCopied class sent ops from k head frame after → k < MOST_LOOKED → from + k < length ops → o ≡ get_or ops (from + k) o → is_wanted class after o ≡ false
    → IsCopied class sent ops from (k + 1) head frame after
copied_passed class sent ops from k head frame after o copied few in' is want =
    let before = taken_in class sent ops from k in
    let want' : is_wanted class (raised sent before) o ≡ false = subst (λ v. is_wanted class v o ≡ false) copied.after want in
    let more : taken_in class sent ops from (k + 1) ≡ before = one_passed class sent ops from k o few in' is want' in
    record {
      frame = copied.frame ∙ ap (λ os. head ++ flat_map spelling os) (sym more);
      after = copied.after ∙ ap (raised sent) (sym more);
    }

-- ---- the whole batch

-- those from a place on, where that is not behind the end
from_is : (l : Log) (place from : ℕ) → from ≡ min (max place l.first - l.first) (length l.ops) → drop from l.ops ≡ from_place l place
from_is l place from same = ap (λ n. drop n l.ops) same ∙ drop_min (max place l.first - l.first) l.ops ∙ ap (λ n. drop n l.ops) (omega arith)

pub window_is : (l : Log) (place from : ℕ) → from ≡ min (max place l.first - l.first) (length l.ops) → take MOST_LOOKED (drop from l.ops) ≡ window l place
window_is l place from same = ap (take MOST_LOOKED) (from_is l place from same)

pub taken_is : (l : Log) (place from k next : ℕ) (class : List Bool) (sent : List ℕ) → from ≡ min (max place l.first - l.first) (length l.ops) → next ≡ max place l.first + k → taken_in class sent l.ops from k ≡ taken_of l place class sent next
taken_is l place from k next class sent same behind =
    ap (λ w. picked class sent (take k w)) (window_is l place from same) ∙ ap (λ n. picked class sent (take n (window l place))) (omega arith)
