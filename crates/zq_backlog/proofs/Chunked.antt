-- Texts in chunks, by their numbers.

use Rattle.std.proofs.Common.{Bool, List, [], ap, arith, drop, false, get_or, inl, inr, leb, length, refl, subst, suc, sum_by, sym, true, true≢false, zero, ℕ, ◌++◌, ◌+◌, ◌-◌, ◌<◌, ◌^◌, ◌∙◌, ◌∷◌, ◌≡◌, ◌≤◌}
use Rattle.std.proofs.lemmas.Bool.{cases_lt, le-leb, leb-false, leb-true}
use Rattle.std.proofs.lemmas.List.{append-nil, append_assoc, drop-append-le, drop-drop, get_or-drop, length-append, length-drop, nil_from_length}
use Rattle.std.proofs.lemmas.List.Sums.{sum_by-append, sum_by-cons, sum_by-drop_more}
use Rattle.std.proofs.Math.Seq.{drop-append-add, drop-nil}
use Rattle.std.specs.List.Sorted.{IsPartitionPoint, IsPartitionedBy}
use Rattle.zq_backlog.specs.Chunks.{AreJoined, first_of, texts_in}
use Rattle.zq_backlog.specs.TextsView.{AreChunked, end_of, texts_of}
use Rattle.zq_backlog.specs.declared.chunk.Chunk.{Chunk}
use Rattle.zq_backlog.specs.declared.texts.Texts.TheInside.{Inside}

-- ---- how many there are

-- the texts of chunks are those from their first one up to the next
pub texts_long : (cs : List Chunk) (n : ℕ) → AreJoined cs n → first_of cs n + length (texts_in cs) ≡ n
texts_long [] n h = omega arith
texts_long (c ∷ cs) n h =
    let rest : first_of cs n + length (texts_in cs) ≡ n = texts_long cs n h.1 in
    let both = length-append c.texts (texts_in cs) in
    omega (arith, both, rest, h.0)

pub first_within : (cs : List Chunk) (n : ℕ) → AreJoined cs n → first_of cs n ≤ n
first_within cs n h = let all = texts_long cs n h in omega arith

-- ---- where a text lies

get_past : (xs ys : List (List ℕ)) (k : ℕ) → length xs ≤ k → get_or (xs ++ ys) k [] ≡ get_or ys (k - length xs) []
get_past [] ys k h = ap (λ j. get_or ys j []) (omega arith)
get_past (x ∷ xs) ys zero h = absurd (omega arith)
get_past (x ∷ xs) ys (suc k) h = get_past xs ys k (omega arith) ∙ ap (λ j. get_or ys j []) (omega arith)

get_within : (xs ys : List (List ℕ)) (k : ℕ) → k < length xs → get_or (xs ++ ys) k [] ≡ get_or xs k []
get_within [] ys k h = absurd (omega arith)
get_within (x ∷ xs) ys zero h = refl
get_within (x ∷ xs) ys (suc k) h = get_within xs ys k (omega arith)

-- in the newest chunk
pub newest_at : (cs : List Chunk) (n m : ℕ) (newest : List (List ℕ)) → AreJoined cs n → n ≤ m → get_or newest (m - n) [] ≡ get_or (texts_in cs ++ newest) (m - first_of cs n) []
newest_at cs n m newest h past =
    let all = texts_long cs n h in
    sym (get_past (texts_in cs) newest (m - first_of cs n) (omega (arith, all)) ∙ ap (λ k. get_or newest k []) (omega (arith, all)))

-- in an older one
pub older_at : (k : ℕ) (cs : List Chunk) (n m : ℕ) (newest : List (List ℕ)) (c : Chunk) → AreJoined cs n → k < length cs → c ≡ get_or cs k c → c.first ≤ m → m < c.first + length c.texts
    → (first_of cs n ≤ c.first) × (get_or c.texts (m - c.first) [] ≡ get_or (texts_in cs ++ newest) (m - first_of cs n) [])
older_at k [] n m newest c h in' is from to = absurd (omega arith)
older_at zero (x ∷ cs) n m newest c h in' is from to =
    let first : c.first ≡ x.first = ap (λ (d : Chunk). d.first) is in
    let texts : c.texts ≡ x.texts = ap (λ (d : Chunk). d.texts) is in
    let long : length c.texts ≡ length x.texts = ap length texts in (
      omega (arith, first),
      ap (λ ts. get_or ts (m - c.first) []) texts
          ∙ ap (λ f. get_or x.texts (m - f) []) first
          ∙ sym (get_within x.texts (texts_in cs ++ newest) (m - x.first) (omega (arith, first, long)))
          ∙ ap (λ ts. get_or ts (m - x.first) []) (sym (append_assoc x.texts (texts_in cs) newest)),
    )
older_at (suc k) (x ∷ cs) n m newest c h in' is from to =
    let rest = older_at k cs n m newest c h.1 (omega arith) is from to in (
      omega (arith, rest.0, h.0),
      rest.1
          ∙ ap (λ j. get_or (texts_in cs ++ newest) j []) (omega (arith, rest.0, h.0, from))
          ∙ sym (get_past x.texts (texts_in cs ++ newest) (m - x.first) (omega (arith, rest.0, h.0, from)))
          ∙ ap (λ ts. get_or ts (m - x.first) []) (sym (append_assoc x.texts (texts_in cs) newest)),
    )

-- ---- the search

-- a chunk ends where the next one begins
pub next_first : (k : ℕ) (cs : List Chunk) (n : ℕ) (c : Chunk) → AreJoined cs n → k < length cs → c ≡ get_or cs k c → c.first + length c.texts ≡ first_of (drop (suc k) cs) n
next_first k [] n c h in' is = absurd (omega arith)
next_first zero (x ∷ cs) n c h in' is =
    let first : c.first ≡ x.first = ap (λ (d : Chunk). d.first) is in
    let long : length c.texts ≡ length x.texts = ap (λ (d : Chunk). length d.texts) is in
    omega (arith, first, long, h.0)
next_first (suc k) (x ∷ cs) n c h in' is = next_first k cs n c h.1 (omega arith) is

first_none : (k : ℕ) (cs : List Chunk) (n : ℕ) → length cs ≤ k → first_of (drop k cs) n ≡ n
first_none zero [] n h = refl
first_none (suc k) [] n h = refl
first_none zero (x ∷ cs) n h = absurd (omega arith)
first_none (suc k) (x ∷ cs) n h = first_none k cs n (omega arith)

first_dropped_or : (k : ℕ) (cs : List Chunk) (n : ℕ) (d : Chunk) → k < length cs → first_of (drop k cs) n ≡ (get_or cs k d).first
first_dropped_or k [] n d in' = absurd (omega arith)
first_dropped_or zero (x ∷ cs) n d in' = refl
first_dropped_or (suc k) (x ∷ cs) n d in' = first_dropped_or k cs n d (omega arith)

head_least : (j : ℕ) (cs : List Chunk) (n : ℕ) (d : Chunk) → AreJoined cs n → j < length cs → first_of cs n ≤ (get_or cs j d).first
head_least j [] n d h in' = absurd (omega arith)
head_least zero (x ∷ cs) n d h in' = omega arith
head_least (suc j) (x ∷ cs) n d h in' = let rest = head_least j cs n d h.1 (omega arith) in omega (arith, rest, h.0)

firsts_rise : (i j : ℕ) (cs : List Chunk) (n : ℕ) (d : Chunk) → AreJoined cs n → i ≤ j → j < length cs → (get_or cs i d).first ≤ (get_or cs j d).first
firsts_rise i j [] n d h le in' = absurd (omega arith)
firsts_rise zero j (x ∷ cs) n d h le in' = head_least j (x ∷ cs) n d h in'
firsts_rise (suc i) zero (x ∷ cs) n d h le in' = absurd (omega arith)
firsts_rise (suc i) (suc j) (x ∷ cs) n d h le in' = firsts_rise i j cs n d h.1 (omega arith) (omega arith)

-- whether a chunk begins at a number or before it
abbrev pub begins_by : ℕ → Chunk → Bool
begins_by m c = leb c.first m

pub begun_first : (cs : List Chunk) (n m : ℕ) → AreJoined cs n → IsPartitionedBy (begins_by m) cs
begun_first cs n m h i j d le in' later =
    let rise = firsts_rise i j cs n d h le in' in
    let below : (get_or cs j d).first ≤ m = leb-true (get_or cs j d).first m later in
    le-leb (get_or cs i d).first m (omega (arith, rise, below))

-- the chunk before the point at which chunks begin after a number has it
pub record IsFound (cs : List Chunk) (n m i : ℕ) : Type 0 where
  pub some : 1 ≤ i
  pub begins : (c : Chunk) → c ≡ get_or cs (i - 1) c → c.first ≤ m
  pub ends : (c : Chunk) → c ≡ get_or cs (i - 1) c → m < c.first + length c.texts

pub found_at_point : (cs : List Chunk) (n m i : ℕ) → AreJoined cs n → first_of cs n ≤ m → m < n → i ≤ length cs → IsPartitionPoint (λ c. begins_by m c ≡ true) (λ c. begins_by m c ≡ false) cs i → IsFound cs n m i
found_at_point [] n m i h from to within point = absurd (omega arith)
found_at_point (x ∷ cs) n m zero h from to within point =
    let late : leb x.first m ≡ false = point.1 zero x (omega arith) (omega arith) in
    absurd (true≢false (sym (le-leb x.first m from) ∙ late))
found_at_point (x ∷ cs) n m (suc i) h from to within point = record {
  some = omega arith;
  begins = λ c is.
      let at : c ≡ get_or (x ∷ cs) i c = is ∙ ap (λ j. get_or (x ∷ cs) j c) (omega arith) in
      let early : leb (get_or (x ∷ cs) i c).first m ≡ true = point.0 i c (omega arith) (omega arith) in
      let first : c.first ≡ (get_or (x ∷ cs) i c).first = ap (λ (d : Chunk). d.first) at in
      let below = leb-true (get_or (x ∷ cs) i c).first m early in
      omega (arith, first, below);
  ends = λ c is.
      let at : c ≡ get_or (x ∷ cs) i c = is ∙ ap (λ j. get_or (x ∷ cs) j c) (omega arith) in
      let next : c.first + length c.texts ≡ first_of (drop (suc i) (x ∷ cs)) n = next_first i (x ∷ cs) n c h (omega arith) at in
      elim (cases_lt (suc i) (length (x ∷ cs))) [
        | inl less ↦
            let late : leb (get_or (x ∷ cs) (suc i) c).first m ≡ false = point.1 (suc i) c (omega arith) less in
            let own : first_of (drop (suc i) (x ∷ cs)) n ≡ (get_or (x ∷ cs) (suc i) c).first = first_dropped_or (suc i) (x ∷ cs) n c less in
            let above = leb-false (get_or (x ∷ cs) (suc i) c).first m late in
            omega (arith, next, own, above)
        | inr more ↦
            let none : first_of (drop (suc i) (x ∷ cs)) n ≡ n = first_none (suc i) (x ∷ cs) n more in
            omega (arith, next, none)
      ];
}

-- ---- the texts that stand

pub count_is : (t : Inside) → AreChunked t → length (texts_of t) + t.first ≡ end_of t
count_is t are =
    let f = first_of t.older.items t.newest.first in
    let all = texts_long t.older.items t.newest.first are.joined in
    let both = length-append (texts_in t.older.items) t.newest.texts in
    let left = length-drop (t.first - f) (texts_in t.older.items ++ t.newest.texts) in
    let from = are.from in
    let to = are.to in
    omega (arith, all, both, left, from, to)

pub text_at : (t : Inside) (k : ℕ) → AreChunked t → get_or (texts_of t) k [] ≡ get_or (texts_in t.older.items ++ t.newest.texts) ((t.first + k) - first_of t.older.items t.newest.first) []
text_at t k are =
    let f = first_of t.older.items t.newest.first in
    let from = are.from in
    get_or-drop (t.first - f) (texts_in t.older.items ++ t.newest.texts) k []
    ∙ ap (λ j. get_or (texts_in t.older.items ++ t.newest.texts) j []) (omega (arith, from))

-- ---- what comes of them

-- two facts of fields: they are texts in chunks, and they are these
pub record AreChunkedAs (t : Inside) (texts : List (List ℕ)) : Type 0 where
  pub are : AreChunked t
  pub is : texts_of t ≡ texts

-- the oldest text has no more bytes than all
pub oldest_within : (t : Inside) → AreChunked t → t.first < end_of t → length (get_or (texts_of t) 0 []) ≤ t.bytes
oldest_within t are some =
    let count = count_is t are in
    let all = are.bytes in
    let rest = sum_by-drop_more (length {A = ℕ}) (texts_of t) 0 [] (omega (arith, count, some)) in
    omega (arith, all, rest)

-- the oldest text goes
pub oldest_gone : (t new : Inside) → AreChunked t → t.first < end_of t → new.older ≡ t.older → new.newest ≡ t.newest → new.first ≡ t.first + 1 → new.bytes + length (get_or (texts_of t) 0 []) ≡ t.bytes → AreChunkedAs new (drop 1 (texts_of t))
oldest_gone t new are some older newest first bytes =
    let f = first_of t.older.items t.newest.first in
    let all = texts_in t.older.items ++ t.newest.texts in
    let from = are.from in
    let count = count_is t are in
    let head : first_of new.older.items new.newest.first ≡ f = λ i. first_of (older i).items (newest i).first in
    let end : end_of new ≡ end_of t = ap (λ (c : Chunk). c.first + length c.texts) newest in
    let gap : new.first - first_of new.older.items new.newest.first ≡ (t.first - f) + 1 = omega (arith, head, first, from) in
    let is : texts_of new ≡ drop 1 (texts_of t) =
    ap (λ k. drop k (texts_in new.older.items ++ new.newest.texts)) gap
    ∙ (λ i. drop ((t.first - f) + 1) (texts_in (older i).items ++ (newest i).texts))
    ∙ sym (drop-drop 1 (t.first - f) all) in
    let few = are.few in
    let small = are.small in
    let had = are.bytes in
    let rest = sum_by-drop_more (length {A = ℕ}) (texts_of t) 0 [] (omega (arith, count, some)) in
    let left : sum_by (length {A = ℕ}) (texts_of new) ≡ sum_by (length {A = ℕ}) (drop 1 (texts_of t)) = ap (sum_by (length {A = ℕ})) is in
    record {
      are = record {
        joined = subst (λ (p : List Chunk × ℕ). AreJoined p.0 p.1) (λ i. ((sym older i).items, (sym newest i).first)) are.joined;
        from = omega (arith, head, first, from);
        to = omega (arith, end, first, some);
        few = omega (arith, end, few);
        bytes = omega (arith, left, rest, had, bytes);
        small = omega (arith, bytes, small);
      };
      is = is;
    }

gone_text : (cs : List Chunk) (n first : ℕ) (newest : List (List ℕ)) (c : Chunk) → AreJoined cs n → 0 < length cs → c ≡ get_or cs 0 c → c.first + length c.texts ≤ first
    → drop (first - first_of (drop 1 cs) n) (texts_in (drop 1 cs) ++ newest) ≡ drop (first - first_of cs n) (texts_in cs ++ newest)
gone_text [] n first newest c h in' is past = absurd (omega arith)
gone_text (x ∷ cs) n first newest c h in' is past =
    let own : c.first ≡ x.first = ap (λ (d : Chunk). d.first) is in
    let long : length c.texts ≡ length x.texts = ap (λ (d : Chunk). length d.texts) is in
    let gap : first - x.first ≡ length x.texts + (first - first_of cs n) = omega (arith, h.0, own, long, past) in
    sym (
    ap (λ ts. drop (first - x.first) ts) (append_assoc x.texts (texts_in cs) newest)
    ∙ ap (λ k. drop k (x.texts ++ (texts_in cs ++ newest))) gap
    ∙ drop-append-add x.texts (texts_in cs ++ newest) (first - first_of cs n)
    )

rest_joined : (cs : List Chunk) (n : ℕ) → AreJoined cs n → AreJoined (drop 1 cs) n
rest_joined [] n h = h
rest_joined (x ∷ cs) n h = h.1

rest_first : (cs : List Chunk) (n : ℕ) (c : Chunk) → AreJoined cs n → 0 < length cs → c ≡ get_or cs 0 c → first_of (drop 1 cs) n ≡ c.first + length c.texts
rest_first cs n c h in' is = sym (next_first 0 cs n c h in' is)

-- an older chunk ends where the newest one begins, or before
pub oldest_end : (t : Inside) (c : Chunk) → AreChunked t → 0 < length t.older.items → c ≡ get_or t.older.items 0 c → c.first + length c.texts ≤ t.newest.first
oldest_end t c are in' is =
    let next = rest_first t.older.items t.newest.first c are.joined in' is in
    let within = first_within (drop 1 t.older.items) t.newest.first (rest_joined t.older.items t.newest.first are.joined) in
    omega (arith, next, within)

-- a chunk goes of which no text stands
pub chunk_gone : (t new : Inside) (c : Chunk) → AreChunked t → 0 < length t.older.items → c ≡ get_or t.older.items 0 c → c.first + length c.texts ≤ t.first
    → new.older.items ≡ drop 1 t.older.items → new.newest ≡ t.newest → new.first ≡ t.first → new.bytes ≡ t.bytes → AreChunkedAs new (texts_of t)
chunk_gone t new c are in' own past older newest first bytes =
    let n = t.newest.first in
    let head : first_of new.older.items new.newest.first ≡ first_of (drop 1 t.older.items) n = λ i. first_of (older i) (newest i).first in
    let next = rest_first t.older.items n c are.joined in' own in
    let end : end_of new ≡ end_of t = ap (λ (d : Chunk). d.first + length d.texts) newest in
    let is : texts_of new ≡ texts_of t =
    (λ i. drop (first i - first_of (older i) (newest i).first) (texts_in (older i) ++ (newest i).texts))
    ∙ gone_text t.older.items n t.first t.newest.texts c are.joined in' own past in
    let few = are.few in
    let to = are.to in
    let small = are.small in
    record {
      are = record {
        joined = subst (λ (p : List Chunk × ℕ). AreJoined p.0 p.1) (λ i. (sym older i, (sym newest i).first)) (rest_joined t.older.items n are.joined);
        from = omega (arith, head, next, first, past);
        to = omega (arith, end, first, to);
        few = omega (arith, end, few);
        bytes = bytes ∙ are.bytes ∙ ap (sum_by (length {A = ℕ})) (sym is);
        small = omega (arith, bytes, small);
      };
      is = is;
    }

joined_push : (cs : List Chunk) (c : Chunk) → AreJoined cs c.first → AreJoined (cs ++ c ∷ []) (c.first + length c.texts)
joined_push [] c h = (refl, tt)
joined_push (x ∷ []) c h = (h.0, (refl, tt))
joined_push (x ∷ (y ∷ cs)) c h = (h.0, joined_push (y ∷ cs) c h.1)

first_push : (cs : List Chunk) (c : Chunk) (n : ℕ) → first_of (cs ++ c ∷ []) n ≡ first_of cs c.first
first_push [] c n = refl
first_push (x ∷ cs) c n = refl

texts_push : (cs : List Chunk) (c : Chunk) → texts_in (cs ++ c ∷ []) ++ [] ≡ texts_in cs ++ c.texts
texts_push [] c = append-nil (c.texts ++ []) ∙ append-nil c.texts
texts_push (x ∷ cs) c =
    append_assoc x.texts (texts_in (cs ++ c ∷ [])) []
    ∙ ap (λ ts. x.texts ++ ts) (texts_push cs c)
    ∙ sym (append_assoc x.texts (texts_in cs) c.texts)

-- a chunk is begun behind the newest one
pub chunk_begun : (t new : Inside) (c : Chunk) → AreChunked t → c ≡ t.newest → new.older.items ≡ t.older.items ++ c ∷ [] → new.newest.first ≡ end_of t → new.newest.texts ≡ [] → new.first ≡ t.first → new.bytes ≡ t.bytes
    → AreChunkedAs new (texts_of t)
chunk_begun t new c are own older next empty first bytes =
    let items : new.older.items ≡ t.older.items ++ t.newest ∷ [] = older ∙ ap (λ (d : Chunk). t.older.items ++ d ∷ []) own in
    let head : first_of new.older.items new.newest.first ≡ first_of t.older.items t.newest.first =
    ap (λ cs. first_of cs new.newest.first) items ∙ first_push t.older.items t.newest new.newest.first in
    let none : length new.newest.texts ≡ 0 = ap length empty in
    let is : texts_of new ≡ texts_of t =
    (λ i. drop (first i - head i) (texts_in (items i) ++ empty i))
    ∙ ap (drop (t.first - first_of t.older.items t.newest.first)) (texts_push t.older.items t.newest) in
    let few = are.few in
    let from = are.from in
    let to = are.to in
    let small = are.small in
    record {
      are = record {
        joined = subst (λ (p : List Chunk × ℕ). AreJoined p.0 p.1) (λ i. (sym items i, sym next i)) (joined_push t.older.items t.newest are.joined);
        from = omega (arith, head, first, from);
        to = omega (arith, next, none, first, to);
        few = omega (arith, next, none, few);
        bytes = bytes ∙ are.bytes ∙ ap (sum_by (length {A = ℕ})) (sym is);
        small = omega (arith, bytes, small);
      };
      is = is;
    }

-- a chunk is begun where no text stands
pub chunks_anew : (t new : Inside) → AreChunked t → end_of t ≤ t.first → new.older.items ≡ [] → new.newest.first ≡ end_of t → new.newest.texts ≡ [] → new.first ≡ t.first → new.bytes ≡ t.bytes → AreChunkedAs new (texts_of t)
chunks_anew t new are past older next empty first bytes =
    let none : length new.newest.texts ≡ 0 = ap length empty in
    let count = count_is t are in
    let to = are.to in
    let few = are.few in
    let small = are.small in
    let old : texts_of t ≡ [] = nil_from_length (texts_of t) (omega (arith, count, past)) in
    let head : first_of new.older.items new.newest.first ≡ new.newest.first = ap (λ cs. first_of cs new.newest.first) older in
    let own : texts_of new ≡ [] =
    (λ i. drop (new.first - first_of new.older.items new.newest.first) (texts_in (older i) ++ empty i))
    ∙ drop-nil (new.first - first_of new.older.items new.newest.first) in
    let is : texts_of new ≡ texts_of t = own ∙ sym old in
    record {
      are = record {
        joined = subst (λ cs. AreJoined cs new.newest.first) (sym older) tt;
        from = omega (arith, head, next, first, past);
        to = omega (arith, next, none, first, to);
        few = omega (arith, next, none, few);
        bytes = bytes ∙ are.bytes ∙ ap (sum_by (length {A = ℕ})) (sym is);
        small = omega (arith, bytes, small);
      };
      is = is;
    }

-- a text is written into the newest chunk
pub text_written : (t new : Inside) (text : List ℕ) → AreChunked t → end_of t + 1 < 2 ^ 63 → t.bytes + length text < 2 ^ 63 → new.older ≡ t.older → new.newest.first ≡ t.newest.first → new.newest.texts ≡ t.newest.texts ++ text ∷ []
    → new.first ≡ t.first → new.bytes ≡ t.bytes + length text → AreChunkedAs new (texts_of t ++ text ∷ [])
text_written t new text are few small older same texts first bytes =
    let f = first_of t.older.items t.newest.first in
    let all = texts_in t.older.items ++ t.newest.texts in
    let long : length new.newest.texts ≡ length t.newest.texts + 1 = ap length texts ∙ length-append t.newest.texts (text ∷ []) in
    let from = are.from in
    let to = are.to in
    let had = are.bytes in
    let whole = texts_long t.older.items t.newest.first are.joined in
    let both = length-append (texts_in t.older.items) t.newest.texts in
    let head : first_of new.older.items new.newest.first ≡ f = λ i. first_of (older i).items (same i) in
    let is : texts_of new ≡ texts_of t ++ text ∷ [] =
    (λ i. drop (first i - head i) (texts_in (older i).items ++ texts i))
    ∙ ap (drop (t.first - f)) (sym (append_assoc (texts_in t.older.items) t.newest.texts (text ∷ [])))
    ∙ drop-append-le (t.first - f) all (text ∷ []) (omega (arith, from, to, whole, both)) in
    let sums = sum_by-append (length {A = ℕ}) (texts_of t) (text ∷ []) in
    let one = sum_by-cons (length {A = ℕ}) text [] in
    let now : sum_by (length {A = ℕ}) (texts_of new) ≡ sum_by (length {A = ℕ}) (texts_of t ++ text ∷ []) = ap (sum_by (length {A = ℕ})) is in
    record {
      are = record {
        joined = subst (λ (p : List Chunk × ℕ). AreJoined p.0 p.1) (λ i. ((sym older i).items, sym same i)) are.joined;
        from = omega (arith, head, first, from);
        to = omega (arith, same, long, first, to);
        few = omega (arith, same, long, few);
        bytes = omega (arith, now, sums, one, had, bytes);
        small = omega (arith, bytes, small);
      };
      is = is;
    }
