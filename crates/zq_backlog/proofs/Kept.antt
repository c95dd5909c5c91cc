-- What the fields of a log keep of its operations.

use Rattle.std.proofs.Common.{List, [], ap, arith, drop, get_or, inl, inr, length, map, max, refl, slice_set, subst, suc, sum_by, sym, take, zero, ℕ, ◌*◌, ◌++◌, ◌+◌, ◌<◌, ◌∙◌, ◌∷◌, ◌≡◌, ◌≤◌}
use Rattle.std.proofs.lemmas.List.{drop-map, get_or-map, length-map, map_push}
use Rattle.std.proofs.lemmas.List.Sums.{sum_by-cons}
use Rattle.zq_backlog.proofs.Again.{read_again}
use Rattle.zq_backlog.proofs.Logs.{log_at, one_comes, some_skipped}
use Rattle.zq_backlog.proofs.Trims.{oldest_goes}
use Rattle.zq_backlog.proofs.Vectors.{sum_small}
use Rattle.zq_backlog.specs.BacklogView.{IsKept, log_of, ops_of}
use Rattle.zq_backlog.specs.Log.{IsLog, Log, appended, base_before, raised, skipped, skipped_base, without}
use Rattle.zq_backlog.specs.Written.{dot_of, nothing, read_from, spelling, weights, weight_of}
use Rattle.zq_backlog.specs.declared.backlog.Backlog.TheInside.{Inside}
use Rattle.zq_dots.specs.Placed.{IsRanged, Placed}
use Rattle.zq_dots.specs.declared.dot.Dot.{Dot}
use Rattle.zq_model.specs.Image.{join_vector}
use Rattle.zq_model.specs.Sets.{IsIn, LAST, SITES}

-- what was written is read
reads_again : (ops : List Placed) → ((o : Placed) → IsIn o ops → IsRanged o) → map read_from (map spelling ops) ≡ ops
reads_again [] sound = refl
reads_again (o ∷ ops) sound = ap (λ p. p ∷ map read_from (map spelling ops)) (read_again o (sound o (inl refl))) ∙ ap (λ ps. o ∷ ps) (reads_again ops (λ p in'. sound p (inr in')))

-- fields that hold the texts and the dots of a log's operations are that log's
pub ops_from : (texts : List (List ℕ)) (ops : List Placed) → texts ≡ map spelling ops → ((o : Placed) → IsIn o ops → IsRanged o) → map read_from texts ≡ ops
ops_from texts ops same sound = ap (map read_from) same ∙ reads_again ops sound

pub kept_from : (b : Inside) (ops : List Placed) → b.texts ≡ map spelling ops → b.dots.items ≡ map dot_of ops → IsLog (log_at b.base b.last ops b.first b.most) → IsKept b
kept_from b ops texts dots log =
    let is : ops_of b ≡ ops = ops_from b.texts ops texts log.ranged in
    record {
      texts = texts ∙ ap (map spelling) (sym is);
      dots = dots ∙ ap (map dot_of) (sym is);
      log = subst (λ os. IsLog (log_at b.base b.last os b.first b.most)) (sym is) log;
    }

-- ---- numbers

pub count_is : (b : Inside) → IsKept b → length b.dots.items ≡ length (ops_of b)
count_is b kept = ap length kept.dots ∙ length-map (ops_of b) dot_of

pub count_small : (b : Inside) → IsKept b → b.first + length (ops_of b) ≤ 18014398509481920
count_small b kept = let few = kept.log.few in let most = sum_small b.last kept.log.last in omega arith

weigh : (ops : List Placed) → sum_by (length {A = ℕ}) (map spelling ops) + 24 * length ops ≡ weights ops
weigh [] = refl
weigh (o ∷ ops) =
    let rest = weigh ops in
    let bytes = sum_by-cons (length {A = ℕ}) (spelling o) (map spelling ops) in
    let all = sum_by-cons weight_of o ops in
    omega (arith, rest, bytes, all)

pub weight_is : (b : Inside) → IsKept b → sum_by (length {A = ℕ}) b.texts + 24 * length (ops_of b) ≡ weights (ops_of b)
weight_is b kept = ap (λ texts. sum_by (length {A = ℕ}) texts + 24 * length (ops_of b)) kept.texts ∙ weigh (ops_of b)

-- ---- what comes of it

-- two facts of fields: they are kept, and they are those of this log
pub record IsKeptAs (b : Inside) (l : Log) : Type 0 where
  pub kept : IsKept b
  pub is : log_of b ≡ l

pub kept_as : (b : Inside) (ops : List Placed) (l : Log) → b.texts ≡ map spelling ops → b.dots.items ≡ map dot_of ops → IsLog l → b.base ≡ l.base → b.last ≡ l.last → ops ≡ l.ops → b.first ≡ l.first → b.most ≡ l.most → IsKeptAs b l
kept_as b ops l texts dots log base last all first most =
    let ranged : (o : Placed) → IsIn o ops → IsRanged o = λ o in'. log.ranged o (subst (IsIn o) all in') in
    let here : log_at b.base b.last ops b.first b.most ≡ l = λ i. log_at (base i) (last i) (all i) (first i) (most i) in
    let is : ops_of b ≡ ops = ops_from b.texts ops texts ranged in
    record {
      kept = kept_from b ops texts dots (subst IsLog (sym here) log);
      is = ap (λ os. log_at b.base b.last os b.first b.most) is ∙ here;
    }

pub kept_appended : (b new : Inside) (o : Placed) → IsKept b → IsRanged o → get_or b.last o.operation.site 0 < o.operation.n
    → new.base ≡ base_before (log_of b) o.operation.site o.operation.n → new.last ≡ slice_set b.last o.operation.site o.operation.n → new.texts ≡ b.texts ++ spelling o ∷ [] → new.dots.items ≡ b.dots.items ++ dot_of o ∷ [] → new.first ≡ b.first → new.most ≡ b.most
    → IsKeptAs new (appended o (log_of b))
kept_appended b new o kept sound above base last texts dots first most =
    let ops = ops_of b in
    kept_as new (ops ++ o ∷ []) (appended o (log_of b))
    (texts ∙ ap (λ ts. ts ++ spelling o ∷ []) kept.texts ∙ sym (map_push spelling ops o))
    (dots ∙ ap (λ ds. ds ++ dot_of o ∷ []) kept.dots ∙ sym (map_push dot_of ops o))
    (one_comes o (log_of b) sound above kept.log) base last refl first most

-- the base over the oldest
popped_base : (base : List ℕ) (ops : List Placed) (dot : Dot) → dot ≡ get_or (map dot_of ops) 0 dot → 0 < length ops → slice_set base dot.site (max (get_or base dot.site 0) dot.n) ≡ raised base (take 1 ops)
popped_base base [] dot is some = absurd (omega arith)
popped_base base (o ∷ ops) dot is some = ap (λ (d : Dot). slice_set base d.site (max (get_or base d.site 0) d.n)) is

pub kept_without : (b new : Inside) (dot : Dot) → IsKept b → 0 < length (ops_of b) → dot ≡ get_or b.dots.items 0 dot
    → new.base ≡ slice_set b.base dot.site (max (get_or b.base dot.site 0) dot.n) → new.last ≡ b.last → new.texts ≡ drop 1 b.texts → new.dots.items ≡ drop 1 b.dots.items → new.first ≡ b.first + 1 → new.most ≡ b.most
    → IsKeptAs new (without 1 (log_of b))
kept_without b new dot kept some oldest base last texts dots first most =
    let ops = ops_of b in
    kept_as new (drop 1 ops) (without 1 (log_of b))
    (texts ∙ ap (drop 1) kept.texts ∙ drop-map spelling 1 ops)
    (dots ∙ ap (drop 1) kept.dots ∙ drop-map dot_of 1 ops)
    (oldest_goes (log_of b) some kept.log)
    (base ∙ popped_base b.base ops dot (oldest ∙ ap (λ ds. get_or ds 0 dot) kept.dots) some) last refl first most

pub kept_skipped : (b new : Inside) (v : List ℕ) → IsKept b → ((t : ℕ) → t < SITES → get_or v t 0 ≤ LAST)
    → new.base ≡ skipped_base b.base b.last v → new.last ≡ join_vector b.last v → new.texts ≡ b.texts → new.dots.items ≡ b.dots.items → new.first ≡ b.first → new.most ≡ b.most
    → IsKeptAs new (skipped v (log_of b))
kept_skipped b new v kept small base last texts dots first most =
    kept_as new (ops_of b) (skipped v (log_of b)) (texts ∙ kept.texts) (dots ∙ kept.dots) (some_skipped v (log_of b) small kept.log) base last refl first most

-- ---- one of its operations

is_at : (ops : List Placed) (i : ℕ) (d : Placed) → i < length ops → IsIn (get_or ops i d) ops
is_at [] i d h = absurd (omega arith)
is_at (o ∷ ops) zero d h = inl refl
is_at (o ∷ ops) (suc i) d h = inr (is_at ops i d (omega arith))

-- the counter of a dot is one
pub dot_bounded : (b : Inside) (i : ℕ) (dot : Dot) → IsKept b → i < length (ops_of b) → dot ≡ get_or b.dots.items i dot → dot.n ≤ LAST
dot_bounded b i dot kept in' is =
    let ops = ops_of b in
    let o = get_or ops i nothing in
    let same : dot ≡ dot_of o = is ∙ ap (λ ds. get_or ds i dot) kept.dots ∙ get_or-map dot_of ops i nothing dot in' in
    let small = (kept.log.ranged o (is_at ops i nothing in')).bounded in
    let n_is : dot.n ≡ o.operation.n = ap (λ (d : Dot). d.n) same in
    omega arith
