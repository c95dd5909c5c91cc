-- The oldest operations of a log go while it has too many bytes.

use Rattle.std.proofs.Common.{List, [], ap, arith, cond, drop, inl, inr, length, refl, subst, suc, sym, take, ℕ, ◌++◌, ◌+◌, ◌<◌, ◌∙◌, ◌∷◌, ◌≡◌, ◌≤◌, ◌⊎◌}
use Rattle.std.proofs.lemmas.Bool.{cases_lt, le-leb, lt-leb}
use Rattle.zq_backlog.proofs.Logs.{log_at, one_goes}
use Rattle.zq_backlog.specs.Log.{IsLog, Log, added, added_all, excess, raised, risen, trimmed, without}
use Rattle.zq_backlog.specs.Written.{weights}
use Rattle.zq_dots.specs.Placed.{Placed}
use Rattle.zq_model.proofs.Membership.{in_right}
use Rattle.zq_model.specs.Sets.{IsIn}

first_at : (base last : List ℕ) (ops : List Placed) (first other most : ℕ) → first ≡ other → log_at base last ops first most ≡ log_at base last ops other most
first_at base last ops first other most same = ap (λ n. log_at base last ops n most) same

-- nothing goes
pub without_none : (l : Log) → without 0 l ≡ l
without_none l = first_at l.base l.last l.ops (l.first + 0) l.first l.most (omega arith)

-- one goes, and then the others
without_more : (base last : List ℕ) (o : Placed) (ops : List Placed) (first most k : ℕ) → without (suc k) (log_at base last (o ∷ ops) first most) ≡ without k (log_at (risen base o) last ops (first + 1) most)
without_more base last o ops first most k = first_at (raised (risen base o) (take k ops)) last (drop k ops) (first + suc k) ((first + 1) + k) most (omega arith)

-- the oldest goes
pub without_one : (base last : List ℕ) (o : Placed) (ops : List Placed) (first most : ℕ) → without 1 (log_at base last (o ∷ ops) first most) ≡ log_at (risen base o) last ops (first + 1) most
without_one base last o ops first most = refl

goes : (base last : List ℕ) (ops : List Placed) (first most : ℕ) → 0 < length ops → IsLog (log_at base last ops first most) → IsLog (without 1 (log_at base last ops first most))
goes base last [] first most some log = absurd (omega arith)
goes base last (o ∷ ops) first most some log = one_goes base last o ops first most log

pub oldest_goes : (l : Log) → 0 < length l.ops → IsLog l → IsLog (without 1 l)
oldest_goes l some log = goes l.base l.last l.ops l.first l.most some log

-- ---- what is too much

-- where there are too many bytes, and more than one operation, the oldest goes first
heavy : (base last : List ℕ) (o p : Placed) (ops : List Placed) (first most : ℕ) → most < weights (o ∷ p ∷ ops) → trimmed (log_at base last (o ∷ p ∷ ops) first most) ≡ trimmed (log_at (risen base o) last (p ∷ ops) (first + 1) most)
heavy base last o p ops first most more =
    ap (λ b. without (cond b 0 (suc (excess most (p ∷ ops)))) (log_at base last (o ∷ p ∷ ops) first most)) (lt-leb (weights (o ∷ p ∷ ops)) most more)
    ∙ without_more base last o (p ∷ ops) first most (excess most (p ∷ ops))

-- else nothing does
light : (base last : List ℕ) (o p : Placed) (ops : List Placed) (first most : ℕ) → weights (o ∷ p ∷ ops) ≤ most → trimmed (log_at base last (o ∷ p ∷ ops) first most) ≡ log_at base last (o ∷ p ∷ ops) first most
light base last o p ops first most less =
    ap (λ b. without (cond b 0 (suc (excess most (p ∷ ops)))) (log_at base last (o ∷ p ∷ ops) first most)) (le-leb (weights (o ∷ p ∷ ops)) most less)
    ∙ without_none (log_at base last (o ∷ p ∷ ops) first most)

trim_heavy : (base last : List ℕ) (ops : List Placed) (first most : ℕ) → 1 < length ops → most < weights ops → trimmed (without 1 (log_at base last ops first most)) ≡ trimmed (log_at base last ops first most)
trim_heavy base last [] first most some more = absurd (omega arith)
trim_heavy base last (o ∷ []) first most some more = absurd (omega arith)
trim_heavy base last (o ∷ p ∷ ops) first most some more = sym (heavy base last o p ops first most more)

trim_light : (base last : List ℕ) (ops : List Placed) (first most : ℕ) → (length ops ≤ 1) ⊎ (weights ops ≤ most) → trimmed (log_at base last ops first most) ≡ log_at base last ops first most
trim_light base last [] first most h = without_none (log_at base last [] first most)
trim_light base last (o ∷ []) first most h = without_none (log_at base last (o ∷ []) first most)
trim_light base last (o ∷ p ∷ ops) first most (inl few) = absurd (omega arith)
trim_light base last (o ∷ p ∷ ops) first most (inr less) = light base last o p ops first most less

-- a step of the loop, and its end
pub trimmed_heavy : (l : Log) → 1 < length l.ops → l.most < weights l.ops → trimmed (without 1 l) ≡ trimmed l
trimmed_heavy l some more = trim_heavy l.base l.last l.ops l.first l.most some more

pub trimmed_light : (l : Log) → (length l.ops ≤ 1) ⊎ (weights l.ops ≤ l.most) → trimmed l ≡ l
trimmed_light l h = trim_light l.base l.last l.ops l.first l.most h

-- ---- what is trimmed is a log, of the newest operations

weigh : (w most : ℕ) → (w ≤ most) ⊎ (most < w)
weigh w most = elim (cases_lt most w) [ inl more ↦ inr more | inr less ↦ inl less ]

trim_keeps : (base last : List ℕ) (ops : List Placed) (first most : ℕ) → IsLog (log_at base last ops first most) → IsLog (trimmed (log_at base last ops first most))
trim_keeps base last [] first most log = subst IsLog (sym (without_none (log_at base last [] first most))) log
trim_keeps base last (o ∷ []) first most log = subst IsLog (sym (without_none (log_at base last (o ∷ []) first most))) log
trim_keeps base last (o ∷ p ∷ ops) first most log = elim (weigh (weights (o ∷ p ∷ ops)) most) [
  | inl less ↦ subst IsLog (sym (light base last o p ops first most less)) log
  | inr more ↦ subst IsLog (sym (heavy base last o p ops first most more)) (trim_keeps (risen base o) last (p ∷ ops) (first + 1) most (one_goes base last o (p ∷ ops) first most log))
]

pub trimmed_keeps : (l : Log) → IsLog l → IsLog (trimmed l)
trimmed_keeps l log = trim_keeps l.base l.last l.ops l.first l.most log

-- the newest of some stays
trim_newest : (base last : List ℕ) (ops : List Placed) (o : Placed) (first most : ℕ) → IsIn o (trimmed (log_at base last (ops ++ o ∷ []) first most)).ops
trim_newest base last [] o first most = inl refl
trim_newest base last (x ∷ []) o first most = elim (weigh (weights (x ∷ o ∷ [])) most) [
  | inl less ↦ subst (λ (l : Log). IsIn o l.ops) (sym (light base last x o [] first most less)) (inr (inl refl))
  | inr more ↦ subst (λ (l : Log). IsIn o l.ops) (sym (heavy base last x o [] first most more)) (trim_newest (risen base x) last [] o (first + 1) most)
]
trim_newest base last (x ∷ y ∷ ops) o first most = elim (weigh (weights (x ∷ y ∷ (ops ++ o ∷ []))) most) [
  | inl less ↦ subst (λ (l : Log). IsIn o l.ops) (sym (light base last x y (ops ++ o ∷ []) first most less)) (inr (inr (in_right o ops (o ∷ []) (inl refl))))
  | inr more ↦ subst (λ (l : Log). IsIn o l.ops) (sym (heavy base last x y (ops ++ o ∷ []) first most more)) (trim_newest (risen base x) last (y ∷ ops) o (first + 1) most)
]

pub newest_stays : (l : Log) (ops : List Placed) (o : Placed) → l.ops ≡ ops ++ o ∷ [] → IsIn o (trimmed l).ops
newest_stays l ops o same = subst (λ all. IsIn o (trimmed (log_at l.base l.last all l.first l.most)).ops) (sym same) (trim_newest l.base l.last ops o l.first l.most)

-- then there are few bytes, or one operation
trim_bounded : (base last : List ℕ) (o : Placed) (ops : List Placed) (first most : ℕ) → (weights (trimmed (log_at base last (o ∷ ops) first most)).ops ≤ most) ⊎ (length (trimmed (log_at base last (o ∷ ops) first most)).ops ≡ 1)
trim_bounded base last o [] first most = inr refl
trim_bounded base last o (p ∷ ops) first most = elim (weigh (weights (o ∷ p ∷ ops)) most) [
  | inl less ↦ subst (λ (l : Log). (weights l.ops ≤ most) ⊎ (length l.ops ≡ 1)) (sym (light base last o p ops first most less)) (inl less)
  | inr more ↦ subst (λ (l : Log). (weights l.ops ≤ most) ⊎ (length l.ops ≡ 1)) (sym (heavy base last o p ops first most more)) (trim_bounded (risen base o) last p ops (first + 1) most)
]

bounded_by : (base last : List ℕ) (ops : List Placed) (first most : ℕ) → 0 < length ops → (weights (trimmed (log_at base last ops first most)).ops ≤ most) ⊎ (length (trimmed (log_at base last ops first most)).ops ≡ 1)
bounded_by base last [] first most some = absurd (omega arith)
bounded_by base last (o ∷ ops) first most some = trim_bounded base last o ops first most

pub trimmed_bounded : (l : Log) → 0 < length l.ops → (weights (trimmed l).ops ≤ l.most) ⊎ (length (trimmed l).ops ≡ 1)
trimmed_bounded l some = bounded_by l.base l.last l.ops l.first l.most some

-- ---- several come

pub added_all_push : (ops : List Placed) (o : Placed) (l : Log) → added_all (ops ++ o ∷ []) l ≡ added o (added_all ops l)
added_all_push [] o l = refl
added_all_push (x ∷ ops) o l = added_all_push ops o (added x l)
