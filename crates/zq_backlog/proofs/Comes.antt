-- What is promised of an operation that comes.

use Rattle.std.proofs.Common.{[], ap, arith, get_or, inl, inr, leb, length, refl, subst, sym, ◌++◌, ◌<◌, ◌∙◌, ◌∷◌, ◌≡◌, ◌≤◌, ◌⊎◌}
use Rattle.std.proofs.lemmas.Bool.{cases_lt, cond-false, cond-true, le-leb, lt-leb}
use Rattle.std.proofs.lemmas.List.{length_push}
use Rattle.zq_backlog.proofs.Logs.{one_comes}
use Rattle.zq_backlog.proofs.Trims.{newest_stays, trimmed_bounded, trimmed_keeps}
use Rattle.zq_backlog.specs.Laws.{IsBounded, NewestStays, NoneIsInvented, StaysLog}
use Rattle.zq_backlog.specs.Log.{IsLog, Log, added, appended, excess, trimmed}
use Rattle.zq_backlog.specs.Written.{weights}
use Rattle.zq_dots.specs.Placed.{Placed}
use Rattle.zq_model.specs.Sets.{IsIn}

pub known_added : (o : Placed) (l : Log) → o.operation.n ≤ get_or l.last o.operation.site 0 → added o l ≡ l
unfolding added
known_added o l known = cond-true (leb o.operation.n (get_or l.last o.operation.site 0)) l (trimmed (appended o l)) (le-leb o.operation.n (get_or l.last o.operation.site 0) known)

pub new_added : (o : Placed) (l : Log) → get_or l.last o.operation.site 0 < o.operation.n → added o l ≡ trimmed (appended o l)
unfolding added
new_added o l new = cond-false (leb o.operation.n (get_or l.last o.operation.site 0)) l (trimmed (appended o l)) (lt-leb o.operation.n (get_or l.last o.operation.site 0) new)

pub stays_log : StaysLog
stays_log o l sound log = elim (cases_lt (get_or l.last o.operation.site 0) o.operation.n) [
  | inl new ↦ subst IsLog (sym (new_added o l new)) (trimmed_keeps (appended o l) (one_comes o l sound new log))
  | inr known ↦ subst IsLog (sym (known_added o l known)) log
]

pub none_is_invented : NoneIsInvented
none_is_invented o l = elim (cases_lt (get_or l.last o.operation.site 0) o.operation.n) [
  | inl new ↦ (
    excess l.most (l.ops ++ o ∷ []),
    ap (λ (m : Log). m.first) (new_added o l new),
    inr (ap (λ (m : Log). m.ops) (new_added o l new)),
  )
  | inr known ↦ (0, ap (λ (m : Log). m.first) (known_added o l known) ∙ omega arith, inl (ap (λ (m : Log). m.ops) (known_added o l known)))
]

pub newest_is_there : NewestStays
newest_is_there o l new = subst (λ (m : Log). IsIn o m.ops) (sym (new_added o l new)) (newest_stays (appended o l) l.ops o refl)

pub is_bounded : IsBounded
is_bounded o l new =
    let some : 0 < length (l.ops ++ o ∷ []) = omega (arith, length_push l.ops o) in
    subst (λ (m : Log). (weights m.ops ≤ l.most) ⊎ (length m.ops ≡ 1)) (sym (new_added o l new)) (trimmed_bounded (appended o l) some)
