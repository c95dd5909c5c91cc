-- How many operations a batch looks at, and takes.

use Rattle.std.proofs.Common.{Bool, List, ap, arith, get_or, inl, inr, length, subst, take, ℕ, ◌+◌, ◌-◌, ◌<◌, ◌≡◌, ◌≤◌}
use Rattle.std.proofs.lemmas.Bool.{cases_Bool, cases_lt, cases_order}
use Rattle.std.proofs.lemmas.List.{get_or_default, length_push}
use Rattle.zq_backlog.proofs.Picked.{passes_next, sent_at, takes_next}
use Rattle.zq_backlog.specs.Batch.{is_wanted, picked}
use Rattle.zq_backlog.specs.Laws.{AreFew, IsOne}
use Rattle.zq_dots.specs.Placed.{Placed}
use Rattle.zq_backlog.specs.Written.{nothing}

-- one more that is looked at is one more that is taken, at most
one_more : (class : List Bool) (sent : List ℕ) (ops : List Placed) (k : ℕ) → k < length ops → length (picked class sent (take (k + 1) ops)) ≤ length (picked class sent (take k ops)) + 1
one_more class sent ops k in' =
    let o = get_or ops k nothing in
    elim (cases_Bool (is_wanted class (sent_at class sent ops k) o)) [
      | inl e ↦ omega (arith, ap length (takes_next class sent ops k o in' (get_or_default ops k nothing o in') e), length_push (picked class sent (take k ops)) o)
      | inr e ↦ omega (arith, ap length (passes_next class sent ops k o in' (get_or_default ops k nothing o in') e))
    ]

pub are_few : AreFew
are_few class sent allow ops k looked = elim (cases_lt 0 k) [
  | inl some ↦
      let open' = looked.before (k - 1) (omega arith) in
      let more = one_more class sent ops (k - 1) (omega (arith, looked.within)) in
      let same : (k - 1) + 1 ≡ k = omega arith in
      subst (λ n. length (picked class sent (take n ops)) ≤ allow) same (omega (arith, open'.0))
  | inr none ↦
      let zero : 0 ≡ k = omega arith in
      subst (λ n. length (picked class sent (take n ops)) ≤ allow) zero (omega arith)
]

pub is_one : IsOne
is_one class sent allow ops j k first second = elim (cases_order j k) [
  | inl same ↦ same
  | inr differ ↦ elim differ [
    | inl less ↦ absurd (first.ends (omega (arith, second.within)) (second.before j less))
    | inr more ↦ absurd (second.ends (omega (arith, first.within)) (first.before k more))
  ]
]
