-- What a batch takes of some operations.

use Rattle.std.proofs.Common.{Bool, List, [], ap, arith, false, get_or, inl, inr, length, ltb, max, refl, slice_set, sym, take, true, true≢false, ℕ, ◌++◌, ◌+◌, ◌<◌, ◌∙◌, ◌∷◌, ◌≡◌, ◌≤◌}
use Rattle.std.proofs.lemmas.Bool.{and_cases, and_parts, cases_Bool, cond-false, cond-true, ltb-false, ltb-true}
use Rattle.std.proofs.lemmas.List.{append-nil, take_more}
use Rattle.zq_backlog.specs.Batch.{is_of, is_wanted, picked}
use Rattle.zq_backlog.specs.Log.{raised, risen}
use Rattle.zq_dots.specs.Placed.{Placed}

-- ---- what is wanted

-- it is of the class, and above what was sent
pub record IsWanted (class : List Bool) (sent : List ℕ) (o : Placed) : Type 0 where
  pub is : is_of class o.operation.site ≡ true
  pub above : get_or sent o.operation.site 0 < o.operation.n

pub wanted : (class : List Bool) (sent : List ℕ) (o : Placed) → is_wanted class sent o ≡ true → IsWanted class sent o
wanted class sent o e =
    let both = and_parts (is_of class o.operation.site) (ltb (get_or sent o.operation.site 0) o.operation.n) e in
    record { is = both.0; above = ltb-true (get_or sent o.operation.site 0) o.operation.n both.1 }

pub unwanted : (class : List Bool) (sent : List ℕ) (o : Placed) → is_wanted class sent o ≡ false → is_of class o.operation.site ≡ true → o.operation.n ≤ get_or sent o.operation.site 0
unwanted class sent o e is = elim (and_cases (is_of class o.operation.site) (ltb (get_or sent o.operation.site 0) o.operation.n) e) [
  | inl other ↦ absurd (true≢false (sym is ∙ other))
  | inr known ↦ ltb-false (get_or sent o.operation.site 0) o.operation.n known
]

-- the first is taken, or not
pub picks : (class : List Bool) (sent : List ℕ) (o : Placed) (ops : List Placed) → is_wanted class sent o ≡ true → picked class sent (o ∷ ops) ≡ o ∷ picked class (risen sent o) ops
picks class sent o ops e = cond-true (is_wanted class sent o) (o ∷ picked class (risen sent o) ops) (picked class sent ops) e

pub passes : (class : List Bool) (sent : List ℕ) (o : Placed) (ops : List Placed) → is_wanted class sent o ≡ false → picked class sent (o ∷ ops) ≡ picked class sent ops
passes class sent o ops e = cond-false (is_wanted class sent o) (o ∷ picked class (risen sent o) ops) (picked class sent ops) e

-- ---- one after the other

pub raised-append : (v : List ℕ) (xs ys : List Placed) → raised v (xs ++ ys) ≡ raised (raised v xs) ys
raised-append v [] ys = refl
raised-append v (x ∷ xs) ys = raised-append (risen v x) xs ys

pub picked-append : (class : List Bool) (sent : List ℕ) (xs ys : List Placed) → picked class sent (xs ++ ys) ≡ picked class sent xs ++ picked class (raised sent (picked class sent xs)) ys
picked-append class sent [] ys = refl
picked-append class sent (x ∷ xs) ys = elim (cases_Bool (is_wanted class sent x)) [
  | inl e ↦
      picks class sent x (xs ++ ys) e
      ∙ ap (λ zs. x ∷ zs) (picked-append class (risen sent x) xs ys)
      ∙ ap (λ zs. zs ++ picked class (raised sent zs) ys) (sym (picks class sent x xs e))
  | inr e ↦
      passes class sent x (xs ++ ys) e
      ∙ picked-append class sent xs ys
      ∙ ap (λ zs. zs ++ picked class (raised sent zs) ys) (sym (passes class sent x xs e))
]

-- what was sent, behind so many of them
abbrev pub sent_at : List Bool → List ℕ → List Placed → ℕ → List ℕ
sent_at class sent ops k = raised sent (picked class sent (take k ops))

picked_next : (class : List Bool) (sent : List ℕ) (ops : List Placed) (k : ℕ) (o : Placed) → k < length ops → o ≡ get_or ops k o → picked class sent (take (k + 1) ops) ≡ picked class sent (take k ops) ++ picked class (sent_at class sent ops k) (o ∷ [])
picked_next class sent ops k o in' is =
    ap (picked class sent) (take_more ops k o in' ∙ ap (λ p. take k ops ++ p ∷ []) (sym is)) ∙ picked-append class sent (take k ops) (o ∷ [])

-- the next is taken
pub takes_next : (class : List Bool) (sent : List ℕ) (ops : List Placed) (k : ℕ) (o : Placed) → k < length ops → o ≡ get_or ops k o → is_wanted class (sent_at class sent ops k) o ≡ true → picked class sent (take (k + 1) ops) ≡ picked class sent (take k ops) ++ o ∷ []
takes_next class sent ops k o in' is e =
    picked_next class sent ops k o in' is ∙ ap (λ zs. picked class sent (take k ops) ++ zs) (picks class (sent_at class sent ops k) o [] e)

-- the next is not taken
pub passes_next : (class : List Bool) (sent : List ℕ) (ops : List Placed) (k : ℕ) (o : Placed) → k < length ops → o ≡ get_or ops k o → is_wanted class (sent_at class sent ops k) o ≡ false → picked class sent (take (k + 1) ops) ≡ picked class sent (take k ops)
passes_next class sent ops k o in' is e =
    picked_next class sent ops k o in' is
    ∙ ap (λ zs. picked class sent (take k ops) ++ zs) (passes class (sent_at class sent ops k) o [] e)
    ∙ append-nil (picked class sent (take k ops))

-- what is set for one that is wanted is what knowing it makes
pub set_is_risen : (sent : List ℕ) (o : Placed) → get_or sent o.operation.site 0 < o.operation.n → slice_set sent o.operation.site o.operation.n ≡ risen sent o
set_is_risen sent o above =
    let m : o.operation.n ≡ max (get_or sent o.operation.site 0) o.operation.n = omega arith in
    ap (slice_set sent o.operation.site) m
