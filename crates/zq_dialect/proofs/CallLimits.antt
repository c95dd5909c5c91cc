-- What the words of a request ask keeps the limits of the request.

use Rattle.std.proofs.Common.{All, Bool, Err, IfOk, List, None, Ok, Option, Result, Some, T, [], arith, cond, false, int_lt, length, not, pos, refl, subst, sym, true, ℤ, ◌∷◌, ◌≡◌, ◌≤◌}
use Rattle.std.proofs.lemmas.List.Elements.{All-head, All-tail}
use Rattle.std.specs.Int.Signed.{lt_z_no}
use Rattle.std.specs.Option.{IfSome}
use Rattle.zq_dialect.specs.Asked.{Finds}
use Rattle.zq_dialect.specs.Further.{Asking, Finding, asked_by, call_of, finding, found_by, further_of, or_refused, places_removed, pop_last, scores_removed}
use Rattle.zq_dialect.specs.declared.further.Further.{Further}
use Rattle.zq_dialect.specs.declared.further.Further.TheVariants as further
use Rattle.zq_words.proofs.Limits.{bound_within}
use Rattle.zq_words.specs.Bounds.{bound_of}
use Rattle.zq_words.specs.Calls.{Call, Exist, IsCallWithinLimits, PopLast, RemoveRange, Scores, TypeOf, call_shown}
use Rattle.zq_words.specs.Limits.{IsShort}
use Rattle.zq_words.specs.Words.{Word, whole_of}
use Rattle.zq_words.specs.declared.range.Range.TheVariants.{ByPlace, ByScore}
use Rattle.zq_words.specs.declared.refused.Refused.{Refused}
use Rattle.zq_words.specs.declared.refused.Refused.TheVariants as refused
use Rattle.zq_words.specs.declared.site_call.SiteCall.{SiteCall}

ok_is : {x y : Call} → ◌≡◌ {A = Asking} (Ok x) (Ok y) → x ≡ y
ok_is e = cc

err_ok : {why : Refused} {y : Call} → ◌≡◌ {A = Asking} (Err why) (Ok y) → ⊥
err_ok e = cc

is_that : (d c : Call) → IsCallWithinLimits d → ◌≡◌ {A = Asking} (Ok d) (Ok c) → IsCallWithinLimits c
is_that d c within e = subst IsCallWithinLimits (ok_is e) within

else_ok : {X : Type 0} (why : Refused) (o : Option X) (f : X → Asking) (c : Call) → or_refused why o f ≡ Ok c → (x : X) × (o ≡ Some x) × (f x ≡ Ok c)
else_ok why None f c e = absurd (err_ok e)
else_ok why (Some x) f c e = (x, refl, e)

if_not : (b : Bool) (why : Refused) (asking : Asking) (c : Call) → cond b (Err why) asking ≡ Ok c → (b ≡ false) × (asking ≡ Ok c)
if_not true why asking c e = absurd (err_ok e)
if_not false why asking c e = (refl, e)

counted_within : (key : Word) (count : ℤ) (c : Call) → IsShort key → pop_last key count ≡ Ok c → IsCallWithinLimits c
counted_within key count c k e =
    let checked = if_not (int_lt count (pos 0)) refused.Negative _ c e in
    is_that (PopLast key count) c (k, lt_z_no (subst (λ b. T (not b)) (sym checked.0) tt)) checked.1

scores_within : (key a b : Word) (c : Call) → IsShort key → scores_removed key a b ≡ Ok c → IsCallWithinLimits c
scores_within key a b c k e =
    let min = else_ok refused.Bound (bound_of a) (λ min. or_refused refused.Bound (bound_of b) (λ max. Ok (RemoveRange key (ByScore min max None)))) c e in
    let max = else_ok refused.Bound (bound_of b) (λ max. Ok (RemoveRange key (ByScore min.0 max None))) c min.2 in
    is_that (RemoveRange key (ByScore min.0 max.0 None)) c (k, (bound_within a min.0 min.1, bound_within b max.0 max.1)) max.2

places_within : (key a b : Word) (c : Call) → IsShort key → places_removed key a b ≡ Ok c → IsCallWithinLimits c
places_within key a b c k e =
    let start = else_ok refused.Whole (whole_of a) (λ start. or_refused refused.Whole (whole_of b) (λ stop. Ok (RemoveRange key (ByPlace start stop)))) c e in
    let stop = else_ok refused.Whole (whole_of b) (λ stop. Ok (RemoveRange key (ByPlace start.0 stop))) c start.2 in
    is_that (RemoveRange key (ByPlace start.0 stop.0)) c (k, tt) stop.2

first_short : (a : Word) (words : List Word) → All IsShort (a ∷ words) → IsShort a
first_short a words short = All-head IsShort a words short

asked_within : (known : Further) (words : List Word) (c : Call) → All IsShort words → length words ≤ 65536 → asked_by known words ≡ Ok c → IsCallWithinLimits c
asked_within further.Zmscore [] c short few e = absurd (err_ok e)
asked_within further.Zmscore (k ∷ []) c short few e = absurd (err_ok e)
asked_within further.Zmscore (k ∷ m ∷ members) c short few e =
    is_that (Scores k (m ∷ members)) c (first_short k (m ∷ members) short, All-tail IsShort k (m ∷ members) short, omega (arith, few)) e
asked_within further.Exists [] c short few e = absurd (err_ok e)
asked_within further.Exists (k ∷ keys) c short few e = is_that (Exist (k ∷ keys)) c (short, few) e
asked_within further.TypeOf [] c short few e = absurd (err_ok e)
asked_within further.TypeOf (k ∷ []) c short few e = is_that (TypeOf k) c (first_short k [] short) e
asked_within further.TypeOf (k ∷ m ∷ words) c short few e = absurd (err_ok e)
asked_within further.Zpopmax [] c short few e = absurd (err_ok e)
asked_within further.Zpopmax (k ∷ []) c short few e = is_that (PopLast k (pos 1)) c (first_short k [] short, lt_z_no tt) e
asked_within further.Zpopmax (k ∷ n ∷ []) c short few e =
    let parts = else_ok refused.Whole (whole_of n) (pop_last k) c e in
    counted_within k parts.0 c (first_short k (n ∷ []) short) parts.2
asked_within further.Zpopmax (k ∷ n ∷ m ∷ words) c short few e = absurd (err_ok e)
asked_within further.Zremrangebyscore [] c short few e = absurd (err_ok e)
asked_within further.Zremrangebyscore (k ∷ []) c short few e = absurd (err_ok e)
asked_within further.Zremrangebyscore (k ∷ a ∷ []) c short few e = absurd (err_ok e)
asked_within further.Zremrangebyscore (k ∷ a ∷ b ∷ []) c short few e = scores_within k a b c (first_short k (a ∷ b ∷ []) short) e
asked_within further.Zremrangebyscore (k ∷ a ∷ b ∷ d ∷ words) c short few e = absurd (err_ok e)
asked_within further.Zremrangebyrank [] c short few e = absurd (err_ok e)
asked_within further.Zremrangebyrank (k ∷ []) c short few e = absurd (err_ok e)
asked_within further.Zremrangebyrank (k ∷ a ∷ []) c short few e = absurd (err_ok e)
asked_within further.Zremrangebyrank (k ∷ a ∷ b ∷ []) c short few e = places_within k a b c (first_short k (a ∷ b ∷ []) short) e
asked_within further.Zremrangebyrank (k ∷ a ∷ b ∷ d ∷ words) c short few e = absurd (err_ok e)

none_found : {X : Type 0} {c : Call} → ◌≡◌ {A = Finding} (Ok None) (Ok (Some c)) → X
none_found e = cc

found_ok : (asking : Asking) (c : Call) → found_by asking ≡ Ok (Some c) → asking ≡ Ok c
found_ok (Ok d) c e = cc
found_ok (Err why) c e = cc

finding_within : (known : Option Further) (words : List Word) (c : Call) → All IsShort words → length words ≤ 65536 → finding known words ≡ Ok (Some c) → IsCallWithinLimits c
finding_within None words c short few e = none_found e
finding_within (Some known) words c short few e = asked_within known words c short few (found_ok (asked_by known words) c e)

call_within : (words : List Word) (c : Call) → All IsShort words → length words ≤ 65536 → call_of words ≡ Ok (Some c) → IsCallWithinLimits c
call_within [] c short few e = none_found e
call_within (word ∷ words) c short few e =
    finding_within (further_of word) words c (All-tail IsShort word words short) (omega (arith, few)) e

-- so does what is found in memory
pub found_within : (words : List Word) (result : Result (Option SiteCall) Refused) → All IsShort words → length words ≤ 65536 → Finds result (call_of words) →
    IfOk result (λ found. IfSome found (λ call. IsCallWithinLimits (call_shown call)))
found_within words (Ok None) short few e = tt
found_within words (Ok (Some call)) short few e = call_within words (call_shown call) short few e
found_within words (Err why) short few e = tt
