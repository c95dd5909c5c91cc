-- Tails of which the oldest records were cut off.

use Rattle.std.proofs.Common.{ap, arith, cond, inl, inr, subst, sym, ◌∙◌}
use Rattle.std.proofs.lemmas.Bool.{cases_Bool}
use Rattle.std.proofs.lemmas.Bool.Decides.{nat_tests}
use Rattle.std.proofs.lemmas.List.{append-nil, append_assoc, length-append, length-drop, take-append-drop}
use Rattle.std.proofs.lemmas.List.Sums.{sum_by-append}
use Rattle.std.specs.Prelude.{List, None, Option, Some, [], drop, length, max, nat_le, refl, suc, take, true, zero, ℕ, ◌++◌, ◌-◌, ◌<◌, ◌∷◌, ◌≡◌, ◌≤◌, ◌⊎◌}
use Rattle.zq_model.proofs.BookTails.{tail_after-behind}
use Rattle.zq_model.specs.Books.{Book, Record, Step, tail_after}
use Rattle.zq_model.specs.Limits.{TailLimits, standard}
use Rattle.zq_model.specs.Reach.{IsCutOff, IsHeavy, bytes_in, bytes_of, cut_at_most, cut_by_bytes, cut_by_length, cut_of, cut_to_bytes}

-- what was cut off a tail, and how it stands to the whole
pub record IsCut (limits : TailLimits) (whole tail : List Record) : Type 0 where
  pub cut : List Record
  pub is : cut ++ tail ≡ whole
  pub long : IsCutOff limits cut tail

bytes_in-append : (x y : List Record) → bytes_in x ≤ bytes_in (x ++ y)
bytes_in-append x y = omega (arith, sum_by-append bytes_of x y)

bytes_in-behind : (x y : List Record) → bytes_in y ≤ bytes_in (x ++ y)
bytes_in-behind x y = omega (arith, sum_by-append bytes_of x y)

heavier : (most : Option ℕ) (x y : List Record) → bytes_in x ≤ bytes_in y → IsHeavy most x → IsHeavy most y
heavier None x y more heavy = heavy
heavier (Some most) x y more heavy = omega arith

-- a tail that has grown was cut no less
cut_grown : (limits : TailLimits) (cut tail added : List Record) → IsCutOff limits cut tail → IsCutOff limits cut (tail ++ added)
cut_grown limits cut tail added (inl none) = inl none
cut_grown limits cut tail added (inr (inl long)) = inr (inl (omega (arith, length-append tail added)))
cut_grown limits cut tail added (inr (inr heavy)) =
    inr (inr (subst (IsHeavy limits.bytes) (append_assoc cut tail added) (heavier limits.bytes (cut ++ tail) ((cut ++ tail) ++ added) (bytes_in-append (cut ++ tail) added) heavy)))

-- and one of which more was cut before
cut_before : (limits : TailLimits) (front cut tail : List Record) → (limits.kept ≤ length tail) ⊎ IsHeavy limits.bytes (cut ++ tail) → IsCutOff limits (front ++ cut) tail
cut_before limits front cut tail (inl long) = inr (inl long)
cut_before limits front cut tail (inr heavy) =
    inr (inr (subst (IsHeavy limits.bytes) (sym (append_assoc front cut tail)) (heavier limits.bytes (cut ++ tail) (front ++ (cut ++ tail)) (bytes_in-behind front (cut ++ tail)) heavy)))

-- a tail that was cut, and after further steps was cut again, was cut from the tail of all the steps
pub cut_again : (limits : TailLimits) (whole mid tail : List Record) (xs : List Step) → IsCut limits whole mid → IsCut limits (tail_after mid xs) tail → IsCut limits (tail_after whole xs) tail
cut_again limits whole mid tail xs first second =
    elim (tail_after-behind first.cut mid xs) [
      | inl same ↦ record { cut = second.cut; is = second.is ∙ sym same ∙ ap (λ t. tail_after t xs) first.is; long = second.long }
      | inr kept ↦ record {
        cut = first.cut ++ second.cut;
        is = append_assoc first.cut second.cut tail ∙ ap (λ t. first.cut ++ t) second.is ∙ sym kept.0 ∙ ap (λ t. tail_after t xs) first.is;
        long = elim second.long [
          | inl none ↦ (
              let grown : tail ≡ mid ++ kept.1.0 = ap (λ t. t ++ tail) (sym none) ∙ second.is ∙ kept.1.1 in
              rw (none, append-nil first.cut, grown) (cut_grown limits first.cut mid kept.1.0 first.long))
          | inr long ↦ cut_before limits first.cut second.cut tail long
        ];
      }
    ]

heavy_cut : (most : Option ℕ) (tail : List Record) → 0 < cut_by_bytes most tail → IsHeavy most tail
heavy_cut None tail some = absurd (omega arith)
heavy_cut (Some most) [] some = absurd (omega arith)
heavy_cut (Some most) (r ∷ tail) some =
    elim (cases_Bool (nat_le (bytes_in (r ∷ tail)) most)) [
      | inl light ↦ absurd (let none : 0 < cond true 0 (suc (cut_to_bytes most tail)) = subst (λ b. 0 < cond b 0 (suc (cut_to_bytes most tail))) light some in omega arith)
      | inr heavy ↦ grind (arith, nat_tests)
    ]

long_cut : (limits : TailLimits) (n length : ℕ) → 0 < n → n ≤ cut_by_length limits length → limits.kept ≤ length - n
long_cut limits n length some most =
    elim (cases_Bool (nat_le limits.long length)) [
      | inl long ↦ (let few : n ≤ length - limits.kept = subst (λ b. n ≤ cond b (length - limits.kept) 0) long most in omega arith)
      | inr short ↦ absurd (let none : n ≤ 0 = subst (λ b. n ≤ cond b (length - limits.kept) 0) short most in omega arith)
    ]

left_off : (n : ℕ) (tail : List Record) (limits : TailLimits) → n ≤ max (cut_by_length limits (length tail)) (cut_by_bytes limits.bytes tail) → IsCutOff limits (take n tail) (drop n tail)
left_off zero tail limits most = inl refl
left_off (suc m) tail limits most =
    elim (cases_Bool (nat_le (suc m) (cut_by_length limits (length tail)))) [
      | inl by_length ↦ inr (inl (omega (arith, length-drop (suc m) tail, long_cut limits (suc m) (length tail) (omega arith) (grind (arith, nat_tests)))))
      | inr by_bytes ↦ inr (inr (subst (IsHeavy limits.bytes) (sym (take-append-drop (suc m) tail)) (heavy_cut limits.bytes tail (grind (arith, nat_tests)))))
    ]

-- a cut of the oldest records leaves enough of them
pub cut_off : (n : ℕ) (b : Book) → n ≤ cut_of b → IsCut b.limits b.tail (drop n b.tail)
cut_off n b most = record {
  cut = take n b.tail;
  is = take-append-drop n b.tail;
  long = left_off n b.tail b.limits (omega arith);
}

-- ---- what a cut takes

bytes_most : (most : ℕ) (tail : List Record) → cut_to_bytes most tail ≤ length tail
bytes_most most [] = omega arith
bytes_most most (r ∷ tail) =
    elim (cases_Bool (nat_le (bytes_in (r ∷ tail)) most)) [
      | inl light ↦ rw light (omega arith)
      | inr heavy ↦ rw heavy (omega (arith, bytes_most most tail))
    ]

by_bytes_most : (most : Option ℕ) (tail : List Record) → cut_by_bytes most tail ≤ length tail
by_bytes_most None tail = omega arith
by_bytes_most (Some most) tail = bytes_most most tail

by_length_most : (limits : TailLimits) (n : ℕ) → cut_by_length limits n ≤ n
by_length_most limits n =
    elim (cases_Bool (nat_le limits.long n)) [
      | inl long ↦ rw long (omega arith)
      | inr short ↦ rw short (omega arith)
    ]

-- records of the tail alone
pub within_tail : (b : Book) → cut_of b ≤ length b.tail
within_tail b = omega (arith, by_length_most b.limits (length b.tail), by_bytes_most b.limits.bytes b.tail)

-- as many as the limits say, where all may be cut
pub free_cut : (b : Book) → b.handed ≡ None → cut_of b ≡ max (cut_by_length b.limits (length b.tail)) (cut_by_bytes b.limits.bytes b.tail)
free_cut b handed =
    let all : cut_at_most b.handed b.count (length b.tail) ≡ length b.tail = ap (λ h. cut_at_most h b.count (length b.tail)) handed in
    omega (arith, by_length_most b.limits (length b.tail), by_bytes_most b.limits.bytes b.tail)

light_dropped : (most n : ℕ) (tail : List Record) → cut_to_bytes most tail ≤ n → bytes_in (drop n tail) ≤ most
light_dropped most zero [] more = omega arith
light_dropped most (suc n) [] more = omega arith
light_dropped most zero (r ∷ tail) more =
    elim (cases_Bool (nat_le (bytes_in (r ∷ tail)) most)) [
      | inl light ↦ grind (arith, nat_tests)
      | inr heavy ↦ absurd (let none : suc (cut_to_bytes most tail) ≤ 0 = subst (λ b. cond b 0 (suc (cut_to_bytes most tail)) ≤ 0) heavy more in omega arith)
    ]
light_dropped most (suc n) (r ∷ tail) more =
    elim (cases_Bool (nat_le (bytes_in (r ∷ tail)) most)) [
      | inl light ↦ (let least : bytes_in (r ∷ tail) ≤ most = grind (arith, nat_tests) in omega (arith, lighter (suc n) (r ∷ tail)))
      | inr heavy ↦ light_dropped most n tail (let rest : suc (cut_to_bytes most tail) ≤ suc n = subst (λ b. cond b 0 (suc (cut_to_bytes most tail)) ≤ suc n) heavy more in omega arith)
    ]
  where
    lighter : (n : ℕ) (tail : List Record) → bytes_in (drop n tail) ≤ bytes_in tail
    lighter n tail = subst (λ all. bytes_in (drop n tail) ≤ bytes_in all) (take-append-drop n tail) (bytes_in-behind (take n tail) (drop n tail))

-- and what it leaves has at most as many bytes as a tail keeps
pub light_left : (b : Book) (most : ℕ) → b.handed ≡ None → b.limits.bytes ≡ Some most → bytes_in (drop (cut_of b) b.tail) ≤ most
light_left b most handed bytes =
    let all : cut_at_most b.handed b.count (length b.tail) ≡ length b.tail = ap (λ h. cut_at_most h b.count (length b.tail)) handed in
    let by_bytes : cut_by_bytes b.limits.bytes b.tail ≡ cut_to_bytes most b.tail = ap (λ m. cut_by_bytes m b.tail) bytes in
    light_dropped most (cut_of b) b.tail (omega (arith, by_length_most b.limits (length b.tail), by_bytes_most b.limits.bytes b.tail))

-- where nothing else is said a tail is cut by its length alone
pub cut_of-standard : (b : Book) → b.handed ≡ None → b.limits ≡ standard → cut_of b ≡ cut_by_length standard (length b.tail)
cut_of-standard b handed limits =
    let all : cut_at_most b.handed b.count (length b.tail) ≡ length b.tail = ap (λ h. cut_at_most h b.count (length b.tail)) handed in
    let by_bytes : cut_by_bytes b.limits.bytes b.tail ≡ 0 = ap (λ (l : TailLimits). cut_by_bytes l.bytes b.tail) limits in
    let by_length : cut_by_length b.limits (length b.tail) ≡ cut_by_length standard (length b.tail) = ap (λ (l : TailLimits). cut_by_length l (length b.tail)) limits in
    omega (arith, by_length_most standard (length b.tail))
