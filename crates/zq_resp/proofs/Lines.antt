-- A line of digits, one byte further.
use Rattle.std.proofs.Common.{◌≡◌, ℕ, ◌+◌, ◌-◌, ◌*◌, ◌/◌, ◌%◌, ◌^◌, ◌<◌, ◌≤◌, List, [], ◌∷◌, ◌++◌, refl, ap, subst, append_assoc, ◌∙◌, arith}
use Rattle.std.specs.Fmt.{decimal}
use Rattle.std.proofs.lemmas.Bool.Decides.{nat_tests}
use Rattle.std.proofs.lemmas.Fmt.{decimal_digit, decimal_step, decimal_by_steps}
use Rattle.zq_resp.specs.declared.reader.line.Line.TheVariants as line
use Rattle.zq_resp.specs.Front.{Got}
use Rattle.zq_resp.specs.Grammar.{line_at}
use Rattle.zq_resp.specs.Spelling.{number_line}
use Rattle.zq_resp.specs.Suspended.{Goes}
use Rattle.zq_resp.specs.Line.{line_text, line_resume}

-- a digit more
pub decimal-more : (n d : ℕ) → 0 < n → d < 10 → n * 10 + d < 2 ^ 64 → decimal (n * 10 + d) ≡ decimal n ++ (48 + d) ∷ []
decimal-more n d some digit small =
    let front : (n * 10 + d) / 10 ≡ n = omega arith in
    let last : (n * 10 + d) % 10 ≡ d = omega arith in
    decimal_step (n * 10 + d) (omega arith) small ∙ (rw (front, last) refl)

pub digits_grow : (limit n b : ℕ) → 0 < n → 48 ≤ b → b ≤ 57 → n * 10 + (b - 48) ≤ limit → limit < 2 ^ 32 → Goes line_text (line_resume limit) (line.Digits n) (line.Digits (n * 10 + (b - 48))) (b ∷ [])
digits_grow limit n b some low high within small =
    let digit : 48 + (b - 48) ≡ b = omega arith in
    record {
      text_grows = decimal-more n (b - 48) some (omega arith) (omega arith) ∙ (rw digit refl);
      resumes = λ more. grind (arith, nat_tests);
    }

pub digits_begin : (limit b : ℕ) → 48 ≤ b → b ≤ 57 → Goes line_text (line_resume limit) line.Start (line.Digits (b - 48)) (b ∷ [])
digits_begin limit b low high =
    let digit : 48 + (b - 48) ≡ b = omega arith in
    record {
      text_grows = decimal_digit (b - 48) (omega arith) ∙ (rw digit refl);
      resumes = λ more. grind (arith, nat_tests);
    }

-- these digits of a number are read as the number
abbrev ReadAs : ℕ → ℕ → List ℕ → Type 0
ReadAs limit n digits = n ≤ limit → (more : List ℕ) → line_at limit (digits ++ more) ≡ line_resume limit (line.Digits n) more

one_digit : (limit n : ℕ) → n < 10 → ReadAs limit n ((48 + n) ∷ [])
one_digit limit n digit within more =
    let back : 48 + n - 48 ≡ n = omega arith in
    subst (λ m. line_at limit ((48 + n) ∷ more) ≡ line_resume limit (line.Digits m) more) back ((digits_begin limit (48 + n) (omega arith) (omega arith)).resumes more)

digit_more : (limit n : ℕ) (digits : List ℕ) → limit < 2 ^ 32 → 10 ≤ n → ReadAs limit (n / 10) digits → ReadAs limit n (digits ++ (48 + n % 10) ∷ [])
digit_more limit n digits small ten front within more =
    let back : n / 10 * 10 + (48 + n % 10 - 48) ≡ n = omega arith in
    let step = (digits_grow limit (n / 10) (48 + n % 10) (omega arith) (omega arith) (omega arith) (omega arith) small).resumes more in
    ap (line_at limit) (append_assoc digits ((48 + n % 10) ∷ []) more)
    ∙ (front (omega arith) ((48 + n % 10) ∷ more)
    ∙ subst (λ m. line_resume limit (line.Digits (n / 10)) ((48 + n % 10) ∷ more) ≡ line_resume limit (line.Digits m) more) back step)

-- the digits of a number are read as the number
pub digits_again : (limit n : ℕ) → limit < 2 ^ 32 → ReadAs limit n (decimal n)
digits_again limit n small within =
    decimal_by_steps (ReadAs limit) (one_digit limit) (λ n digits. digit_more limit n digits small) n (omega arith) within

line_ended : (limit n : ℕ) (more : List ℕ) → line_resume limit (line.Digits n) (13 ∷ 10 ∷ more) ≡ Got (n, more)
line_ended limit n more = grind (arith, nat_tests)

-- a number's line is read as the number
pub line_again : (limit n : ℕ) (more : List ℕ) → n ≤ limit → limit < 2 ^ 32 → line_at limit (number_line n ++ more) ≡ Got (n, more)
line_again limit n more within small =
    ap (line_at limit) (append_assoc (decimal n) (13 ∷ 10 ∷ []) more)
    ∙ (digits_again limit n small within (13 ∷ 10 ∷ more) ∙ line_ended limit n more)
