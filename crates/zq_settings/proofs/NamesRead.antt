-- The code of names computes what the definitions say.
use Rattle.zq_settings.proofs.HostBytes.{all_digits, decimals, some_digits}
use Rattle.std.proofs.Common.{◌-◌, ◌≡◌, ◌≤◌, ◌<◌, ◌^◌, ◌&&◌, ℕ, pos, true, leb, eqb, not, List, drop, length, reverse, Some, None, Result, Ok, Err, sym, ap, ◌∙◌, arith, inl, inr}
use Rattle.std.proofs.lemmas.Bool.{and_parts, cases_Bool, leb-true}
use Rattle.std.proofs.lemmas.List.Folds.{length-prefix_len}
use Rattle.std.proofs.lemmas.Str.Parse.{parse_digits}
use Rattle.std.specs.Char.{is_ascii_digit}
use Rattle.std.specs.List.{list_all, take_while}
use Rattle.std.specs.Result.{OkIff, result_ok}
use Rattle.std.specs.Str.Parse.{ParsesUnsigned, digits_value}
use Rattle.zq_settings.specs.Hosts.{dot, is_port_text, last_label, port_in}
use Rattle.zq_settings.specs.Numbers.{within}

-- a port of digits
read_digits : {E : Type 0} (text : List ℕ) (r : Result ℕ E) → ParsesUnsigned 16 10 text r → list_all is_ascii_digit text ≡ true → OkIff r ((0 < length text) × (digits_value 10 text < 2 ^ 16)) (digits_value 10 text)
read_digits text r parsed digits = parse_digits decimals 16 text r parsed (sym (all_digits text) ∙ digits)

pub port_read : {E : Type 0} (text : List ℕ) (n : ℕ) (r : Result ℕ E) → ParsesUnsigned 16 10 text r → list_all is_ascii_digit text ≡ true → result_ok r ≡ Some n → within 1 65535 (pos n) ≡ port_in text
port_read {E = E} text n (Ok m) parsed digits is =
    let same : n ≡ m = cc in
    let value : m ≡ digits_value 10 text = (read_digits {E = E} text (Ok m) parsed digits).1 in
    rw (same, value, digits)
port_read text n (Err e) parsed digits is = cc

pub port_unread : {E : Type 0} (text : List ℕ) (r : Result ℕ E) → ParsesUnsigned 16 10 text r → list_all is_ascii_digit text ≡ true → result_ok r ≡ None → None ≡ port_in text
port_unread text (Ok m) parsed digits is = cc
port_unread {E = E} text (Err e) parsed digits is =
    let none = read_digits {E = E} text (Err e) parsed digits in
    elim (cases_Bool (is_port_text text)) [
      | inl written ↦
          let bounds = (and_parts (list_all is_ascii_digit text) (leb 1 (digits_value 10 text) && leb (digits_value 10 text) 65535) written).1 in
          let both = and_parts (leb 1 (digits_value 10 text)) (leb (digits_value 10 text) 65535) bounds in
          let low : 1 ≤ digits_value 10 text = leb-true 1 (digits_value 10 text) both.0 in
          let high : digits_value 10 text ≤ 65535 = leb-true (digits_value 10 text) 65535 both.1 in
          absurd (none (some_digits text low, omega (arith, high)))
      | inr other ↦ rw other
    ]

-- what stands behind the last dot
pub behind_last : (name : List ℕ) (n : ℕ) → n ≡ length (take_while (λ b. not (eqb b dot)) (reverse name)) → drop (length name - n) name ≡ last_label name
behind_last name n same = ap (λ m. drop (length name - m) name) (same ∙ length-prefix_len (λ b. not (eqb b dot)) (reverse name))
