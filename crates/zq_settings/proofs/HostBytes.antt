-- The bytes of names: none of them is a colon, and no name is the text of an IP address.
use Rattle.std.proofs.Common.{◌+◌, ◌-◌, ◌≡◌, ◌<◌, ◌≤◌, ◌&&◌, ◌||◌, ℕ, suc, Bool, true, false, eqb, leb, not, List, [], ◌∷◌, ◌++◌, append_assoc, codes, drop, length, length-append, reverse, take, refl, sym, ap, ◌∙◌, subst, arith, eq-eqb, inl, inr}
use Rattle.std.proofs.Math.Seq.{take-append_seam}
use Rattle.std.proofs.lemmas.Bool.{and_parts, cases_Bool, eqb-true}
use Rattle.std.proofs.lemmas.Fmt.{digits_decimal}
use Rattle.std.proofs.lemmas.List.{length-reverse, reverse-append}
use Rattle.std.proofs.lemmas.List.Folds.{list_all-append, prefix_len-append}
use Rattle.std.proofs.lemmas.Str.Parse.{IsNumeralModel, numerals_by_value, tells_all_ascii_digits}
use Rattle.std.specs.Char.{is_ascii_digit}
use Rattle.std.specs.Fmt.{decimal}
use Rattle.std.specs.List.{after_first, after_last, before_first, list_all, onto_first, prefix_len}
use Rattle.std.specs.Net.Grammar.{IsDotted}
use Rattle.std.specs.Str.{all_ascii_digits}
use Rattle.std.specs.Str.Parse.{digits_value}
use Rattle.zq_settings.specs.Hosts.{IsHost, are_labels, colon, dot, ends_in_number, has_hyphen_end, is_label, is_name_byte, labels_of}

-- what passes one test passes a weaker one
all_more : {A : Type 0} (p q : A → Bool) → ((a : A) → p a ≡ true → q a ≡ true) → (xs : List A) → list_all p xs ≡ true → list_all q xs ≡ true
all_more p q weaker [] h = refl
all_more p q weaker (x ∷ xs) h = let parts = and_parts (p x) (list_all p xs) h in rw (weaker x parts.0, all_more p q weaker xs parts.1)

-- all of a list is its longest front that passes
all_front : (p : ℕ → Bool) (bs : List ℕ) → list_all p bs ≡ true → prefix_len p bs ≡ length bs
all_front p [] h = refl
all_front p (b ∷ bs) h = let parts = and_parts (p b) (list_all p bs) h in rw parts.0 (omega (arith, all_front p bs parts.1))

all_reverse : (p : ℕ → Bool) (bs : List ℕ) → list_all p bs ≡ true → list_all p (reverse bs) ≡ true
all_reverse p [] h = refl
all_reverse p (b ∷ bs) h =
    let parts = and_parts (p b) (list_all p bs) h in
    ap (list_all p) (reverse-append (b ∷ []) bs) ∙ list_all-append p (reverse bs) (b ∷ []) ∙ rw (all_reverse p bs parts.1, parts.0) refl

-- where the front that passes ends at this byte
front_ends : (p : ℕ → Bool) (xs : List ℕ) (y : ℕ) (ys : List ℕ) → prefix_len p xs ≡ length xs → p y ≡ false → prefix_len p (xs ++ y ∷ ys) ≡ length xs
front_ends p xs y ys all stops = prefix_len-append p xs (y ∷ ys) ∙ rw (all, eq-eqb (length xs) (length xs) refl, stops) (omega arith)

drop_past : (xs : List ℕ) (y : ℕ) (ys : List ℕ) → drop (length xs + 1) (xs ++ y ∷ ys) ≡ ys
drop_past [] y ys = refl
drop_past (x ∷ xs) y ys = let e : suc (length xs) + 1 ≡ suc (length xs + 1) = omega arith in rw e (drop_past xs y ys)

-- what stands before the first colon, and behind it
pub before_colon : (name digits : List ℕ) → prefix_len (λ b. not (eqb b colon)) name ≡ length name → before_first (λ b. eqb b colon) (name ++ colon ∷ digits) ≡ name
before_colon name digits none = ap (λ n. take n (name ++ colon ∷ digits)) (front_ends (λ b. not (eqb b colon)) name colon digits none refl) ∙ take-append_seam name (colon ∷ digits)

pub after_colon : (name digits : List ℕ) → prefix_len (λ b. not (eqb b colon)) name ≡ length name → after_first (λ b. eqb b colon) (name ++ colon ∷ digits) ≡ digits
after_colon name digits none = ap (λ n. drop (n + 1) (name ++ colon ∷ digits)) (front_ends (λ b. not (eqb b colon)) name colon digits none refl) ∙ drop_past name colon digits

-- the bytes of a name
abbrev pub is_host_byte : ℕ → Bool
is_host_byte b = eqb b dot || is_name_byte b

label_bytes : (label : List ℕ) → is_label label ≡ true → list_all is_name_byte label ≡ true
label_bytes label h =
    let ends : Bool = not (has_hyphen_end label) in
    let least = and_parts (leb 1 (length label)) (leb (length label) 63 && (list_all is_name_byte label && ends)) h in
    let most = and_parts (leb (length label) 63) (list_all is_name_byte label && ends) least.1 in
    (and_parts (list_all is_name_byte label) ends most.1).0

onto_all : (p : ℕ → Bool) (b : ℕ) (parts : List (List ℕ)) → list_all (λ part. list_all p part) (onto_first b parts) ≡ true → (p b ≡ true) × (list_all (λ part. list_all p part) parts ≡ true)
onto_all p b [] h = let both = and_parts (p b && true) true h in ((and_parts (p b) true both.0).0, refl)
onto_all p b (part ∷ parts) h =
    let both = and_parts (p b && list_all p part) (list_all (λ part. list_all p part) parts) h in
    let here = and_parts (p b) (list_all p part) both.0 in
    (here.0, rw (here.1, both.1))

parts_bytes : (name : List ℕ) → list_all (λ part. list_all is_name_byte part) (labels_of name) ≡ true → list_all is_host_byte name ≡ true
parts_bytes [] h = refl
parts_bytes (b ∷ bs) h =
    elim (cases_Bool (eqb b dot)) [
      | inl is ↦ rw is (parts_bytes bs (rw is at h))
      | inr other ↦
          let both = onto_all is_name_byte b (labels_of bs) (rw other at h) in
          rw (other, both.0) (parts_bytes bs both.1)
    ]

pub host_bytes : (name : List ℕ) → IsHost name → list_all is_host_byte name ≡ true
host_bytes name host =
    let parts = and_parts (leb (length name) 253) (are_labels (labels_of name) && not (ends_in_number name)) host in
    let labels = (and_parts (are_labels (labels_of name)) (not (ends_in_number name)) parts.1).0 in
    parts_bytes name (all_more is_label (λ part. list_all is_name_byte part) label_bytes (labels_of name) labels)

no_colon_of : (b : ℕ) → is_host_byte b ≡ true → not (eqb b colon) ≡ true
no_colon_of b h =
    elim (cases_Bool (eqb b colon)) [
      | inl is ↦ let never : false ≡ true = subst (λ c. is_host_byte c ≡ true) (eqb-true b colon is) h in cc
      | inr other ↦ rw other
    ]

pub no_colon : (name : List ℕ) → list_all is_host_byte name ≡ true → prefix_len (λ b. not (eqb b colon)) name ≡ length name
no_colon name h = all_front (λ b. not (eqb b colon)) name (all_more is_host_byte (λ b. not (eqb b colon)) no_colon_of name h)

-- decimal digits
pub decimals : IsNumeralModel (λ ds. all_ascii_digits ds ≡ true) (digits_value 10)
decimals = numerals_by_value (λ ds. all_ascii_digits ds ≡ true) tells_all_ascii_digits

pub all_digits : (text : List ℕ) → list_all is_ascii_digit text ≡ all_ascii_digits text
all_digits [] = refl
all_digits (c ∷ cs) = ap (λ b. is_ascii_digit c && b) (all_digits cs)

pub some_digits : (text : List ℕ) → 1 ≤ digits_value 10 text → 0 < length text
some_digits [] low = absurd (omega (arith, low))
some_digits (c ∷ cs) low = omega arith

digit_bytes : (n : ℕ) → n < 256 → list_all is_ascii_digit (decimal n) ≡ true
digit_bytes n fits = all_digits (decimal n) ∙ digits_decimal decimals n (omega (arith, fits))

-- the text of an IPv4 address has such bytes, and ends in a number
digit_is_host_byte : (b : ℕ) → is_ascii_digit b ≡ true → is_host_byte b ≡ true
digit_is_host_byte b h = elim (cases_Bool (eqb b dot)) [ inl is ↦ rw is | inr other ↦ rw (other, h) ]

digit_is_no_dot : (b : ℕ) → is_ascii_digit b ≡ true → not (eqb b dot) ≡ true
digit_is_no_dot b h =
    elim (cases_Bool (eqb b dot)) [
      | inl is ↦ let never : false ≡ true = subst (λ c. is_ascii_digit c ≡ true) (eqb-true b dot is) h in cc
      | inr other ↦ rw other
    ]

octet_bytes : (n : ℕ) → n < 256 → list_all is_host_byte (decimal n) ≡ true
octet_bytes n fits = all_more is_ascii_digit is_host_byte digit_is_host_byte (decimal n) (digit_bytes n fits)

with_dot : (xs ys : List ℕ) → list_all is_host_byte xs ≡ true → list_all is_host_byte ys ≡ true → list_all is_host_byte (xs ++ codes "." ++ ys) ≡ true
with_dot xs ys left right =
    let front : list_all is_host_byte (xs ++ codes ".") ≡ true = list_all-append is_host_byte xs (codes ".") ∙ rw left refl in
    list_all-append is_host_byte (xs ++ codes ".") ys ∙ rw (front, right) refl

pub dotted_bytes : (text octets : List ℕ) → IsDotted text octets → list_all is_host_byte text ≡ true
dotted_bytes text octets is =
    let two = with_dot (decimal is.a) (decimal is.b) (octet_bytes is.a is.fit.0) (octet_bytes is.b is.fit.1) in
    let three = with_dot (decimal is.a ++ codes "." ++ decimal is.b) (decimal is.c) two (octet_bytes is.c is.fit.2) in
    let four = with_dot (decimal is.a ++ codes "." ++ decimal is.b ++ codes "." ++ decimal is.c) (decimal is.d) three (octet_bytes is.d is.fit.3) in
    subst (λ t. list_all is_host_byte t ≡ true) (sym is.spelled) four

last_behind : (front last : List ℕ) → list_all is_ascii_digit last ≡ true → after_last (λ b. eqb b dot) (front ++ dot ∷ last) ≡ last
last_behind front last digits =
    let p = λ (b : ℕ). not (eqb b dot) in
    let whole = front ++ dot ∷ last in
    let turned : reverse whole ≡ reverse last ++ dot ∷ reverse front = reverse-append front (dot ∷ last) ∙ ap (λ r. r ++ reverse front) (reverse-append (dot ∷ []) last) ∙ append_assoc (reverse last) (dot ∷ []) (reverse front) in
    let passes : prefix_len p (reverse last) ≡ length (reverse last) = all_front p (reverse last) (all_reverse p last (all_more is_ascii_digit p digit_is_no_dot last digits)) in
    let many : prefix_len p (reverse whole) ≡ length last = ap (prefix_len p) turned ∙ front_ends p (reverse last) dot (reverse front) passes refl ∙ length-reverse last in
    let at : length whole - prefix_len p (reverse whole) ≡ length front + 1 = omega (arith, many, length-append front (dot ∷ last)) in
    ap (λ n. drop n whole) at ∙ drop_past front dot last

dotted_ends_in_number : (text octets : List ℕ) → IsDotted text octets → ends_in_number text ≡ true
dotted_ends_in_number text octets is =
    let front : List ℕ = decimal is.a ++ codes "." ++ decimal is.b ++ codes "." ++ decimal is.c in
    let same : text ≡ front ++ dot ∷ decimal is.d = is.spelled ∙ append_assoc front (codes ".") (decimal is.d) in
    let digits = digit_bytes is.d is.fit.3 in
    subst (λ t. ends_in_number t ≡ true) (sym same) (ap (list_all is_ascii_digit) (last_behind front (decimal is.d) digits) ∙ digits)

-- so it is no name
pub dotted_is_no_host : (text octets : List ℕ) → IsDotted text octets → IsHost text → ⊥
dotted_is_no_host text octets is host =
    let parts = and_parts (leb (length text) 253) (are_labels (labels_of text) && not (ends_in_number text)) host in
    let no_number = (and_parts (are_labels (labels_of text)) (not (ends_in_number text)) parts.1).1 in
    let never : false ≡ true = subst (λ b. not b ≡ true) (dotted_ends_in_number text octets is) no_number in
    cc
