-- Names of commands in any case.

use Rattle.std.proofs.Common.{Bool, List, [], ap, arith, get_or, length, map, refl, subst, sym, true, ℕ, ◌*◌, ◌+◌, ◌++◌, ◌<◌, ◌∙◌, ◌∷◌, ◌≡◌, ◌≤◌, ◌↔◌, bit_or, IsTrue, nat_eq, slice_index, zero, suc}
use Rattle.std.proofs.lemmas.Bool.{eqb-true, eq-eqb}
use Rattle.std.proofs.lemmas.List.{append_cancel_right}
use Rattle.std.proofs.lemmas.Nat.{le_bytes_8, or_block, or_of_8}
use Rattle.std.proofs.lemmas.Nat.Bits.{and_pow, bit_at-lt}
use Rattle.std.proofs.lemmas.Slice.Eq.{bytes_eq-Decides}
use Rattle.std.proofs.lemmas.Str.Ascii.{lowercase_is}
use Rattle.std.specs.Bool.{one_answer}
use Rattle.std.specs.Char.{to_ascii_lowercase}
use Rattle.std.specs.Int.{bit_at, from_le_bytes, w64}
use Rattle.std.specs.Int.Bits.{or_add_and}
use Rattle.std.specs.Str.{str_to_ascii_lowercase}
use Rattle.zq_metrics.specs.Commands.{are_small, is, small}

-- the bit is set, or it is not
small_is : (a : ℕ) → small a + bit_at a 5 * 32 ≡ a + 32
small_is a = ap (λ n. small a + n) (sym (and_pow a 5)) ∙ or_add_and a 32

-- with its bit set it is a small letter: so it is that letter in any case
lower_of : (a c : ℕ) → 97 ≤ c → c ≤ 122 → small a ≡ c → to_ascii_lowercase a ≡ to_ascii_lowercase c
lower_of a c low high same =
    let split = small_is a in
    let bit = bit_at-lt a 5 in
    let upper = (lowercase_is a).0 in
    let lower = (lowercase_is a).2 in
    let own = (lowercase_is c).2 (omega arith) in
    grind (arith, split, bit, upper, lower, own, same)

-- and the other way round
small_of : (a c : ℕ) → 97 ≤ c → c ≤ 122 → to_ascii_lowercase a ≡ to_ascii_lowercase c → small a ≡ c
small_of a c low high same =
    let split = small_is a in
    let own = (lowercase_is c).2 (omega arith) in
    let upper = (lowercase_is a).0 in
    let middle = (lowercase_is a).1 in
    let lower = (lowercase_is a).2 in
    grind (arith, split, upper, middle, lower, own, same)

within : (c : ℕ) (cs : List ℕ) → are_small (c ∷ cs) ≡ true → (97 ≤ c) × (c ≤ 122) × (are_small cs ≡ true)
within c cs are = grind (arith, are)

lowers_of : (name text : List ℕ) → are_small text ≡ true → map small name ≡ text → map to_ascii_lowercase name ≡ map to_ascii_lowercase text
lowers_of [] [] are same = refl
lowers_of (a ∷ name) [] are same = grind (arith, same)
lowers_of [] (c ∷ cs) are same = grind (arith, same)
lowers_of (a ∷ name) (c ∷ cs) are same =
    let here = within c cs are in
    let head : small a ≡ c = grind (arith, same) in
    let tail : map small name ≡ cs = grind (arith, same) in
    let one = lower_of a c here.0 here.1 head in
    let rest = lowers_of name cs here.2 tail in
    grind (arith, one, rest)

smalls_of : (name text : List ℕ) → are_small text ≡ true → map to_ascii_lowercase name ≡ map to_ascii_lowercase text → map small name ≡ text
smalls_of [] [] are same = refl
smalls_of (a ∷ name) [] are same = grind (arith, same)
smalls_of [] (c ∷ cs) are same = grind (arith, same)
smalls_of (a ∷ name) (c ∷ cs) are same =
    let here = within c cs are in
    let head : to_ascii_lowercase a ≡ to_ascii_lowercase c = grind (arith, same) in
    let tail : map to_ascii_lowercase name ≡ map to_ascii_lowercase cs = grind (arith, same) in
    let one = small_of a c here.0 here.1 head in
    let rest = smalls_of name cs here.2 tail in
    grind (arith, one, rest)

-- a test of the bytes with their bits set is a test of the name
pub spelled : (answer : Bool) (name text more : List ℕ) → are_small text ≡ true →
    (IsTrue answer ↔ (map small name ++ more ≡ text ++ more)) → answer ≡ is name text
spelled answer name text more are tells =
    one_answer answer (is name text) (
      (λ yes. lowers_of name text are (append_cancel_right (map small name) text more (tells.0 yes))),
      (λ same. tells.1 (ap (λ (l : List ℕ). l ++ more) (smalls_of name text are same))),
    )
    (bytes_eq-Decides (str_to_ascii_lowercase name) (str_to_ascii_lowercase text))

-- so many elements from a place on
abbrev pub picks : List ℕ → ℕ → ℕ → List ℕ
picks bytes from zero = []
picks bytes from (suc count) = slice_index bytes from ∷ picks bytes (suc from) count

shifted : (x : ℕ) (bytes : List ℕ) (from count : ℕ) → picks (x ∷ bytes) (suc from) count ≡ picks bytes from count
shifted x bytes from zero = refl
shifted x bytes from (suc count) = ap (λ (l : List ℕ). slice_index bytes from ∷ l) (shifted x bytes (suc from) count)

picks_all : (bytes : List ℕ) → picks bytes 0 (length bytes) ≡ bytes
picks_all [] = refl
picks_all (x ∷ bytes) = ap (λ (l : List ℕ). x ∷ l) (shifted x bytes 0 (length bytes) ∙ picks_all bytes)

-- the same over the elements of a name and a text of so many bytes
pub spelled_in : (count : ℕ) (answer : Bool) (name text more : List ℕ) → length name ≡ count → length text ≡ count →
    are_small text ≡ true →
    (IsTrue answer ↔ (map small (picks name 0 count) ++ more ≡ picks text 0 count ++ more)) →
    answer ≡ is name text
spelled_in count answer name text more long also are tells =
    let own : picks name 0 count ≡ name = subst (λ (n : ℕ). picks name 0 n ≡ name) long (picks_all name) in
    let its : picks text 0 count ≡ text = subst (λ (n : ℕ). picks text 0 n ≡ text) also (picks_all text) in
    spelled answer name text more are
    (subst (λ (x : List ℕ). IsTrue answer ↔ (map small x ++ more ≡ text ++ more)) own
    (subst (λ (y : List ℕ). IsTrue answer ↔ (map small (picks name 0 count) ++ more ≡ y ++ more)) its tells))

-- the bits are set in eight bytes at once
smalls_8 : (bytes : List ℕ) → length bytes ≡ 8 → ((i : ℕ) → get_or bytes i 0 < 256) →
    bit_or (from_le_bytes w64 bytes) 2314885530818453536 ≡ from_le_bytes w64 (map small bytes)
smalls_8 (a ∷ b ∷ c ∷ d ∷ e ∷ f ∷ g ∷ h ∷ []) long each =
    let at_g = or_block 8 h 32 g 32 (each 6) (omega arith) in
    let at_f = or_block 8 (h * 256 + g) 8224 f 32 (each 5) (omega arith) in
    let at_e = or_block 8 ((h * 256 + g) * 256 + f) 2105376 e 32 (each 4) (omega arith) in
    let at_d = or_block 8 (((h * 256 + g) * 256 + f) * 256 + e) 538976288 d 32 (each 3) (omega arith) in
    let at_c = or_block 8 ((((h * 256 + g) * 256 + f) * 256 + e) * 256 + d) 137977929760 c 32 (each 2) (omega arith) in
    let at_b = or_block 8 (((((h * 256 + g) * 256 + f) * 256 + e) * 256 + d) * 256 + c) 35322350018592 b 32 (each 1) (omega arith) in
    let at_a = or_block 8 ((((((h * 256 + g) * 256 + f) * 256 + e) * 256 + d) * 256 + c) * 256 + b) 9042521604759584 a 32 (each 0) (omega arith) in
    let whole : from_le_bytes w64 (a ∷ b ∷ c ∷ d ∷ e ∷ f ∷ g ∷ h ∷ []) ≡ (((((((h * 256 + g) * 256 + f) * 256 + e) * 256 + d) * 256 + c) * 256 + b) * 256 + a) = omega arith in
    ap (λ n. bit_or n 2314885530818453536) whole ∙ (omega (arith, at_a, at_b, at_c, at_d, at_e, at_f, at_g))
smalls_8 [] long each = absurd (omega (arith, long))
smalls_8 (a ∷ []) long each = absurd (omega (arith, long))
smalls_8 (a ∷ b ∷ []) long each = absurd (omega (arith, long))
smalls_8 (a ∷ b ∷ c ∷ []) long each = absurd (omega (arith, long))
smalls_8 (a ∷ b ∷ c ∷ d ∷ []) long each = absurd (omega (arith, long))
smalls_8 (a ∷ b ∷ c ∷ d ∷ e ∷ []) long each = absurd (omega (arith, long))
smalls_8 (a ∷ b ∷ c ∷ d ∷ e ∷ f ∷ []) long each = absurd (omega (arith, long))
smalls_8 (a ∷ b ∷ c ∷ d ∷ e ∷ f ∷ g ∷ []) long each = absurd (omega (arith, long))
smalls_8 (a ∷ b ∷ c ∷ d ∷ e ∷ f ∷ g ∷ h ∷ i ∷ bytes) long each = absurd (omega (arith, long))

each_small : (bytes : List ℕ) → ((i : ℕ) → get_or bytes i 0 < 256) → (i : ℕ) → get_or (map small bytes) i 0 < 256
each_small [] each i = omega arith
each_small (a ∷ bytes) each zero = or_of_8 a 32 (each 0) (omega arith)
each_small (a ∷ bytes) each (suc i) = each_small bytes (λ j. each (suc j)) i

map_long : (bytes : List ℕ) → length (map small bytes) ≡ length bytes
map_long [] = refl
map_long (a ∷ bytes) = ap suc (map_long bytes)

-- two words are the same where their bytes are
pub same_words : (word text : List ℕ) (w t : ℕ) → length word ≡ 8 → length text ≡ 8 →
    ((i : ℕ) → get_or word i 0 < 256) → ((i : ℕ) → get_or text i 0 < 256) →
    w ≡ from_le_bytes w64 word → t ≡ from_le_bytes w64 text →
    (IsTrue (nat_eq (bit_or w 2314885530818453536) t) ↔ (map small word ≡ text))
same_words word text w t eight also each all is_word is_text =
    let set : bit_or w 2314885530818453536 ≡ from_le_bytes w64 (map small word) = ap (λ n. bit_or n 2314885530818453536) is_word ∙ smalls_8 word eight each in (
      (λ same. sym (le_bytes_8 (map small word) (bit_or w 2314885530818453536) (map_long word ∙ eight) (each_small word each) set)
          ∙ le_bytes_8 text (bit_or w 2314885530818453536) also all (eqb-true (bit_or w 2314885530818453536) t same ∙ is_text)),
      (λ same. eq-eqb (bit_or w 2314885530818453536) t (set ∙ ap (from_le_bytes w64) same ∙ sym is_text)),
    )
