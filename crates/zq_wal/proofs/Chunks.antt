-- The records in bytes.

use Rattle.std.proofs.Common.{◌≡◌, ◌≢◌, inl, inr, ℕ, List, [], ◌∷◌, ◌++◌, take, drop, refl, sym, ◌∙◌, ap, arith, append_assoc, take-append-drop}
use Rattle.std.specs.Prelude.{Some, None, Option, false, true, Bool, bytes_eq, map}
use Rattle.std.proofs.lemmas.Bool.{cases_eq}
use Rattle.std.proofs.lemmas.Bool.Decides.{nat_tests}
use Rattle.std.proofs.lemmas.List.{append-nil}
use Rattle.std.proofs.lemmas.Slice.Eq.{bytes_eq-Decides}
use Rattle.zq_wal.specs.Format.{escaped, unescaped, with_front, encoded, file_of, sum_bytes, decoded, checked, checked_bytes, chunks_from, whole_front, recovered}
use Rattle.zq_wal.proofs.Escaping.{Lacks, unescaped-escaped, escaped-append, escaped_has_no_end}

-- bytes without an end mark join the chunk
pub chunks_on : (ys chunk zs : List ℕ) → Lacks 255 ys → chunks_from chunk (ys ++ zs) ≡ chunks_from (chunk ++ ys) zs
chunks_on [] chunk zs lacks = ap (λ (l : List ℕ). chunks_from l zs) (sym (append-nil chunk))
chunks_on (y ∷ ys) chunk zs lacks =
    let other : y ≢ 255 = lacks.0 in
    let more : chunks_from (chunk ++ y ∷ []) (ys ++ zs) ≡ chunks_from ((chunk ++ y ∷ []) ++ ys) zs = chunks_on ys (chunk ++ y ∷ []) zs lacks.1 in
    let step : chunks_from chunk (y ∷ (ys ++ zs)) ≡ chunks_from (chunk ++ y ∷ []) (ys ++ zs) = grind (arith, nat_tests, other) in
    step ∙ more ∙ ap (λ (l : List ℕ). chunks_from l zs) (append_assoc chunk (y ∷ []) ys)

pub chunk_ends : (chunk zs : List ℕ) → chunks_from chunk (255 ∷ zs) ≡ chunk ∷ chunks_from [] zs
chunk_ends chunk zs = refl

pub one_chunk : (ys zs : List ℕ) → Lacks 255 ys → chunks_from [] (ys ++ 255 ∷ zs) ≡ ys ∷ chunks_from [] zs
one_chunk ys zs lacks = chunks_on ys [] (255 ∷ zs) lacks ∙ chunk_ends ys zs

pub decoded_again : (payload : List ℕ) → decoded (escaped (sum_bytes payload ++ payload)) ≡ Some payload
decoded_again payload =
    let sum = sum_bytes payload in
    let front : take 8 (sum ++ payload) ≡ sum = refl in
    let back : drop 8 (sum ++ payload) ≡ payload = refl in
    let same : bytes_eq sum sum ≡ true = (bytes_eq-Decides sum sum).1 refl in
    ap checked (unescaped-escaped (sum ++ payload)) ∙ grind (arith, same, front, back)

-- a encoded record is there, before what the rest holds
pub recovered_encoded : (payload rest : List ℕ) → recovered (encoded payload ++ rest) ≡ payload ∷ recovered rest
recovered_encoded payload rest =
    let inside = escaped (sum_bytes payload ++ payload) in
    ap recovered (append_assoc inside (255 ∷ []) rest)
    ∙ ap (λ (l : List (List ℕ)). whole_front (map decoded l)) (one_chunk inside rest (escaped_has_no_end (sum_bytes payload ++ payload)))
    ∙ ap (λ (o : Option (List ℕ)). whole_front (o ∷ map decoded (chunks_from [] rest))) (decoded_again payload)

pub recovered_file : (records : List (List ℕ)) (rest : List ℕ) → recovered (file_of records ++ rest) ≡ records ++ recovered rest
recovered_file [] rest = refl
recovered_file (payload ∷ records) rest =
    ap recovered (append_assoc (encoded payload) (file_of records) rest) ∙ recovered_encoded payload (file_of records ++ rest)
    ∙ ap (λ (l : List (List ℕ)). payload ∷ l) (recovered_file records rest)

-- a front by one byte: it is that byte and the rest
unfront : (m : ℕ) (o : Option (List ℕ)) (xs : List ℕ) → with_front (Some m) o ≡ Some xs → (ys : List ℕ) × (o ≡ Some ys) × (xs ≡ m ∷ ys)
unfront m None xs is = absurd (cc)
unfront m (Some ys) xs is = (ys, refl, cc)

abbrev lead : Bool → List ℕ → List ℕ
lead false bytes = bytes
lead true bytes = 254 ∷ bytes

behind_escape : (b m k : ℕ) (chunk xs ys : List ℕ) → b ≡ k → escaped (m ∷ []) ≡ 254 ∷ k ∷ [] → xs ≡ m ∷ ys → escaped ys ≡ chunk → escaped xs ≡ 254 ∷ b ∷ chunk
behind_escape b m k chunk xs ys same spelled front more =
    ap escaped front ∙ escaped-append (m ∷ []) ys ∙ ap (λ (l : List ℕ). l ++ escaped ys) spelled ∙ ap (λ (l : List ℕ). 254 ∷ k ∷ l) more ∙ ap (λ (n : ℕ). 254 ∷ n ∷ chunk) (sym same)

-- nothing is read but what was escaped
pub one_spelling : (pending : Bool) (chunk xs : List ℕ) → unescaped pending chunk ≡ Some xs → escaped xs ≡ lead pending chunk
one_spelling false [] xs is = let none : xs ≡ [] = cc in ap escaped none
one_spelling true [] xs is = absurd (cc)
one_spelling true (b ∷ chunk) xs is =
    elim (cases_eq b 1) [
      | inl one ↦ let front : with_front (Some 0) (unescaped false chunk) ≡ Some xs = grind (arith, nat_tests, is, one) in
          let found = unfront 0 (unescaped false chunk) xs front in behind_escape b 0 1 chunk xs found.0 one refl found.2 (one_spelling false chunk found.0 found.1)
      | inr not_one ↦ elim (cases_eq b 2) [
        | inl two ↦ let front : with_front (Some 254) (unescaped false chunk) ≡ Some xs = grind (arith, nat_tests, is, two) in
            let found = unfront 254 (unescaped false chunk) xs front in behind_escape b 254 2 chunk xs found.0 two refl found.2 (one_spelling false chunk found.0 found.1)
        | inr not_two ↦ elim (cases_eq b 3) [
          | inl three ↦ let front : with_front (Some 255) (unescaped false chunk) ≡ Some xs = grind (arith, nat_tests, is, three) in
              let found = unfront 255 (unescaped false chunk) xs front in behind_escape b 255 3 chunk xs found.0 three refl found.2 (one_spelling false chunk found.0 found.1)
          | inr not_three ↦ let none : None ≡ Some xs = grind (arith, nat_tests, is, not_one, not_two, not_three) in absurd (cc)
        ]
      ]
    ]
one_spelling false (b ∷ chunk) xs is =
    elim (cases_eq b 254) [
      | inl escape ↦ let after : unescaped true chunk ≡ Some xs = grind (arith, nat_tests, is, escape) in one_spelling true chunk xs after ∙ ap (λ (n : ℕ). n ∷ chunk) (sym escape)
      | inr no_escape ↦ elim (cases_eq b 0) [
        | inl zero ↦ let none : None ≡ Some xs = grind (arith, nat_tests, is, zero) in absurd (cc)
        | inr some ↦ elim (cases_eq b 255) [
          | inl end ↦ let none : None ≡ Some xs = grind (arith, nat_tests, is, end) in absurd (cc)
          | inr other ↦
              let front : with_front (Some b) (unescaped false chunk) ≡ Some xs = grind (arith, nat_tests, is, no_escape, some, other) in
              let found = unfront b (unescaped false chunk) xs front in
              let itself : escaped (b ∷ found.0) ≡ b ∷ escaped found.0 = grind (arith, nat_tests, no_escape, some, other) in
              ap escaped found.2 ∙ itself ∙ ap (λ (l : List ℕ). b ∷ l) (one_spelling false chunk found.0 found.1)
        ]
      ]
    ]

checked_is : (bytes payload : List ℕ) → checked_bytes bytes ≡ Some payload → bytes ≡ sum_bytes payload ++ payload
checked_is bytes payload is = by_test (bytes_eq (take 8 bytes) (sum_bytes (drop 8 bytes))) refl
  where
    by_test : (b : Bool) → bytes_eq (take 8 bytes) (sum_bytes (drop 8 bytes)) ≡ b → bytes ≡ sum_bytes payload ++ payload
    by_test true passes =
        let same : take 8 bytes ≡ sum_bytes (drop 8 bytes) = (bytes_eq-Decides (take 8 bytes) (sum_bytes (drop 8 bytes))).0 passes in
        let back : drop 8 bytes ≡ payload = grind (arith, passes, is) in
        sym (take-append-drop 8 bytes) ∙ ap (λ (l : List ℕ). l ++ drop 8 bytes) same ∙ ap (λ (l : List ℕ). sum_bytes l ++ l) back
    by_test false fails = let none : None ≡ Some payload = grind (arith, fails, is) in absurd (cc)

-- a record that is read was encoded
pub decoded_is : (chunk payload : List ℕ) → decoded chunk ≡ Some payload → chunk ≡ escaped (sum_bytes payload ++ payload)
decoded_is chunk payload is = by_unescaped (unescaped false chunk) refl
  where
    by_unescaped : (o : Option (List ℕ)) → unescaped false chunk ≡ o → chunk ≡ escaped (sum_bytes payload ++ payload)
    by_unescaped None none = let wrong : None ≡ Some payload = cc in absurd (cc)
    by_unescaped (Some bytes) some = let found : checked_bytes bytes ≡ Some payload = sym (ap checked some) ∙ is in
        sym (one_spelling false chunk bytes some) ∙ ap escaped (checked_is bytes payload found)

pub file_push : (payloads : List (List ℕ)) (payload rest : List ℕ) → file_of (payloads ++ payload ∷ []) ++ rest ≡ file_of payloads ++ (encoded payload ++ rest)
file_push [] payload rest = append_assoc (encoded payload) [] rest
file_push (p ∷ payloads) payload rest =
    append_assoc (encoded p) (file_of (payloads ++ payload ∷ [])) rest ∙ ap (λ (l : List ℕ). encoded p ++ l) (file_push payloads payload rest)
    ∙ sym (append_assoc (encoded p) (file_of payloads) (encoded payload ++ rest))
