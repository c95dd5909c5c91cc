-- What a cut at the end of the records leaves.

use Rattle.std.proofs.Common.{◌≡◌, inl, inr, ℕ, zero, suc, ◌-◌, ◌≤◌, List, [], ◌∷◌, ◌++◌, length, take, drop, refl, sym, ◌∙◌, ap, subst, arith, length-take, take-append-drop}
use Rattle.std.specs.Prelude.{Some, None, Option, false, true, Bool, ◌||◌, map}
use Rattle.std.specs.List.{list_any}
use Rattle.std.proofs.lemmas.Bool.{cases_eq}
use Rattle.std.proofs.lemmas.List.{append-nil}
use Rattle.zq_wal.specs.Disk.{Cut}
use Rattle.zq_wal.specs.Format.{file_of, recovered, decoded, chunks_from, whole_front, tells_damage}
use Rattle.zq_wal.specs.Wal.{Reads}
use Rattle.zq_wal.proofs.Chunks.{recovered_file}
use Rattle.zq_wal.proofs.Tears.{step_on}

-- the chunks of a front are the first of the chunks
chunks_take : (bytes chunk : List ℕ) (k : ℕ) → (j : ℕ) × (chunks_from chunk (take k bytes) ≡ take j (chunks_from chunk bytes))
chunks_take bytes chunk zero = (0, refl)
chunks_take [] chunk (suc k) = (0, refl)
chunks_take (b ∷ bytes) chunk (suc k) = elim (cases_eq b 255) [
  | inl end ↦ let more = chunks_take bytes [] k in
      (suc more.0, ap (λ (n : ℕ). chunks_from chunk (n ∷ take k bytes)) end ∙ ap (λ (l : List (List ℕ)). chunk ∷ l) more.1 ∙ sym (ap (λ (n : ℕ). take (suc more.0) (chunks_from chunk (n ∷ bytes))) end))
  | inr other ↦ let more = chunks_take bytes (chunk ++ b ∷ []) k in
      (more.0, step_on b (take k bytes) chunk other ∙ more.1 ∙ sym (ap (λ (l : List (List ℕ)). take more.0 l) (step_on b bytes chunk other)))
]

front_take : (j : ℕ) (chunks : List (List ℕ)) → whole_front (map decoded chunks) ≡ [] → whole_front (map decoded (take j chunks)) ≡ []
front_take zero chunks none = refl
front_take (suc j) [] none = refl
front_take (suc j) (chunk ∷ chunks) none = by_decoded (decoded chunk) refl
  where
    by_decoded : (o : Option (List ℕ)) → decoded chunk ≡ o → whole_front (decoded chunk ∷ map decoded (take j chunks)) ≡ []
    by_decoded None is = ap (λ (o : Option (List ℕ)). whole_front (o ∷ map decoded (take j chunks))) is
    by_decoded (Some payload) is =
        let wrong : payload ∷ whole_front (map decoded chunks) ≡ [] = sym (ap (λ (o : Option (List ℕ)). whole_front (o ∷ map decoded chunks)) is) ∙ none in absurd (cc)

any_take_one : (b more fewer : Bool) → (b || more) ≡ false → (more ≡ false → fewer ≡ false) → (b || fewer) ≡ false
any_take_one true more fewer none on = none
any_take_one false more fewer none on = on none

any_take : (test : List ℕ → Bool) (j : ℕ) (chunks : List (List ℕ)) → list_any test chunks ≡ false → list_any test (take j chunks) ≡ false
any_take test zero chunks none = refl
any_take test (suc j) [] none = refl
any_take test (suc j) (chunk ∷ chunks) none = any_take_one (test chunk) (list_any test chunks) (list_any test (take j chunks)) none (any_take test j chunks)

take_past : (xs ys : List ℕ) (m : ℕ) → length xs ≤ m → take m (xs ++ ys) ≡ xs ++ take (m - length xs) ys
take_past [] ys m le = let e : m - 0 ≡ m = omega arith in ap (λ (k : ℕ). take k ys) (sym e)
take_past (x ∷ xs) ys zero le = absurd (omega arith)
take_past (x ∷ xs) ys (suc m) le = let e : suc m - length (x ∷ xs) ≡ m - length xs = omega arith in
    ap (λ (l : List ℕ). x ∷ l) (take_past xs ys m (omega arith)) ∙ ap (λ (k : ℕ). (x ∷ xs) ++ take k ys) (sym e)

pub itself_reads : (file : List ℕ) → Reads file file
itself_reads file = record { read = refl; sound = λ sound. sound }

-- any cut that keeps the records is read alike
pub cut_reads : (file c : List ℕ) (end : ℕ) → take end file ≡ file_of (recovered file) → recovered (drop end file) ≡ [] → end ≤ length file → Cut end file c → Reads file c
cut_reads file c end front none within cut =
    let records = recovered file in
    let rest = drop end file in
    let long : length (file_of records) ≡ end = omega (arith, ap length front, length-take end file) in
    let whole : file ≡ file_of records ++ rest = sym (take-append-drop end file) ∙ ap (λ (l : List ℕ). l ++ rest) front in
    let k = length c - length (file_of records) in
    let is : c ≡ file_of records ++ take k rest = sym cut.front ∙ ap (λ (l : List ℕ). take (length c) l) whole ∙ take_past (file_of records) rest (length c) (omega (arith, cut.no_shorter, long)) in
    let chunks = chunks_take rest [] k in
    let nothing : recovered (take k rest) ≡ [] = ap (λ (l : List (List ℕ)). whole_front (map decoded l)) chunks.1 ∙ front_take chunks.0 (chunks_from [] rest) none in
    let read : recovered c ≡ records = ap recovered is ∙ recovered_file records (take k rest) ∙ ap (λ (l : List (List ℕ)). records ++ l) nothing ∙ append-nil records in
    let all = chunks_take file [] (length c) in
    let of_c : chunks_from [] c ≡ take all.0 (chunks_from [] file) = ap (λ (l : List ℕ). chunks_from [] l) (sym cut.front) ∙ all.1 in
    record {
      read = read;
      sound = λ sound. ap (λ (l : List (List ℕ)). list_any (tells_damage (length l)) (chunks_from [] c)) read ∙ ap (λ (l : List (List ℕ)). list_any (tells_damage (length records)) l) of_c
          ∙ any_take (tells_damage (length records)) all.0 (chunks_from [] file) sound;
    }

pub cut_done_reads : (file new : List ℕ) (end : ℕ) → new ≡ take end file → take end file ≡ file_of (recovered file) → recovered (drop end file) ≡ [] → end ≤ length file → Reads file new
cut_done_reads file new end is front none within =
    let long : length (take end file) ≡ end = omega (arith, length-take end file) in
    subst (Reads file) (sym is) (cut_reads file (take end file) end front none within
    (record { no_shorter = omega (arith, long); front = ap (λ (n : ℕ). take n file) long }))
