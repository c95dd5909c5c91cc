-- What a torn append holds.

use Rattle.std.proofs.Common.{◌≡◌, ◌≢◌, ◌⊎◌, inl, inr, ℕ, suc, ◌≤◌, List, [], ◌∷◌, ◌++◌, length, take, refl, sym, ◌∙◌, ap, subst, arith, append_assoc}
use Rattle.std.specs.Prelude.{Some, None, Option, false, true, Bool, ◌==◌, ◌&&◌, ◌||◌, not, is_none, map}
use Rattle.std.specs.List.{list_any}
use Rattle.std.proofs.lemmas.Bool.{cases_eq}
use Rattle.std.proofs.lemmas.Bool.Decides.{nat_tests}
use Rattle.std.proofs.lemmas.List.{append-nil}
use Rattle.zq_wal.specs.Disk.{IsTear}
use Rattle.zq_wal.specs.Format.{escaped, unescaped, with_front, meant, file_of, sum_bytes, decoded, checked, chunks_from, whole_front, recovered, is_late, tells_damage, floor_of}
use Rattle.zq_wal.proofs.Escaping.{Lacks, escaped_has_no_end}
use Rattle.zq_wal.proofs.Chunks.{decoded_again}

abbrev pub has_zero : List ℕ → Bool
has_zero bytes = list_any (λ b. b == 0) bytes

pub zero_behind : (chunk : List ℕ) (c : ℕ) → has_zero chunk ≡ true → has_zero (chunk ++ c ∷ []) ≡ true
zero_behind [] c has = absurd (cc)
zero_behind (b ∷ chunk) c has = elim (cases_eq b 0) [
  | inl is ↦ grind (arith, nat_tests, is)
  | inr other ↦ let rest : has_zero chunk ≡ true = grind (arith, nat_tests, has, other) in let more = zero_behind chunk c rest in grind (arith, nat_tests, more, other)
]

pub zero_last : (chunk : List ℕ) → has_zero (chunk ++ 0 ∷ []) ≡ true
zero_last [] = refl
zero_last (b ∷ chunk) = let more = zero_last chunk in elim (cases_eq b 0) [
  | inl is ↦ grind (arith, nat_tests, is)
  | inr other ↦ grind (arith, nat_tests, more, other)
]

front_none : (m : Option ℕ) (o : Option (List ℕ)) → o ≡ None → with_front m o ≡ None
front_none None o none = refl
front_none (Some b) o none = ap (with_front (Some b)) none

-- nothing with a 0 was escaped
zero_not_unescaped : (pending : Bool) (chunk : List ℕ) → has_zero chunk ≡ true → unescaped pending chunk ≡ None
zero_not_unescaped pending [] has = absurd (cc)
zero_not_unescaped true (b ∷ chunk) has = elim (cases_eq b 0) [
  | inl is ↦ ap (λ (n : ℕ). unescaped true (n ∷ chunk)) is
  | inr other ↦ let rest : has_zero chunk ≡ true = grind (arith, nat_tests, has, other) in front_none (meant true b) (unescaped false chunk) (zero_not_unescaped false chunk rest)
]
zero_not_unescaped false (b ∷ chunk) has = elim (cases_eq b 0) [
  | inl is ↦ ap (λ (n : ℕ). unescaped false (n ∷ chunk)) is
  | inr other ↦ let rest : has_zero chunk ≡ true = grind (arith, nat_tests, has, other) in elim (cases_eq b 254) [
    | inl escape ↦ let more = zero_not_unescaped true chunk rest in grind (arith, nat_tests, more, escape)
    | inr no_escape ↦ let more = front_none (meant false b) (unescaped false chunk) (zero_not_unescaped false chunk rest) in grind (arith, nat_tests, more, no_escape)
  ]
]

pub zero_not_decoded : (chunk : List ℕ) → has_zero chunk ≡ true → decoded chunk ≡ None
zero_not_decoded chunk has = ap checked (zero_not_unescaped false chunk has)

-- the bytes of a record before its end mark
abbrev pub inside : List ℕ → List ℕ
inside payload = escaped (sum_bytes payload ++ payload)

pub inside_has_no_end : (payload : List ℕ) → Lacks 255 (inside payload)
inside_has_no_end payload = escaped_has_no_end (sum_bytes payload ++ payload)

pub file_inside : (payload : List ℕ) (payloads : List (List ℕ)) → file_of (payload ∷ payloads) ≡ inside payload ++ 255 ∷ file_of payloads
file_inside payload payloads = append_assoc (inside payload) (255 ∷ []) (file_of payloads)

-- behind a 0 nothing is read
dirty_front : (left chunk : List ℕ) → has_zero chunk ≡ true → whole_front (map decoded (chunks_from chunk left)) ≡ []
dirty_front [] chunk has = refl
dirty_front (c ∷ left) chunk has = elim (cases_eq c 255) [
  | inl end ↦ ap (λ (n : ℕ). whole_front (map decoded (chunks_from chunk (n ∷ left)))) end ∙ ap (λ (o : Option (List ℕ)). whole_front (o ∷ map decoded (chunks_from [] left))) (zero_not_decoded chunk has)
  | inr other ↦ let more = dirty_front left (chunk ++ c ∷ []) (zero_behind chunk c has) in
      let step : chunks_from chunk (c ∷ left) ≡ chunks_from (chunk ++ c ∷ []) left = grind (arith, nat_tests, other) in
      ap (λ (l : List (List ℕ)). whole_front (map decoded l)) step ∙ more
]

pub record Front (payloads : List (List ℕ)) (found : List (List ℕ)) : Type 0 where
  pub at : ℕ
  pub most : at ≤ length payloads
  pub is : found ≡ take at payloads

none_found : (payloads found : List (List ℕ)) → found ≡ [] → Front payloads found
none_found payloads found none = record { at = 0; most = omega arith; is = none }

one_found : (payload : List ℕ) (payloads found : List (List ℕ)) → Front payloads found → Front (payload ∷ payloads) (payload ∷ found)
one_found payload payloads found front = record { at = suc front.at; most = omega (arith, front.most); is = ap (λ (l : List (List ℕ)). payload ∷ l) front.is }

nothing_left : (left : List ℕ) → IsTear left [] → left ≡ []
nothing_left [] tear = refl
nothing_left (c ∷ left) tear = absurd tear

pub step_on : (c : ℕ) (left chunk : List ℕ) → c ≢ 255 → chunks_from chunk (c ∷ left) ≡ chunks_from (chunk ++ c ∷ []) left
step_on c left chunk other = grind (arith, nat_tests, other)

-- behind the whole record at hand come those of what is left
whole_next : (c : ℕ) (left chunk payload : List ℕ) (payloads : List (List ℕ)) → c ≡ 255 → chunk ++ [] ≡ inside payload → Front payloads (recovered left) →
    Front (payload ∷ payloads) (whole_front (map decoded (chunks_from chunk (c ∷ left))))
whole_next c left chunk payload payloads end clean more =
    let same : chunk ≡ inside payload = sym (append-nil chunk) ∙ clean in
    let found : whole_front (map decoded (chunks_from chunk (c ∷ left))) ≡ payload ∷ recovered left =
    ap (λ (n : ℕ). whole_front (map decoded (chunks_from chunk (n ∷ left)))) end ∙ ap (λ (l : List ℕ). whole_front (decoded l ∷ map decoded (chunks_from [] left))) same
    ∙ ap (λ (o : Option (List ℕ)). whole_front (o ∷ map decoded (chunks_from [] left))) (decoded_again payload) in
    subst (λ (l : List (List ℕ)). Front (payload ∷ payloads) l) (sym found) (one_found payload payloads (recovered left) more)

-- behind a byte that is lost comes nothing
lost_next : (c : ℕ) (left chunk : List ℕ) (payloads : List (List ℕ)) → c ≡ 0 → Front payloads (whole_front (map decoded (chunks_from chunk (c ∷ left))))
lost_next c left chunk payloads lost = none_found payloads _
    (ap (λ (l : List (List ℕ)). whole_front (map decoded l)) (step_on c left chunk (omega arith))
    ∙ dirty_front left (chunk ++ c ∷ []) (subst (λ (n : ℕ). has_zero (chunk ++ n ∷ []) ≡ true) (sym lost) (zero_last chunk)))

front_walk : (left chunk ys payload : List ℕ) (payloads : List (List ℕ)) → Lacks 255 ys → chunk ++ ys ≡ inside payload → IsTear left (ys ++ 255 ∷ file_of payloads) →
    Front (payload ∷ payloads) (whole_front (map decoded (chunks_from chunk left)))
front_walk [] chunk ys payload payloads lacks clean tear = none_found (payload ∷ payloads) [] refl
front_walk (c ∷ left) chunk [] payload [] lacks clean tear = elim tear.0 [
  | inl end ↦ whole_next c left chunk payload [] end clean (none_found [] (recovered left) (ap recovered (nothing_left left tear.1)))
  | inr lost ↦ lost_next c left chunk (payload ∷ []) lost
]
front_walk (c ∷ left) chunk [] payload (next ∷ payloads) lacks clean tear = elim tear.0 [
  | inl end ↦ whole_next c left chunk payload (next ∷ payloads) end clean
      (front_walk left [] (inside next) next payloads (inside_has_no_end next) refl (subst (IsTear left) (file_inside next payloads) tear.1))
  | inr lost ↦ lost_next c left chunk (payload ∷ next ∷ payloads) lost
]
front_walk (c ∷ left) chunk (y ∷ ys) payload payloads lacks clean tear = elim tear.0 [
  | inl there ↦
      let other : c ≢ 255 = subst (λ (n : ℕ). n ≢ 255) (sym there) lacks.0 in
      let on : (chunk ++ c ∷ []) ++ ys ≡ inside payload = append_assoc chunk (c ∷ []) ys ∙ ap (λ (n : ℕ). chunk ++ n ∷ ys) there ∙ clean in
      subst (λ (l : List (List ℕ)). Front (payload ∷ payloads) (whole_front (map decoded l))) (sym (step_on c left chunk other))
      (front_walk left (chunk ++ c ∷ []) ys payload payloads lacks.1 on tear.1)
  | inr lost ↦ lost_next c left chunk (payload ∷ payloads) lost
]

-- of an append that was torn the records up to some one are there
pub torn_front : (left : List ℕ) (payloads : List (List ℕ)) → IsTear left (file_of payloads) → Front payloads (recovered left)
torn_front left [] tear = none_found [] (recovered left) (ap recovered (nothing_left left tear))
torn_front left (payload ∷ payloads) tear = front_walk left [] (inside payload) payload payloads (inside_has_no_end payload) refl (subst (IsTear left) (file_inside payload payloads) tear)

not_end : (c y : ℕ) → y ≢ 255 → (c ≡ y) ⊎ (c ≡ 0) → c ≢ 255
not_end c y other (inl there) = subst (λ (n : ℕ). n ≢ 255) (sym there) other
not_end c y other (inr lost) = omega arith

-- a test that a chunk with a 0 does not pass
module _ (test : List ℕ → Bool) (quiet_if_lost : (chunk : List ℕ) → has_zero chunk ≡ true → test chunk ≡ false) where
  -- no record passes it
  abbrev pub Quiet : List (List ℕ) → Type 0
  Quiet [] = Unit {0}
  Quiet (payload ∷ payloads) = (test (inside payload) ≡ false) × Quiet payloads

  -- the chunk so far is as it was written, or has a 0
  abbrev IsSound : List ℕ → List ℕ → Type 0
  IsSound chunk ys = ((payload : List ℕ) × (chunk ++ ys ≡ inside payload) × (test (inside payload) ≡ false)) ⊎ (has_zero chunk ≡ true)

  whole_is_quiet : (chunk : List ℕ) → IsSound chunk [] → test chunk ≡ false
  whole_is_quiet chunk (inl clean) = ap test (sym (append-nil chunk) ∙ clean.1) ∙ clean.2
  whole_is_quiet chunk (inr dirty) = quiet_if_lost chunk dirty

  quiet_end : (c : ℕ) (left chunk : List ℕ) → c ≡ 255 → IsSound chunk [] → list_any test (chunks_from [] left) ≡ false → list_any test (chunks_from chunk (c ∷ left)) ≡ false
  quiet_end c left chunk end sound more =
      ap (λ (n : ℕ). list_any test (chunks_from chunk (n ∷ left))) end ∙ ap (λ b. b || list_any test (chunks_from [] left)) (whole_is_quiet chunk sound) ∙ more

  sound_on : (c y : ℕ) (chunk ys : List ℕ) → (c ≡ y) ⊎ (c ≡ 0) → IsSound chunk (y ∷ ys) → IsSound (chunk ++ c ∷ []) ys
  sound_on c y chunk ys (inl there) (inl clean) = inl (clean.0, append_assoc chunk (c ∷ []) ys ∙ ap (λ (n : ℕ). chunk ++ n ∷ ys) there ∙ clean.1, clean.2)
  sound_on c y chunk ys (inl there) (inr dirty) = inr (zero_behind chunk c dirty)
  sound_on c y chunk ys (inr lost) sound = inr (subst (λ (n : ℕ). has_zero (chunk ++ n ∷ []) ≡ true) (sym lost) (zero_last chunk))

  quiet_walk : (left chunk ys : List ℕ) (payloads : List (List ℕ)) → Quiet payloads → Lacks 255 ys → IsSound chunk ys → IsTear left (ys ++ 255 ∷ file_of payloads) →
      list_any test (chunks_from chunk left) ≡ false
  quiet_walk [] chunk ys payloads quiet lacks sound tear = refl
  quiet_walk (c ∷ left) chunk [] [] quiet lacks sound tear = elim tear.0 [
    | inl end ↦ quiet_end c left chunk end sound (ap (λ (l : List ℕ). list_any test (chunks_from [] l)) (nothing_left left tear.1))
    | inr lost ↦ ap (λ (l : List (List ℕ)). list_any test l) (step_on c left chunk (omega arith)) ∙ ap (λ (l : List ℕ). list_any test (chunks_from (chunk ++ c ∷ []) l)) (nothing_left left tear.1)
  ]
  quiet_walk (c ∷ left) chunk [] (next ∷ payloads) quiet lacks sound tear = elim tear.0 [
    | inl end ↦ quiet_end c left chunk end sound
        (quiet_walk left [] (inside next) payloads quiet.1 (inside_has_no_end next) (inl (next, refl, quiet.0)) (subst (IsTear left) (file_inside next payloads) tear.1))
    | inr lost ↦ ap (λ (l : List (List ℕ)). list_any test l) (step_on c left chunk (omega arith))
        ∙ quiet_walk left (chunk ++ c ∷ []) (inside next) payloads quiet.1 (inside_has_no_end next) (inr (subst (λ (n : ℕ). has_zero (chunk ++ n ∷ []) ≡ true) (sym lost) (zero_last chunk)))
        (subst (IsTear left) (file_inside next payloads) tear.1)
  ]
  quiet_walk (c ∷ left) chunk (y ∷ ys) payloads quiet lacks sound tear =
      ap (λ (l : List (List ℕ)). list_any test l) (step_on c left chunk (not_end c y lacks.0 tear.0))
      ∙ quiet_walk left (chunk ++ c ∷ []) ys payloads quiet lacks.1 (sound_on c y chunk ys tear.0 sound) tear.1

  -- no chunk of a torn append passes it
  pub torn_is_quiet : (left : List ℕ) (payloads : List (List ℕ)) → Quiet payloads → IsTear left (file_of payloads) → list_any test (chunks_from [] left) ≡ false
  torn_is_quiet left [] quiet tear = ap (λ (l : List ℕ). list_any test (chunks_from [] l)) (nothing_left left tear)
  torn_is_quiet left (payload ∷ payloads) quiet tear =
      quiet_walk left [] (inside payload) payloads quiet.1 (inside_has_no_end payload) (inl (payload, refl, quiet.0)) (subst (IsTear left) (file_inside payload payloads) tear)

-- a chunk with a 0 is no alarm
pub lost_is_no_alarm : (n : ℕ) (chunk : List ℕ) → has_zero chunk ≡ true → tells_damage n chunk ≡ false
lost_is_no_alarm n chunk lost =
    ap (λ (o : Option (List ℕ)). (is_none o && not (has_zero chunk)) || is_late n o) (zero_not_decoded chunk lost) ∙ ap (λ b. (true && not b) || false) lost

-- nor is a record that was written behind at most n others
pub floor_is_no_alarm : (n : ℕ) (payload : List ℕ) → floor_of payload ≤ n → tells_damage n (inside payload) ≡ false
floor_is_no_alarm n payload most =
    ap (λ (o : Option (List ℕ)). (is_none o && not (has_zero (inside payload))) || is_late n o) (decoded_again payload) ∙ grind (arith, nat_tests, most)
