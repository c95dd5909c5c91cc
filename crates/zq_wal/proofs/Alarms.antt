-- What the test for damage looks at.

use Rattle.std.proofs.Common.{◌≡◌, ℕ, ◌≤◌, List, [], ◌∷◌, length, refl, sym, ◌∙◌, ap, arith, append_assoc}
use Rattle.std.specs.Prelude.{Bool, Option, true, false, ◌||◌, ◌&&◌, not, is_none, nat_lt}
use Rattle.std.specs.List.{list_any}
use Rattle.std.proofs.lemmas.Bool.Decides.{nat_tests}
use Rattle.zq_wal.specs.Format.{decoded, file_of, floor_of, chunks_from, recovered, is_damaged, is_late, tells_damage, is_corrupt}
use Rattle.zq_wal.specs.Wal.{AreFloors}
use Rattle.zq_wal.proofs.Chunks.{one_chunk, decoded_again}
use Rattle.zq_wal.proofs.Tears.{inside, inside_has_no_end, has_zero}

pub neither : (a b : Bool) → (a || b) ≡ false → (a ≡ false) × (b ≡ false)
neither true b is = absurd (cc)
neither false b is = (refl, is)

quiet_means_floors : (n : ℕ) (payloads : List (List ℕ)) → list_any (tells_damage n) (chunks_from [] (file_of payloads)) ≡ false → AreFloors n payloads
quiet_means_floors n [] quiet = tt
quiet_means_floors n (p ∷ payloads) quiet =
    let more : List ℕ = file_of payloads in
    let parts : list_any (tells_damage n) (chunks_from [] (file_of (p ∷ payloads))) ≡ (nat_lt n (floor_of p) || list_any (tells_damage n) (chunks_from [] more)) =
    ap (λ (l : List ℕ). list_any (tells_damage n) (chunks_from [] l)) (append_assoc (inside p) (255 ∷ []) more)
    ∙ ap (λ (l : List (List ℕ)). list_any (tells_damage n) l) (one_chunk (inside p) more (inside_has_no_end p))
    ∙ ap (λ (o : Option (List ℕ)). ((is_none o && not (has_zero (inside p))) || is_late n o) || list_any (tells_damage n) (chunks_from [] more)) (decoded_again p) in
    let both = neither (nat_lt n (floor_of p)) (list_any (tells_damage n) (chunks_from [] more)) (sym parts ∙ quiet) in
    let most : floor_of p ≤ n = grind (arith, nat_tests, both.0) in
    (most, quiet_means_floors n payloads both.1)

-- where nothing is taken for damage, each record was written behind no more than there are
pub floors_of_sound : (file : List ℕ) → file ≡ file_of (recovered file) → is_corrupt file ≡ false → AreFloors (length (recovered file)) (recovered file)
floors_of_sound file is sound =
    quiet_means_floors (length (recovered file)) (recovered file) (ap (λ (l : List ℕ). list_any (tells_damage (length (recovered file))) (chunks_from [] l)) (sym is) ∙ sound)

swap_middle : (a b c d : Bool) → ((a || b) || (c || d)) ≡ ((a || c) || (b || d))
swap_middle true b c d = refl
swap_middle false true true d = refl
swap_middle false true false d = refl
swap_middle false false c d = refl

-- damage, or a record that was written behind more than n
pub damage_parts : (n : ℕ) (chunks : List (List ℕ)) → list_any (tells_damage n) chunks ≡ (list_any is_damaged chunks || list_any (λ c. is_late n (decoded c)) chunks)
damage_parts n [] = refl
damage_parts n (c ∷ chunks) =
    ap (λ b. (is_damaged c || is_late n (decoded c)) || b) (damage_parts n chunks)
    ∙ swap_middle (is_damaged c) (is_late n (decoded c)) (list_any is_damaged chunks) (list_any (λ c. is_late n (decoded c)) chunks)
