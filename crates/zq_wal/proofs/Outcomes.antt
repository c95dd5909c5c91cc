-- What a crash leaves of a log, after each call.

use Rattle.std.proofs.Common.{◌≡◌, inl, ℕ, zero, suc, ◌+◌, ◌<◌, ◌≤◌, List, [], ◌∷◌, ◌++◌, length, take, drop, refl, sym, ◌∙◌, ap, subst, arith, append_assoc, length-append, length-drop, length-take, take-append-drop}
use Rattle.std.proofs.lemmas.List.{append-nil, take_at, drop_at, take_all}
use Rattle.zq_wal.specs.Disk.{IsTear, Torn}
use Rattle.zq_wal.specs.Format.{encoded, file_of, recovered, tells_damage, floor_of}
use Rattle.zq_wal.specs.Wal.{IsOutcome, Keeps, AreFloors}
use Rattle.zq_wal.proofs.Chunks.{recovered_file}
use Rattle.zq_wal.proofs.Tears.{torn_front, torn_is_quiet, Quiet, lost_is_no_alarm, floor_is_no_alarm}

pub tear_length : (left written : List ℕ) → IsTear left written → length left ≤ length written
tear_length [] written tear = omega arith
tear_length (c ∷ left) [] tear = absurd tear
tear_length (c ∷ left) (w ∷ written) tear = omega (arith, tear_length left written tear.1)

pub tear_of_more : (left written more : List ℕ) → IsTear left written → IsTear left (written ++ more)
tear_of_more [] written more tear = tt
tear_of_more (c ∷ left) [] more tear = absurd tear
tear_of_more (c ∷ left) (w ∷ written) more tear = (tear.0, tear_of_more left written more tear.1)

-- where nothing is missing at the end, a tear of what follows goes on
pub tear_joined : (left written next more : List ℕ) → length left ≡ length written → IsTear left written → IsTear next more → IsTear (left ++ next) (written ++ more)
tear_joined [] [] next more long tear tears = tears
tear_joined [] (w ∷ written) next more long tear tears = absurd (omega arith)
tear_joined (c ∷ left) [] next more long tear tears = absurd tear
tear_joined (c ∷ left) (w ∷ written) next more long tear tears = (tear.0, tear_joined left written next more (omega arith) tear.1 tears)

pub file_of-append : (xs ys : List (List ℕ)) → file_of (xs ++ ys) ≡ file_of xs ++ file_of ys
file_of-append [] ys = refl
file_of-append (x ∷ xs) ys = ap (λ (l : List ℕ). encoded x ++ l) (file_of-append xs ys) ∙ sym (append_assoc (encoded x) (file_of xs) (file_of ys))

file_one : (payload : List ℕ) → file_of (payload ∷ []) ≡ encoded payload
file_one payload = append-nil (encoded payload)

file_split : (payloads : List (List ℕ)) (n : ℕ) → file_of (take n payloads) ++ file_of (drop n payloads) ≡ file_of payloads
file_split payloads n = sym (file_of-append (take n payloads) (drop n payloads)) ∙ ap file_of (take-append-drop n payloads)

take_take_more : (payloads : List (List ℕ)) (n k : ℕ) → k ≤ length (drop n payloads) → n ≤ length payloads → take n payloads ++ take k (drop n payloads) ≡ take (n + k) payloads
take_take_more payloads zero k le within = let e : 0 + k ≡ k = omega arith in ap (λ (m : ℕ). take m payloads) (sym e)
take_take_more [] (suc n) k le within = absurd (omega arith)
take_take_more (p ∷ payloads) (suc n) k le within = ap (λ (l : List (List ℕ)). p ∷ l) (take_take_more payloads n k le (omega arith)) ∙ same
  where
    same : p ∷ take (n + k) payloads ≡ take (suc n + k) (p ∷ payloads)
    same = let e : suc n + k ≡ suc (n + k) = omega arith in ap (λ (m : ℕ). take m (p ∷ payloads)) (sym e)

pub tear_itself : (written : List ℕ) → IsTear written written
tear_itself [] = tt
tear_itself (w ∷ written) = (inl refl, tear_itself written)

-- an outcome is a tear of the whole file
pub outcome_is_tear : (payloads : List (List ℕ)) (n : ℕ) (c : List ℕ) → IsOutcome payloads n c → IsTear c (file_of payloads)
outcome_is_tear payloads n c outcome =
    subst (λ (l : List ℕ). IsTear l (file_of payloads)) (sym outcome.file)
    (subst (λ (l : List ℕ). IsTear (file_of (take n payloads) ++ outcome.left) l) (file_split payloads n)
    (tear_joined (file_of (take n payloads)) (file_of (take n payloads)) outcome.left (file_of (drop n payloads)) refl (tear_itself (file_of (take n payloads))) outcome.torn))

quiet_floors : (n m : ℕ) (payloads : List (List ℕ)) → n ≤ m → AreFloors n payloads → Quiet (tells_damage m) (lost_is_no_alarm m) payloads
quiet_floors n m [] le floors = tt
quiet_floors n m (payload ∷ payloads) le floors = (floor_is_no_alarm m payload (omega (arith, floors.0)), quiet_floors n m payloads le floors.1)

-- an outcome is read as the records up to some one
pub outcome_keeps : (payloads : List (List ℕ)) (n : ℕ) (c : List ℕ) → n ≤ length payloads → AreFloors n payloads → IsOutcome payloads n c → Keeps payloads n c
outcome_keeps payloads n c within floors outcome =
    let front = torn_front outcome.left (drop n payloads) outcome.torn in
    let most : n + front.at ≤ length payloads = omega (arith, front.most, length-drop n payloads) in
    let read : recovered c ≡ take (n + front.at) payloads =
    ap recovered outcome.file ∙ recovered_file (take n payloads) outcome.left ∙ ap (λ (l : List (List ℕ)). take n payloads ++ l) front.is ∙ take_take_more payloads n front.at front.most within in
    let many : n ≤ length (recovered c) = omega (arith, ap length read, length-take (n + front.at) payloads) in
    record {
      at = n + front.at;
      least = omega arith;
      most = most;
      read = read;
      sound = torn_is_quiet (tells_damage (length (recovered c))) (lost_is_no_alarm (length (recovered c))) c payloads
          (quiet_floors n (length (recovered c)) payloads many floors) (outcome_is_tear payloads n c outcome);
    }

pub outcome_length : (payloads : List (List ℕ)) (n : ℕ) (c : List ℕ) → IsOutcome payloads n c → length c ≤ length (file_of payloads)
outcome_length payloads n c outcome =
    omega (
      arith,
      ap length outcome.file,
      length-append (file_of (take n payloads)) outcome.left,
      tear_length outcome.left (file_of (drop n payloads)) outcome.torn,
      ap length (file_split payloads n),
      length-append (file_of (take n payloads)) (file_of (drop n payloads)),
    )

take_of_more : (payloads : List (List ℕ)) (payload : List ℕ) (n : ℕ) → n ≤ length payloads → take n (payloads ++ payload ∷ []) ≡ take n payloads
take_of_more payloads payload zero within = refl
take_of_more [] payload (suc n) within = absurd (omega arith)
take_of_more (p ∷ payloads) payload (suc n) within = ap (λ (l : List (List ℕ)). p ∷ l) (take_of_more payloads payload n (omega arith))

drop_of_more : (payloads : List (List ℕ)) (payload : List ℕ) (n : ℕ) → n ≤ length payloads → drop n (payloads ++ payload ∷ []) ≡ drop n payloads ++ payload ∷ []
drop_of_more payloads payload zero within = refl
drop_of_more [] payload (suc n) within = absurd (omega arith)
drop_of_more (p ∷ payloads) payload (suc n) within = drop_of_more payloads payload n (omega arith)

-- what was kept of some records is kept of one more
pub keeps_of_more : (payloads : List (List ℕ)) (payload : List ℕ) (n : ℕ) (c : List ℕ) → Keeps payloads n c → Keeps (payloads ++ payload ∷ []) n c
keeps_of_more payloads payload n c keeps = record {
  at = keeps.at;
  least = keeps.least;
  most = omega (arith, keeps.most, length-append payloads (payload ∷ []));
  read = keeps.read ∙ sym (take_of_more payloads payload keeps.at keeps.most);
  sound = keeps.sound;
}

written_more : (payloads : List (List ℕ)) (payload : List ℕ) (n : ℕ) → n ≤ length payloads → file_of (drop n (payloads ++ payload ∷ [])) ≡ file_of (drop n payloads) ++ encoded payload
written_more payloads payload n within =
    ap file_of (drop_of_more payloads payload n within) ∙ file_of-append (drop n payloads) (payload ∷ []) ∙ ap (λ (l : List ℕ). file_of (drop n payloads) ++ l) (file_one payload)

-- an append that is torn leaves an outcome of the longer log
pub outcome_appended : (payloads : List (List ℕ)) (payload : List ℕ) (n : ℕ) (d c : List ℕ) → n ≤ length payloads → IsOutcome payloads n d →
    Torn (length (file_of payloads)) (encoded payload) d c → IsOutcome (payloads ++ payload ∷ []) n c
outcome_appended payloads payload n d c within outcome torn =
    let at = length (file_of payloads) in
    let long : length d ≤ at = outcome_length payloads n d outcome in
    let front : take at c ≡ d = torn.before ∙ take_all at d (omega arith) in
    let whole : c ≡ file_of (take n payloads) ++ (outcome.left ++ drop at c) =
    sym (take-append-drop at c) ∙ ap (λ (l : List ℕ). l ++ drop at c) (front ∙ outcome.file) ∙ append_assoc (file_of (take n payloads)) outcome.left (drop at c) in
    record {
      left = outcome.left ++ drop at c;
      file = whole ∙ ap (λ (l : List (List ℕ)). file_of l ++ (outcome.left ++ drop at c)) (sym (take_of_more payloads payload n within));
      torn = subst (λ (l : List ℕ). IsTear (outcome.left ++ drop at c) l) (sym (written_more payloads payload n within)) (by_length (drop at c) refl);
    }
  where
    by_length : (rest : List ℕ) → drop (length (file_of payloads)) c ≡ rest → IsTear (outcome.left ++ rest) (file_of (drop n payloads) ++ encoded payload)
    by_length [] is = subst (λ (l : List ℕ). IsTear l (file_of (drop n payloads) ++ encoded payload)) (sym (append-nil outcome.left))
        (tear_of_more outcome.left (file_of (drop n payloads)) (encoded payload) outcome.torn)
    by_length (r ∷ rest) is =
        let at = length (file_of payloads) in
        let more : at < length c = omega (arith, ap length is, length-drop at c) in
        let same : length d ≡ at = omega (arith, ap length torn.before, length-take at c, length-take at d, outcome_length payloads n d outcome) in
        let full : length outcome.left ≡ length (file_of (drop n payloads)) =
        omega (arith, same, ap length outcome.file, length-append (file_of (take n payloads)) outcome.left, ap length (file_split payloads n), length-append (file_of (take n payloads)) (file_of (drop n payloads))) in
        tear_joined outcome.left (file_of (drop n payloads)) (r ∷ rest) (encoded payload) full outcome.torn (subst (λ (l : List ℕ). IsTear l (encoded payload)) is torn.tear)

-- the whole file is an outcome after a sync
pub outcome_synced : (payloads : List (List ℕ)) (c : List ℕ) → c ≡ file_of payloads → IsOutcome payloads (length payloads) c
outcome_synced payloads c is = record {
  left = [];
  file = is ∙ ap file_of (sym (take_all (length payloads) payloads (omega arith))) ∙ sym (append-nil (file_of (take (length payloads) payloads)));
  torn = tt;
}

-- floors of fewer records are floors of more
pub floors_grow : (n m : ℕ) (payloads : List (List ℕ)) → n ≤ m → AreFloors n payloads → AreFloors m payloads
floors_grow n m [] le floors = tt
floors_grow n m (payload ∷ payloads) le floors = (omega (arith, floors.0), floors_grow n m payloads le floors.1)

pub floors_push : (n : ℕ) (payloads : List (List ℕ)) (payload : List ℕ) → AreFloors n payloads → floor_of payload ≤ n → AreFloors n (payloads ++ payload ∷ [])
floors_push n [] payload floors most = (most, tt)
floors_push n (p ∷ payloads) payload floors most = (floors.0, floors_push n payloads payload floors.1 most)

pub file_of_one : (payloads : List (List ℕ)) (payload : List ℕ) → file_of (payloads ++ payload ∷ []) ≡ file_of payloads ++ encoded payload
file_of_one payloads payload = file_of-append payloads (payload ∷ []) ∙ ap (λ (l : List ℕ). file_of payloads ++ l) (file_one payload)

pub recovered_of : (payloads : List (List ℕ)) → recovered (file_of payloads) ≡ payloads
recovered_of payloads = ap recovered (sym (append-nil (file_of payloads))) ∙ recovered_file payloads [] ∙ append-nil payloads

-- an append that is done is one that may be torn
pub torn_whole : (file bytes c : List ℕ) → c ≡ file ++ bytes → Torn (length file) bytes file c
torn_whole file bytes c is = record {
  before = ap (λ (l : List ℕ). take (length file) l) is ∙ take_at file bytes (length file) refl ∙ sym (take_all (length file) file (omega arith));
  tear = subst (λ (l : List ℕ). IsTear l bytes) (sym (ap (λ (l : List ℕ). drop (length file) l) is ∙ drop_at file bytes (length file) refl)) (tear_itself bytes);
}
