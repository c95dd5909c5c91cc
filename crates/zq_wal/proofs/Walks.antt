-- One byte more of a file.

use Rattle.std.proofs.Common.{◌≡◌, ◌≢◌, inl, inr, ℕ, ◌+◌, List, [], ◌∷◌, ◌++◌, length, take, drop, refl, sym, ◌∙◌, ap, subst, arith, append_assoc, length-append}
use Rattle.std.specs.Prelude.{Bool, Err, IfOk, IsErrOf, Ok, Option, None, Result, Some, true, false, ◌||◌, ◌==◌, ◌&&◌, not, is_none, map, nat_lt}
use Rattle.std.specs.List.{list_any}
use Rattle.std.proofs.lemmas.Bool.{cases_eq}
use Rattle.std.proofs.lemmas.Bool.Decides.{nat_tests}
use Rattle.std.proofs.lemmas.List.{append-nil, drop_at, take_at}
use Rattle.zq_wal.specs.Chunk.{IsChunk}
use Rattle.zq_wal.specs.Found.{IsFound}
use Rattle.zq_wal.specs.Format.{chunks_from, decoded, encoded, file_of, floor_of, is_corrupt, is_damaged, is_late, recovered, tells_damage, whole_front}
use Rattle.zq_wal.specs.Walk.{IsKnown, IsWalk, is_torn, tail_of}
use Rattle.zq_wal.specs.declared.error.WalError.{WalError}
use Rattle.zq_wal.specs.declared.error.WalError.TheVariants.{Corrupt}
use Rattle.zq_wal.specs.declared.recovery.Found.{Found}
use Rattle.zq_wal.specs.declared.walk.Known.{Known}
use Rattle.zq_wal.specs.declared.walk.Walk.{Walk}
use Rattle.zq_wal.proofs.Alarms.{damage_parts}
use Rattle.zq_wal.proofs.ChunkSteps.{any_push}
use Rattle.zq_wal.proofs.Chunks.{decoded_is, recovered_file}
use Rattle.zq_wal.proofs.Outcomes.{file_of_one}
use Rattle.zq_wal.proofs.Tears.{inside, step_on}

-- an end mark ends the chunk that stood behind the last one
pub chunks_end : (bytes chunk : List ℕ) → chunks_from chunk (bytes ++ 255 ∷ []) ≡ chunks_from chunk bytes ++ tail_of chunk bytes ∷ []
chunks_end [] chunk = refl
chunks_end (b ∷ bytes) chunk = elim (cases_eq b 255) [
  | inl end ↦ let more = chunks_end bytes [] in grind (arith, nat_tests, end, more)
  | inr other ↦ let more = chunks_end bytes (chunk ++ b ∷ []) in grind (arith, nat_tests, other, more)
]

pub tail_end : (bytes chunk : List ℕ) → tail_of chunk (bytes ++ 255 ∷ []) ≡ []
tail_end [] chunk = refl
tail_end (b ∷ bytes) chunk = elim (cases_eq b 255) [
  | inl end ↦ let more = tail_end bytes [] in grind (arith, nat_tests, end, more)
  | inr other ↦ let more = tail_end bytes (chunk ++ b ∷ []) in grind (arith, nat_tests, other, more)
]

-- any other byte joins it
pub chunks_on_byte : (bytes chunk : List ℕ) (byte : ℕ) → byte ≢ 255 → chunks_from chunk (bytes ++ byte ∷ []) ≡ chunks_from chunk bytes
chunks_on_byte [] chunk byte no_end = grind (arith, nat_tests, no_end)
chunks_on_byte (b ∷ bytes) chunk byte no_end = elim (cases_eq b 255) [
  | inl end ↦ let more = chunks_on_byte bytes [] byte no_end in grind (arith, nat_tests, end, more)
  | inr other ↦ let more = chunks_on_byte bytes (chunk ++ b ∷ []) byte no_end in grind (arith, nat_tests, other, more)
]

pub tail_on_byte : (bytes chunk : List ℕ) (byte : ℕ) → byte ≢ 255 → tail_of chunk (bytes ++ byte ∷ []) ≡ tail_of chunk bytes ++ byte ∷ []
tail_on_byte [] chunk byte no_end = grind (arith, nat_tests, no_end)
tail_on_byte (b ∷ bytes) chunk byte no_end = elim (cases_eq b 255) [
  | inl end ↦ let more = tail_on_byte bytes [] byte no_end in grind (arith, nat_tests, end, more)
  | inr other ↦ let more = tail_on_byte bytes (chunk ++ b ∷ []) byte no_end in grind (arith, nat_tests, other, more)
]

abbrev front_of : List (List ℕ) → List (List ℕ)
front_of chunks = whole_front (map decoded chunks)

-- behind a chunk that is not whole nothing joins the front
torn_front_stays : (chunks : List (List ℕ)) (chunk : List ℕ) → list_any is_torn chunks ≡ true → front_of (chunks ++ chunk ∷ []) ≡ front_of chunks
torn_front_stays [] chunk torn = absurd (cc)
torn_front_stays (c ∷ chunks) chunk torn = by_decoded (torn_front_stays chunks chunk) (decoded c) refl
  where
    by_decoded : (list_any is_torn chunks ≡ true → front_of (chunks ++ chunk ∷ []) ≡ front_of chunks) → (o : Option (List ℕ)) → decoded c ≡ o → front_of ((c ∷ chunks) ++ chunk ∷ []) ≡ front_of (c ∷ chunks)
    by_decoded more None is = ap (λ (o : Option (List ℕ)). whole_front (o ∷ map decoded (chunks ++ chunk ∷ []))) is ∙ sym (ap (λ (o : Option (List ℕ)). whole_front (o ∷ map decoded chunks)) is)
    by_decoded more (Some payload) is =
        let rest : list_any is_torn chunks ≡ true = sym (ap (λ (o : Option (List ℕ)). is_none o || list_any is_torn chunks) is) ∙ torn in
        ap (λ (o : Option (List ℕ)). whole_front (o ∷ map decoded (chunks ++ chunk ∷ []))) is ∙ ap (λ (l : List (List ℕ)). payload ∷ l) (more rest)
        ∙ sym (ap (λ (o : Option (List ℕ)). whole_front (o ∷ map decoded chunks)) is)

-- nor does one that is not whole
none_front_stays : (chunks : List (List ℕ)) (chunk : List ℕ) → decoded chunk ≡ None → front_of (chunks ++ chunk ∷ []) ≡ front_of chunks
none_front_stays [] chunk none = ap (λ (o : Option (List ℕ)). whole_front (o ∷ [])) none
none_front_stays (c ∷ chunks) chunk none = by_decoded (none_front_stays chunks chunk none) (decoded c) refl
  where
    by_decoded : front_of (chunks ++ chunk ∷ []) ≡ front_of chunks → (o : Option (List ℕ)) → decoded c ≡ o → front_of ((c ∷ chunks) ++ chunk ∷ []) ≡ front_of (c ∷ chunks)
    by_decoded more None is = ap (λ (o : Option (List ℕ)). whole_front (o ∷ map decoded (chunks ++ chunk ∷ []))) is ∙ sym (ap (λ (o : Option (List ℕ)). whole_front (o ∷ map decoded chunks)) is)
    by_decoded more (Some payload) is =
        ap (λ (o : Option (List ℕ)). whole_front (o ∷ map decoded (chunks ++ chunk ∷ []))) is ∙ ap (λ (l : List (List ℕ)). payload ∷ l) more
        ∙ sym (ap (λ (o : Option (List ℕ)). whole_front (o ∷ map decoded chunks)) is)

-- behind whole chunks a record does
whole_front_push : (chunks : List (List ℕ)) (chunk payload : List ℕ) → list_any is_torn chunks ≡ false → decoded chunk ≡ Some payload → front_of (chunks ++ chunk ∷ []) ≡ front_of chunks ++ payload ∷ []
whole_front_push [] chunk payload whole some = ap (λ (o : Option (List ℕ)). whole_front (o ∷ [])) some
whole_front_push (c ∷ chunks) chunk payload whole some = by_decoded (λ rest. whole_front_push chunks chunk payload rest some) (decoded c) refl
  where
    by_decoded : (list_any is_torn chunks ≡ false → front_of (chunks ++ chunk ∷ []) ≡ front_of chunks ++ payload ∷ []) → (o : Option (List ℕ)) → decoded c ≡ o → front_of ((c ∷ chunks) ++ chunk ∷ []) ≡ front_of (c ∷ chunks) ++ payload ∷ []
    by_decoded more None is = let wrong : true ≡ false = sym (ap (λ (o : Option (List ℕ)). is_none o || list_any is_torn chunks) is) ∙ whole in absurd (cc)
    by_decoded more (Some p) is =
        let rest : list_any is_torn chunks ≡ false = sym (ap (λ (o : Option (List ℕ)). is_none o || list_any is_torn chunks) is) ∙ whole in
        ap (λ (o : Option (List ℕ)). whole_front (o ∷ map decoded (chunks ++ chunk ∷ []))) is ∙ ap (λ (l : List (List ℕ)). p ∷ l) (more rest)
        ∙ sym (ap (λ (o : Option (List ℕ)). whole_front (o ∷ map decoded chunks) ++ payload ∷ []) is)

-- a file is its records and what is behind them
file_front : (bytes chunk : List ℕ) → (rest : List ℕ) × (chunk ++ bytes ≡ file_of (front_of (chunks_from chunk bytes)) ++ rest)
file_front [] chunk = (chunk ++ [], refl)
file_front (b ∷ bytes) chunk = elim (cases_eq b 255) [
  | inl end ↦ by_decoded (file_front bytes []) end (decoded chunk) refl
  | inr other ↦ let more = file_front bytes (chunk ++ b ∷ []) in
      (more.0, sym (append_assoc chunk (b ∷ []) bytes) ∙ more.1 ∙ ap (λ (l : List (List ℕ)). file_of (front_of l) ++ more.0) (sym (step_on b bytes chunk other)))
]
  where
    by_decoded : (rest : List ℕ) × (bytes ≡ file_of (front_of (chunks_from [] bytes)) ++ rest) → b ≡ 255 → (o : Option (List ℕ)) → decoded chunk ≡ o →
        (rest : List ℕ) × (chunk ++ b ∷ bytes ≡ file_of (front_of (chunks_from chunk (b ∷ bytes))) ++ rest)
    by_decoded more end None is = (
      chunk ++ b ∷ bytes,
      ap (λ (l : List (List ℕ)). file_of l ++ (chunk ++ b ∷ bytes))
          (sym (ap (λ (n : ℕ). front_of (chunks_from chunk (n ∷ bytes))) end ∙ ap (λ (o : Option (List ℕ)). whole_front (o ∷ map decoded (chunks_from [] bytes))) is)),
    )
    by_decoded more end (Some payload) is =
        let front : front_of (chunks_from chunk (b ∷ bytes)) ≡ payload ∷ front_of (chunks_from [] bytes) =
        ap (λ (n : ℕ). front_of (chunks_from chunk (n ∷ bytes))) end ∙ ap (λ (o : Option (List ℕ)). whole_front (o ∷ map decoded (chunks_from [] bytes))) is in (
          more.0,
          ap (λ (n : ℕ). chunk ++ n ∷ bytes) end ∙ ap (λ (l : List ℕ). l ++ 255 ∷ bytes) (decoded_is chunk payload is) ∙ sym (append_assoc (inside payload) (255 ∷ []) bytes)
              ∙ ap (λ (l : List ℕ). encoded payload ++ l) more.1 ∙ sym (append_assoc (encoded payload) (file_of (front_of (chunks_from [] bytes))) more.0)
              ∙ ap (λ (l : List (List ℕ)). file_of l ++ more.0) (sym front),
        )

-- and where all chunks are whole, what is behind them is the chunk that has not ended
whole_split : (bytes chunk : List ℕ) → list_any is_torn (chunks_from chunk bytes) ≡ false → chunk ++ bytes ≡ file_of (front_of (chunks_from chunk bytes)) ++ tail_of chunk bytes
whole_split [] chunk whole = append-nil chunk
whole_split (b ∷ bytes) chunk whole = elim (cases_eq b 255) [
  | inl end ↦ by_decoded (whole_split bytes []) end (decoded chunk) refl
  | inr other ↦
      let on : chunks_from chunk (b ∷ bytes) ≡ chunks_from (chunk ++ b ∷ []) bytes = step_on b bytes chunk other in
      let tail : tail_of chunk (b ∷ bytes) ≡ tail_of (chunk ++ b ∷ []) bytes = grind (arith, nat_tests, other) in
      sym (append_assoc chunk (b ∷ []) bytes) ∙ whole_split bytes (chunk ++ b ∷ []) (sym (ap (λ (l : List (List ℕ)). list_any is_torn l) on) ∙ whole)
      ∙ ap (λ (l : List (List ℕ)). file_of (front_of l) ++ tail_of (chunk ++ b ∷ []) bytes) (sym on)
      ∙ ap (λ (l : List ℕ). file_of (front_of (chunks_from chunk (b ∷ bytes))) ++ l) (sym tail)
]
  where
    by_decoded : (list_any is_torn (chunks_from [] bytes) ≡ false → bytes ≡ file_of (front_of (chunks_from [] bytes)) ++ tail_of [] bytes) → b ≡ 255 → (o : Option (List ℕ)) → decoded chunk ≡ o →
        chunk ++ b ∷ bytes ≡ file_of (front_of (chunks_from chunk (b ∷ bytes))) ++ tail_of chunk (b ∷ bytes)
    by_decoded more end None is =
        let torn : list_any is_torn (chunks_from chunk (b ∷ bytes)) ≡ true =
        ap (λ (n : ℕ). list_any is_torn (chunks_from chunk (n ∷ bytes))) end ∙ ap (λ (o : Option (List ℕ)). is_none o || list_any is_torn (chunks_from [] bytes)) is in
        let wrong : true ≡ false = sym torn ∙ whole in absurd (cc)
    by_decoded more end (Some payload) is =
        let rest : list_any is_torn (chunks_from [] bytes) ≡ false =
        sym (ap (λ (n : ℕ). list_any is_torn (chunks_from chunk (n ∷ bytes))) end ∙ ap (λ (o : Option (List ℕ)). is_none o || list_any is_torn (chunks_from [] bytes)) is) ∙ whole in
        let front : front_of (chunks_from chunk (b ∷ bytes)) ≡ payload ∷ front_of (chunks_from [] bytes) =
        ap (λ (n : ℕ). front_of (chunks_from chunk (n ∷ bytes))) end ∙ ap (λ (o : Option (List ℕ)). whole_front (o ∷ map decoded (chunks_from [] bytes))) is in
        let tail : tail_of chunk (b ∷ bytes) ≡ tail_of [] bytes = ap (λ (n : ℕ). tail_of chunk (n ∷ bytes)) end in
        ap (λ (n : ℕ). chunk ++ n ∷ bytes) end ∙ ap (λ (l : List ℕ). l ++ 255 ∷ bytes) (decoded_is chunk payload is) ∙ sym (append_assoc (inside payload) (255 ∷ []) bytes)
        ∙ ap (λ (l : List ℕ). encoded payload ++ l) (more rest) ∙ sym (append_assoc (encoded payload) (file_of (front_of (chunks_from [] bytes))) (tail_of [] bytes))
        ∙ ap (λ (l : List (List ℕ)). file_of l ++ tail_of [] bytes) (sym front) ∙ ap (λ (l : List ℕ). file_of (front_of (chunks_from chunk (b ∷ bytes))) ++ l) (sym tail)

-- the records of bytes with an end mark more
pub recovered_stays : (bytes : List ℕ) → list_any is_torn (chunks_from [] bytes) ≡ true → recovered (bytes ++ 255 ∷ []) ≡ recovered bytes
recovered_stays bytes torn = ap front_of (chunks_end bytes []) ∙ torn_front_stays (chunks_from [] bytes) (tail_of [] bytes) torn

pub recovered_none : (bytes : List ℕ) → decoded (tail_of [] bytes) ≡ None → recovered (bytes ++ 255 ∷ []) ≡ recovered bytes
recovered_none bytes none = ap front_of (chunks_end bytes []) ∙ none_front_stays (chunks_from [] bytes) (tail_of [] bytes) none

pub recovered_one : (bytes payload : List ℕ) → list_any is_torn (chunks_from [] bytes) ≡ false → decoded (tail_of [] bytes) ≡ Some payload → recovered (bytes ++ 255 ∷ []) ≡ recovered bytes ++ payload ∷ []
recovered_one bytes payload whole some = ap front_of (chunks_end bytes []) ∙ whole_front_push (chunks_from [] bytes) (tail_of [] bytes) payload whole some

pub recovered_on : (bytes : List ℕ) (byte : ℕ) → byte ≢ 255 → recovered (bytes ++ byte ∷ []) ≡ recovered bytes
recovered_on bytes byte no_end = ap front_of (chunks_on_byte bytes [] byte no_end)

-- all of the bytes are records then
whole_end : (bytes payload : List ℕ) → list_any is_torn (chunks_from [] bytes) ≡ false → decoded (tail_of [] bytes) ≡ Some payload → bytes ++ 255 ∷ [] ≡ file_of (recovered bytes ++ payload ∷ [])
whole_end bytes payload whole some =
    ap (λ (l : List ℕ). l ++ 255 ∷ []) (whole_split bytes [] whole) ∙ append_assoc (file_of (recovered bytes)) (tail_of [] bytes) (255 ∷ [])
    ∙ ap (λ (l : List ℕ). file_of (recovered bytes) ++ (l ++ 255 ∷ [])) (decoded_is (tail_of [] bytes) payload some)
    ∙ sym (file_of_one (recovered bytes) payload)

any_at_end : (test : List ℕ → Bool) (bytes : List ℕ) → list_any test (chunks_from [] (bytes ++ 255 ∷ [])) ≡ (list_any test (chunks_from [] bytes) || test (tail_of [] bytes))
any_at_end test bytes = ap (λ (l : List (List ℕ)). list_any test l) (chunks_end bytes []) ∙ any_push test (chunks_from [] bytes) (tail_of [] bytes)

or_false : (a b : Bool) → b ≡ false → a ≡ (a || b)
or_false true b none = refl
or_false false b none = sym none

or_true : (a b : Bool) → b ≡ true → true ≡ (a || b)
or_true true b some = refl
or_true false b some = sym some

-- a chunk that is not whole is known
pub known_torn : (bytes : List ℕ) (old new : Known) (has_zero : Bool) → decoded (tail_of [] bytes) ≡ None → has_zero ≡ list_any (λ b. b == 0) (tail_of [] bytes) → IsKnown bytes old →
    new.count ≡ old.count → new.end ≡ old.end → new.torn ≡ true → new.damaged ≡ (old.damaged || not has_zero) → new.highest ≡ old.highest → IsKnown (bytes ++ 255 ∷ []) new
known_torn bytes old new has_zero none zero is count end torn damaged highest =
    let read = recovered_none bytes none in
    let tail = tail_of [] bytes in
    record {
      count = count ∙ is.count ∙ ap length (sym read);
      end = end ∙ is.end ∙ ap (λ (l : List (List ℕ)). length (file_of l)) (sym read);
      torn = torn ∙ or_true (list_any is_torn (chunks_from [] bytes)) (is_torn tail) (ap is_none none) ∙ sym (any_at_end is_torn bytes);
      damaged = damaged ∙ ap (λ b. b || not has_zero) is.damaged ∙ ap (λ b. list_any is_damaged (chunks_from [] bytes) || not b) zero
          ∙ ap (λ (o : Option (List ℕ)). list_any is_damaged (chunks_from [] bytes) || (is_none o && not (list_any (λ b. b == 0) tail))) (sym none) ∙ sym (any_at_end is_damaged bytes);
      highest = λ n. ap (nat_lt n) highest ∙ is.highest n ∙ or_false (list_any (λ c. is_late n (decoded c)) (chunks_from [] bytes)) (is_late n (decoded tail)) (ap (is_late n) none)
          ∙ sym (any_at_end (λ c. is_late n (decoded c)) bytes);
    }

-- a record is known: whether it joins the front, and the rest
pub known_record : (bytes payload : List ℕ) (old new : Known) → decoded (tail_of [] bytes) ≡ Some payload → IsKnown bytes old →
    new.count ≡ length (recovered (bytes ++ 255 ∷ [])) → new.end ≡ length (file_of (recovered (bytes ++ 255 ∷ []))) → new.torn ≡ old.torn → new.damaged ≡ old.damaged →
    ((n : ℕ) → nat_lt n new.highest ≡ (nat_lt n old.highest || nat_lt n (floor_of payload))) → IsKnown (bytes ++ 255 ∷ []) new
known_record bytes payload old new some is count end torn damaged highest =
    let tail = tail_of [] bytes in
    record {
      count = count;
      end = end;
      torn = torn ∙ is.torn ∙ or_false (list_any is_torn (chunks_from [] bytes)) (is_torn tail) (ap is_none some) ∙ sym (any_at_end is_torn bytes);
      damaged = damaged ∙ is.damaged ∙ or_false (list_any is_damaged (chunks_from [] bytes)) (is_damaged tail) (ap (λ (o : Option (List ℕ)). is_none o && not (list_any (λ b. b == 0) tail)) some)
          ∙ sym (any_at_end is_damaged bytes);
      highest = λ n. highest n ∙ ap (λ b. b || nat_lt n (floor_of payload)) (is.highest n)
          ∙ ap (λ (o : Option (List ℕ)). list_any (λ c. is_late n (decoded c)) (chunks_from [] bytes) || is_late n o) (sym some) ∙ sym (any_at_end (λ c. is_late n (decoded c)) bytes);
    }

pub known_late : (bytes payload : List ℕ) (old new : Known) → decoded (tail_of [] bytes) ≡ Some payload → IsKnown bytes old → old.torn ≡ true →
    new.count ≡ old.count → new.end ≡ old.end → new.torn ≡ old.torn → new.damaged ≡ old.damaged →
    ((n : ℕ) → nat_lt n new.highest ≡ (nat_lt n old.highest || nat_lt n (floor_of payload))) → IsKnown (bytes ++ 255 ∷ []) new
known_late bytes payload old new some is torn count end same damaged highest =
    let read = recovered_stays bytes (sym is.torn ∙ torn) in
    known_record bytes payload old new some is (count ∙ is.count ∙ ap length (sym read)) (end ∙ is.end ∙ ap (λ (l : List (List ℕ)). length (file_of l)) (sym read)) same damaged highest

pub known_next : (bytes payload : List ℕ) (old new : Known) → decoded (tail_of [] bytes) ≡ Some payload → IsKnown bytes old → old.torn ≡ false →
    new.count ≡ old.count + 1 → new.end ≡ length bytes + 1 → new.torn ≡ old.torn → new.damaged ≡ old.damaged →
    ((n : ℕ) → nat_lt n new.highest ≡ (nat_lt n old.highest || nat_lt n (floor_of payload))) → IsKnown (bytes ++ 255 ∷ []) new
known_next bytes payload old new some is torn count end same damaged highest =
    let whole : list_any is_torn (chunks_from [] bytes) ≡ false = sym is.torn ∙ torn in
    let read = recovered_one bytes payload whole some in
    known_record bytes payload old new some is (omega (arith, count, is.count, ap length read, length-append (recovered bytes) (payload ∷ [])))
    (end ∙ sym (length-append bytes (255 ∷ [])) ∙ ap length (whole_end bytes payload whole some) ∙ ap (λ (l : List (List ℕ)). length (file_of l)) (sym read)) same damaged highest

-- a byte that is no end mark makes nothing known
pub known_on : (bytes : List ℕ) (byte : ℕ) (known : Known) → byte ≢ 255 → IsKnown bytes known → IsKnown (bytes ++ byte ∷ []) known
known_on bytes byte known no_end is =
    let same = chunks_on_byte bytes [] byte no_end in
    let read = recovered_on bytes byte no_end in
    record {
      count = is.count ∙ ap length (sym read);
      end = is.end ∙ ap (λ (l : List (List ℕ)). length (file_of l)) (sym read);
      torn = is.torn ∙ ap (λ (l : List (List ℕ)). list_any is_torn l) (sym same);
      damaged = is.damaged ∙ ap (λ (l : List (List ℕ)). list_any is_damaged l) (sym same);
      highest = λ n. is.highest n ∙ ap (λ (l : List (List ℕ)). list_any (λ c. is_late n (decoded c)) l) (sym same);
    }

pub walk_on : (bytes : List ℕ) (byte : ℕ) (old new : Walk) → byte ≢ 255 → IsWalk bytes old → new.walked ≡ old.walked + 1 → IsChunk (tail_of [] bytes ++ byte ∷ []) new.chunk → new.known ≡ old.known →
    IsWalk (bytes ++ byte ∷ []) new
walk_on bytes byte old new no_end is walked chunk known = record {
  walked = omega (arith, walked, is.walked, length-append bytes (byte ∷ []));
  chunk = subst (λ (l : List ℕ). IsChunk l new.chunk) (sym (tail_on_byte bytes [] byte no_end)) chunk;
  known = subst (IsKnown (bytes ++ byte ∷ [])) (sym known) (known_on bytes byte old.known no_end is.known);
}

pub walk_ended : (bytes : List ℕ) (old new : Walk) → IsWalk bytes old → new.walked ≡ old.walked + 1 → IsChunk [] new.chunk → IsKnown (bytes ++ 255 ∷ []) new.known → IsWalk (bytes ++ 255 ∷ []) new
walk_ended bytes old new is walked chunk known = record {
  walked = omega (arith, walked, is.walked, length-append bytes (255 ∷ []));
  chunk = subst (λ (l : List ℕ). IsChunk l new.chunk) (sym (tail_end bytes [])) chunk;
  known = known;
}

nothing_more : (xs ys : List (List ℕ)) → xs ≡ xs ++ ys → ys ≡ []
nothing_more xs [] is = refl
nothing_more xs (y ∷ ys) is = absurd (omega (arith, ap length is, length-append xs (y ∷ ys)))

-- what is known at the end of a file is what was found
corrupt_parts : (file : List ℕ) (known : Known) → IsKnown file known → is_corrupt file ≡ (known.damaged || nat_lt known.count known.highest)
corrupt_parts file known is =
    ap (λ (n : ℕ). list_any (tells_damage n) (chunks_from [] file)) (sym is.count) ∙ damage_parts known.count (chunks_from [] file)
    ∙ ap (λ b. b || list_any (λ c. is_late known.count (decoded c)) (chunks_from [] file)) (sym is.damaged)
    ∙ ap (λ b. known.damaged || b) (sym (is.highest known.count))

pub found_of_known : (file : List ℕ) (known : Known) (found : Found) → IsKnown file known → known.damaged ≡ false → nat_lt known.count known.highest ≡ false →
    found.count ≡ known.count → found.end ≡ known.end → IsFound file found
found_of_known file known found is clean low count end =
    let split = file_front file [] in
    let records = recovered file in
    let rest = split.0 in
    let long : found.end ≡ length (file_of records) = end ∙ is.end in
    let front : take found.end file ≡ file_of records = ap (λ (l : List ℕ). take found.end l) split.1 ∙ take_at (file_of records) rest found.end (sym long) in
    let back : drop found.end file ≡ rest = ap (λ (l : List ℕ). drop found.end l) split.1 ∙ drop_at (file_of records) rest found.end (sym long) in
    let none : recovered rest ≡ [] = nothing_more records (recovered rest) (ap recovered split.1 ∙ recovered_file records rest) in
    record {
      count = count ∙ is.count;
      within = omega (arith, long, ap length split.1, length-append (file_of records) rest);
      front = front;
      rest = ap recovered back ∙ none;
      sound = corrupt_parts file known is ∙ ap (λ b. b || nat_lt known.count known.highest) clean ∙ low;
    }

pub corrupt_of_known : (file : List ℕ) (known : Known) → IsKnown file known → (known.damaged || nat_lt known.count known.highest) ≡ true → is_corrupt file ≡ true
corrupt_of_known file known is bad = corrupt_parts file known is ∙ bad

-- what was found is what is known of the file
pub corrupt_at : (file : List ℕ) (known : Known) (result : Result Found WalError) → (IsErrOf result Corrupt → (file : List ℕ) → IsKnown file known → is_corrupt file ≡ true) → IsKnown file known →
    IsErrOf result Corrupt → is_corrupt file ≡ true
corrupt_at file known result finds is err = finds err file is

pub found_at : (file : List ℕ) (known : Known) (result : Result Found WalError) → IfOk result (λ found. (file : List ℕ) → IsKnown file known → IsFound file found) → IsKnown file known →
    IfOk result (λ found. IsFound file found)
found_at file known (Ok found) finds is = finds file is
found_at file known (Err error) finds is = tt
