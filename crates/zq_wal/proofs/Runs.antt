-- What a crash leaves during each call of a log.

use Rattle.std.specs.Prelude.{Option, Some}
use Rattle.std.proofs.Common.{◌≡◌, ◌⊎◌, inl, inr, ⊎_elim, ℕ, ◌+◌, ◌≤◌, List, [], ◌∷◌, ◌++◌, length, take, drop, refl, sym, ◌∙◌, ap, subst, arith, length-append}
use Rattle.zq_wal.specs.Disk.{Cut, Elapses, Follows, LeavesOnly, NoLonger, Only, Torn}
use Rattle.zq_wal.specs.Format.{encoded, file_of, floor_of, payload_over, recovered}
use Rattle.zq_wal.specs.Wal.{AreFloors, AreRecords, IsLog, IsNext, IsOutcome, Keeps, KeepsEither, Reads}
use Rattle.zq_wal.specs.declared.wal.Wal.{Wal}
use Rattle.zq_wal.proofs.Cuts.{cut_reads, itself_reads}
use Rattle.zq_wal.proofs.Floors.{floor_written}
use Rattle.zq_wal.proofs.Moments.{started, goes_on}
use Rattle.zq_wal.proofs.Outcomes.{outcome_keeps, outcome_length, outcome_appended, outcome_synced, keeps_of_more, floors_push, file_of_one, recovered_of}

module _ {D : Type 0} (seen staged : D → List ℕ) (may_leave : D → List ℕ → Type 0) (moment : D → ℕ) (left_since : D → ℕ → List ℕ → Type 0)
    (only_now : (disk : D) (c : List ℕ) → left_since disk (moment disk) c → may_leave disk c) where
  pub keeps_now : (log : Wal D) → IsLog seen staged may_leave log → (c : List ℕ) → may_leave log.disk c → Keeps (recovered (seen log.disk)) log.synced c
  keeps_now log is c now = outcome_keeps (recovered (seen log.disk)) log.synced c (omega (arith, is.synced, is.count)) is.floors (is.outcomes c now)

  -- before a call that changes nothing
  pub begins : (log : Wal D) → IsLog seen staged may_leave log → LeavesOnly moment left_since log.disk log.disk (Keeps (recovered (seen log.disk)) log.synced)
  begins log is = started moment left_since log.disk (Keeps (recovered (seen log.disk)) log.synced) (λ c left. keeps_now log is c (only_now log.disk c left))

  pub begins_longer : (log : Wal D) (payload : List ℕ) → IsLog seen staged may_leave log →
      LeavesOnly moment left_since log.disk log.disk (Keeps (recovered (seen log.disk) ++ payload ∷ []) log.synced)
  begins_longer log payload is = started moment left_since log.disk (Keeps (recovered (seen log.disk) ++ payload ∷ []) log.synced)
      (λ c left. keeps_of_more (recovered (seen log.disk)) payload log.synced c (keeps_now log is c (only_now log.disk c left)))

  -- a call that leaves what a crash left before
  pub stays : (log : Wal D) (new : D) → IsLog seen staged may_leave log → Elapses (moment log.disk) (moment new) (left_since log.disk) (left_since new) (may_leave new) →
      ((c : List ℕ) → may_leave new c → may_leave log.disk c) → LeavesOnly moment left_since log.disk new (Keeps (recovered (seen log.disk)) log.synced)
  stays log new is time crash = goes_on moment left_since log.disk log.disk new (Keeps (recovered (seen log.disk)) log.synced) (may_leave new) (begins log is) time
      (λ c now. keeps_now log is c (crash c now))

  pub no_longer : (log : Wal D) → IsLog seen staged may_leave log → NoLonger (seen log.disk) (may_leave log.disk)
  no_longer log is c now = omega (arith, outcome_length (recovered (seen log.disk)) log.synced c (is.outcomes c now), ap length is.file)

  -- what a torn append leaves
  pub appended_outcome : (log : Wal D) (new : D) (payload : List ℕ) → IsLog seen staged may_leave log →
      Follows (Torn (length (seen log.disk)) (encoded payload)) (may_leave log.disk) (may_leave new) →
      (c : List ℕ) → may_leave new c → IsOutcome (recovered (seen log.disk) ++ payload ∷ []) log.synced c
  appended_outcome log new payload is follows c now =
      let from = follows c now in
      outcome_appended (recovered (seen log.disk)) payload log.synced from.0 c (omega (arith, is.synced, is.count)) (is.outcomes from.0 from.1)
      (subst (λ (l : List ℕ). Torn (length l) (encoded payload) from.0 c) is.file from.2)

  floors_longer : (log : Wal D) (payload : List ℕ) → IsLog seen staged may_leave log → floor_of payload ≤ log.synced → AreFloors log.synced (recovered (seen log.disk) ++ payload ∷ [])
  floors_longer log payload is most = floors_push log.synced (recovered (seen log.disk)) payload is.floors most

  pub appends : (log : Wal D) (new : D) (payload : List ℕ) → IsLog seen staged may_leave log → floor_of payload ≤ log.synced →
      Elapses (moment log.disk) (moment new) (left_since log.disk) (left_since new) (may_leave new) →
      Follows (Torn (length (seen log.disk)) (encoded payload)) (may_leave log.disk) (may_leave new) →
      LeavesOnly moment left_since log.disk new (Keeps (recovered (seen log.disk) ++ payload ∷ []) log.synced)
  appends log new payload is most time follows =
      goes_on moment left_since log.disk log.disk new (Keeps (recovered (seen log.disk) ++ payload ∷ []) log.synced) (may_leave new) (begins_longer log payload is) time
      (λ c now. outcome_keeps (recovered (seen log.disk) ++ payload ∷ []) log.synced c
      (omega (arith, is.synced, is.count, length-append (recovered (seen log.disk)) (payload ∷ []))) (floors_longer log payload is most)
      (appended_outcome log new payload is follows c now))

  file_longer : (log : Wal D) (new : D) (payload : List ℕ) → IsLog seen staged may_leave log → seen new ≡ seen log.disk ++ encoded payload →
      seen new ≡ file_of (recovered (seen log.disk) ++ payload ∷ [])
  file_longer log new payload is written = written ∙ ap (λ (l : List ℕ). l ++ encoded payload) is.file ∙ sym (file_of_one (recovered (seen log.disk)) payload)

  -- the records after an append
  pub appended_read : (log : Wal D) (new : D) (payload : List ℕ) → IsLog seen staged may_leave log → seen new ≡ seen log.disk ++ encoded payload →
      recovered (seen new) ≡ recovered (seen log.disk) ++ payload ∷ []
  appended_read log new payload is written = ap recovered (file_longer log new payload is written) ∙ recovered_of (recovered (seen log.disk) ++ payload ∷ [])

  -- the next file is as it was
  pub next_stays : (log new : Wal D) → new.next ≡ log.next → staged new.disk ≡ staged log.disk → IsNext log.next (staged log.disk) → IsNext new.next (staged new.disk)
  next_stays log new same still is = subst (λ (n : Option ℕ). IsNext n (staged new.disk)) (sym same) (subst (λ (l : List ℕ). IsNext log.next l) (sym still) is)

  pub appended_log : (log next : Wal D) (payload : List ℕ) → IsLog seen staged may_leave log → floor_of payload ≤ log.synced → seen next.disk ≡ seen log.disk ++ encoded payload →
      next.count ≡ log.count + 1 → next.synced ≡ log.synced → next.next ≡ log.next → staged next.disk ≡ staged log.disk →
      Follows (Torn (length (seen log.disk)) (encoded payload)) (may_leave log.disk) (may_leave next.disk) → IsLog seen staged may_leave next
  appended_log log next payload is most written count synced same still follows =
      let read = appended_read log next.disk payload is written in
      record {
        file = file_longer log next.disk payload is written ∙ ap file_of (sym read);
        count = omega (arith, count, is.count, ap length read, length-append (recovered (seen log.disk)) (payload ∷ []));
        synced = omega (arith, count, synced, is.synced);
        floors = subst (λ (n : ℕ). AreFloors n (recovered (seen next.disk))) (sym synced) (subst (λ (l : List (List ℕ)). AreFloors log.synced l) (sym read) (floors_longer log payload is most));
        outcomes = λ c now. subst (λ (n : ℕ). IsOutcome (recovered (seen next.disk)) n c) (sym synced)
            (subst (λ (l : List (List ℕ)). IsOutcome l log.synced c) (sym read) (appended_outcome log next.disk payload is follows c now));
        next = next_stays log next same still is.next;
      }

  -- a log whose file is these records, all of them synced
  pub settled_log : (log : Wal D) (payloads : List (List ℕ)) → seen log.disk ≡ file_of payloads → log.count ≡ length payloads → log.synced ≡ length payloads →
      AreFloors (length payloads) payloads → Only (seen log.disk) (may_leave log.disk) → IsNext log.next (staged log.disk) → IsLog seen staged may_leave log
  settled_log log payloads file count synced floors only next =
      let read : recovered (seen log.disk) ≡ payloads = ap recovered file ∙ recovered_of payloads in
      record {
        file = file ∙ ap file_of (sym read);
        count = count ∙ ap length (sym read);
        synced = omega (arith, count, synced);
        floors = subst (λ (n : ℕ). AreFloors n (recovered (seen log.disk))) (sym synced) (subst (λ (l : List (List ℕ)). AreFloors (length payloads) l) (sym read) floors);
        outcomes = λ c now. subst (λ (n : ℕ). IsOutcome (recovered (seen log.disk)) n c) (sym synced)
            (subst (λ (l : List (List ℕ)). IsOutcome l (length payloads) c) (sym read) (outcome_synced payloads c (only c now ∙ file)));
        next = next;
      }

  -- the log as it was, with another next file
  pub next_begins : (log : Wal D) (new : D) (next : Option ℕ) → IsLog seen staged may_leave log → seen new ≡ seen log.disk → ((c : List ℕ) → may_leave new c → may_leave log.disk c) →
      IsNext next (staged new) → IsLog seen staged may_leave (record { disk = new; count = log.count; synced = log.synced; next = next })
  next_begins log new next is same crash begun = record {
    file = same ∙ is.file ∙ ap (λ (l : List ℕ). file_of (recovered l)) (sym same);
    count = is.count ∙ ap (λ (l : List ℕ). length (recovered l)) (sym same);
    synced = is.synced;
    floors = subst (λ (l : List ℕ). AreFloors log.synced (recovered l)) (sym same) is.floors;
    outcomes = λ c now. subst (λ (l : List ℕ). IsOutcome (recovered l) log.synced c) (sym same) (is.outcomes c (crash c now));
    next = begun;
  }

  pub next_begun : (log : Wal D) (new : D) → IsLog seen staged may_leave log → seen new ≡ seen log.disk → staged new ≡ [] → ((c : List ℕ) → may_leave new c → may_leave log.disk c) →
      IsLog seen staged may_leave (record { disk = new; count = log.count; synced = log.synced; next = Some 0 })
  next_begun log new is same none crash = next_begins log new (Some 0) is same crash (subst (λ (l : List ℕ). AreRecords 0 l) (sym none) (record { bytes = refl; count = refl; floors = tt }))

  next_had : (log : Wal D) (n : ℕ) → IsLog seen staged may_leave log → log.next ≡ Some n → AreRecords n (staged log.disk)
  next_had log n is some = subst (λ (o : Option ℕ). IsNext o (staged log.disk)) some is.next

  next_file : (log : Wal D) (new : D) (n : ℕ) (body : List ℕ) → IsLog seen staged may_leave log → log.next ≡ Some n → staged new ≡ staged log.disk ++ encoded (payload_over 0 body) →
      staged new ≡ file_of (recovered (staged log.disk) ++ payload_over 0 body ∷ [])
  next_file log new n body is some written =
      let had = next_had log n is some in
      written ∙ ap (λ (l : List ℕ). l ++ encoded (payload_over 0 body)) had.bytes ∙ sym (file_of_one (recovered (staged log.disk)) (payload_over 0 body))

  -- the next file's records after an append
  pub next_read : (log : Wal D) (new : D) (n : ℕ) (body : List ℕ) → IsLog seen staged may_leave log → log.next ≡ Some n → staged new ≡ staged log.disk ++ encoded (payload_over 0 body) →
      recovered (staged new) ≡ recovered (staged log.disk) ++ payload_over 0 body ∷ []
  next_read log new n body is some written = ap recovered (next_file log new n body is some written) ∙ recovered_of (recovered (staged log.disk) ++ payload_over 0 body ∷ [])

  pub next_longer : (log : Wal D) (new : D) (n : ℕ) (body : List ℕ) → IsLog seen staged may_leave log → log.next ≡ Some n → seen new ≡ seen log.disk →
      staged new ≡ staged log.disk ++ encoded (payload_over 0 body) → ((c : List ℕ) → may_leave new c → may_leave log.disk c) →
      IsLog seen staged may_leave (record { disk = new; count = log.count; synced = log.synced; next = Some (n + 1) })
  next_longer log new n body is some same written crash =
      let had = next_had log n is some in
      let read = next_read log new n body is some written in
      next_begins log new (Some (n + 1)) is same crash (record {
        bytes = next_file log new n body is some written ∙ ap file_of (sym read);
        count = omega (arith, had.count, ap length read, length-append (recovered (staged log.disk)) (payload_over 0 body ∷ []));
        floors = subst (λ (l : List (List ℕ)). AreFloors 0 l) (sym read) (floors_push 0 (recovered (staged log.disk)) (payload_over 0 body) had.floors (floor_written 0 body (omega arith)));
      })

  -- what a switch stands on
  pub next_is : (log : Wal D) (n : ℕ) → IsLog seen staged may_leave log → log.next ≡ Some n → AreRecords n (staged log.disk)
  next_is log n is some = next_had log n is some

  -- while a file is read again
  pub read_again : (old : D) → Only (seen old) (may_leave old) → LeavesOnly moment left_since old old (Reads (seen old))
  read_again old only = started moment left_since old (Reads (seen old)) (λ c left. subst (Reads (seen old)) (sym (only c (only_now old c left))) (itself_reads (seen old)))

  pub cut_again : (old new : D) (end : ℕ) → Only (seen old) (may_leave old) → take end (seen old) ≡ file_of (recovered (seen old)) → recovered (drop end (seen old)) ≡ [] →
      end ≤ length (seen old) → Follows (Cut end) (may_leave old) (may_leave new) → (c : List ℕ) → may_leave new c → Reads (seen old) c
  cut_again old new end only front none within follows c now =
      let from = follows c now in
      cut_reads (seen old) c end front none within (subst (λ (l : List ℕ). Cut end l c) (only from.0 from.1) from.2)

  all_kept : (payloads : List (List ℕ)) → AreFloors (length payloads) payloads → (c : List ℕ) → c ≡ file_of payloads → Keeps payloads (length payloads) c
  all_kept payloads floors c is = outcome_keeps payloads (length payloads) c (omega arith) floors (outcome_synced payloads c is)

  -- before the next file takes the log's name
  pub next_synced : (log : Wal D) (mid : D) (others : List (List ℕ)) → IsLog seen staged may_leave log →
      Elapses (moment log.disk) (moment mid) (left_since log.disk) (left_since mid) (may_leave mid) → ((c : List ℕ) → may_leave mid c → may_leave log.disk c) →
      LeavesOnly moment left_since log.disk mid (KeepsEither (recovered (seen log.disk)) log.synced others)
  next_synced log mid others is time crash =
      let P = KeepsEither (recovered (seen log.disk)) log.synced others in
      goes_on moment left_since log.disk log.disk mid P (may_leave mid) (started moment left_since log.disk P (λ c left. inl (keeps_now log is c (only_now log.disk c left)))) time
      (λ c now. inl (keeps_now log is c (crash c now)))

  -- and what a crash leaves once it may have it
  pub next_published : (log : Wal D) (mid new : D) (others : List (List ℕ)) (next : List ℕ) (next_may_leave : List ℕ → Type 0) → IsLog seen staged may_leave log →
      ((c : List ℕ) → may_leave mid c → may_leave log.disk c) → next ≡ file_of others → AreFloors (length others) others → Only next next_may_leave →
      ((c : List ℕ) → may_leave new c → may_leave mid c ⊎ next_may_leave c) → (c : List ℕ) → may_leave new c → KeepsEither (recovered (seen log.disk)) log.synced others c
  next_published log mid new others next next_may_leave is crash staged floors only follows c now =
      ⊎_elim (λ old. inl (keeps_now log is c (crash c old))) (λ other. inr (all_kept others floors c (only c other ∙ staged))) (follows c now)
