-- What a crash leaves of a disk in memory, after each call.

use Rattle.std.proofs.Common.{◌≡◌, inl, inr, ◌⊎◌, ⊎_elim, ℕ, zero, suc, ◌+◌, ◌<◌, ◌≤◌, List, [], ◌∷◌, ◌++◌, length, take, drop, get_or, refl, sym, ◌∙◌, ap, subst, arith, append_assoc, length-append, length-take, Vec}
use Rattle.std.specs.Prelude.{Err, IfOk, Ok, Result}
use Rattle.std.specs.declared.alloc.AllocError.{AllocError}
use Rattle.std.specs.declared.alloc.Global.{Global}
use Rattle.std.proofs.lemmas.List.{append-nil, take_all}
use Rattle.zq_wal.specs.Disk.{Cut, Elapses, Follows, IsTear, NoLonger, Only, Torn}
use Rattle.zq_wal.specs.Image.{AnyLeft, LeftNow, LeftOf, LeftSince, bytes_of}
use Rattle.zq_wal.specs.declared.image.Image.{Image}
use Rattle.zq_wal.proofs.Outcomes.{tear_itself, tear_of_more}

tear_front : (left written more : List ℕ) → IsTear left (written ++ more) → IsTear (take (length written) left) written
tear_front left [] more tear = tt
tear_front [] (w ∷ written) more tear = tt
tear_front (c ∷ left) (w ∷ written) more tear = (tear.0, tear_front left written more tear.1)

tear_back : (left written more : List ℕ) → IsTear left (written ++ more) → IsTear (drop (length written) left) more
tear_back left [] more tear = tear
tear_back [] (w ∷ written) more tear = tt
tear_back (c ∷ left) (w ∷ written) more tear = tear_back left written more tear.1

nothing_torn : (left : List ℕ) → IsTear left [] → left ≡ []
nothing_torn [] tear = refl
nothing_torn (c ∷ left) tear = absurd tear

drop_past : (xs : List ℕ) (n : ℕ) → length xs ≤ n → drop n xs ≡ []
drop_past [] zero le = refl
drop_past [] (suc n) le = refl
drop_past (x ∷ xs) zero le = absurd (omega arith)
drop_past (x ∷ xs) (suc n) le = drop_past xs n (omega arith)

take_front : (front left : List ℕ) (n : ℕ) → take (length front + n) (front ++ left) ≡ front ++ take n left
take_front [] left n = let e : 0 + n ≡ n = omega arith in ap (λ (k : ℕ). take k left) e
take_front (f ∷ front) left n = let e : length (f ∷ front) + n ≡ suc (length front + n) = omega arith in
    ap (λ (k : ℕ). take k (f ∷ (front ++ left))) e ∙ ap (λ (l : List ℕ). f ∷ l) (take_front front left n)

drop_front : (front left : List ℕ) (n : ℕ) → drop (length front + n) (front ++ left) ≡ drop n left
drop_front [] left n = let e : 0 + n ≡ n = omega arith in ap (λ (k : ℕ). drop k left) e
drop_front (f ∷ front) left n = let e : length (f ∷ front) + n ≡ suc (length front + n) = omega arith in
    ap (λ (k : ℕ). drop k (f ∷ (front ++ left))) e ∙ drop_front front left n

take_twice : (xs : List ℕ) (n m : ℕ) → length xs ≤ n → take n xs ≡ xs
take_twice xs n m le = take_all n xs le

-- two images of the same bytes
pub same_left : (old new : Image) (c : List ℕ) → new.firm.items ≡ old.firm.items → new.loose.items ≡ old.loose.items → LeftOf new c → LeftOf old c
same_left old new c firm loose is = record {
  left = is.left;
  file = is.file ∙ ap (λ (l : List ℕ). l ++ is.left) firm;
  torn = subst (λ (l : List ℕ). IsTear is.left l) loose is.torn;
}

pub whole_left : (image : Image) → LeftOf image (bytes_of image)
whole_left image = record { left = image.loose.items; file = refl; torn = tear_itself image.loose.items }

-- where nothing is loose
pub firm_left : (image : Image) (bytes c : List ℕ) → image.firm.items ≡ bytes → image.loose.items ≡ [] → LeftOf image c → c ≡ bytes
firm_left image bytes c firm none is =
    let nothing : is.left ≡ [] = nothing_torn is.left (subst (λ (l : List ℕ). IsTear is.left l) none is.torn) in
    is.file ∙ ap (λ (l : List ℕ). image.firm.items ++ l) nothing ∙ append-nil image.firm.items ∙ firm

pub longer_left : (old new : Image) (bytes c : List ℕ) → new.firm.items ≡ old.firm.items → new.loose.items ≡ old.loose.items ++ bytes → LeftOf old c → LeftOf new c
longer_left old new bytes c firm loose is = record {
  left = is.left;
  file = is.file ∙ ap (λ (l : List ℕ). l ++ is.left) (sym firm);
  torn = subst (λ (l : List ℕ). IsTear is.left l) (sym loose) (tear_of_more is.left old.loose.items bytes is.torn);
}

-- an append of which nothing is left
nothing_left_of : (at : ℕ) (bytes c : List ℕ) → length c ≤ at → Torn at bytes c c
nothing_left_of at bytes c short = record { before = refl; tear = subst (λ (l : List ℕ). IsTear l bytes) (sym (drop_past c at short)) tt }

-- an append
torn_off : (old new : Image) (bytes c : List ℕ) → new.firm.items ≡ old.firm.items → new.loose.items ≡ old.loose.items ++ bytes → LeftOf new c →
    (d : List ℕ) × LeftOf old d × Torn (length (bytes_of old)) bytes d c
torn_off old new bytes c firm loose is =
    let front = old.firm.items in
    let many = length old.loose.items in
    let at = length (bytes_of old) in
    let long : at ≡ length front + many = length-append front old.loose.items in
    let torn : IsTear is.left (old.loose.items ++ bytes) = subst (λ (l : List ℕ). IsTear is.left l) loose is.torn in
    let file : c ≡ front ++ is.left = is.file ∙ ap (λ (l : List ℕ). l ++ is.left) firm in
    let d : List ℕ = front ++ take many is.left in
    let short : length d ≤ at = omega (arith, long, length-append front (take many is.left), length-take many is.left) in
    let taken : take at c ≡ d = ap (λ (l : List ℕ). take at l) file ∙ ap (λ (k : ℕ). take k (front ++ is.left)) long ∙ take_front front is.left many in
    let dropped : drop at c ≡ drop many is.left = ap (λ (l : List ℕ). drop at l) file ∙ ap (λ (k : ℕ). drop k (front ++ is.left)) long ∙ drop_front front is.left many in (
      d,
      record { left = take many is.left; file = refl; torn = tear_front is.left old.loose.items bytes torn },
      record {
        before = taken ∙ sym (take_all at d short);
        tear = subst (λ (l : List ℕ). IsTear l bytes) (sym dropped) (tear_back is.left old.loose.items bytes torn);
      },
    )

pub appended : (old new : Image) (elders : List Image) (bytes : List ℕ) → NoLonger (bytes_of old) (LeftNow old elders) → new.firm.items ≡ old.firm.items → new.loose.items ≡ old.loose.items ++ bytes →
    Follows (Torn (length (bytes_of old)) bytes) (LeftNow old elders) (LeftNow new elders)
appended old new elders bytes short firm loose c (inl now) = let from = torn_off old new bytes c firm loose now in (from.0, inl from.1, from.2)
appended old new elders bytes short firm loose c (inr elder) = (c, inr elder, nothing_left_of (length (bytes_of old)) bytes c (short c (inr elder)))

pub append_refused : (old new : Image) (elders : List Image) (bytes : List ℕ) → NoLonger (bytes_of old) (LeftNow old elders) → new.firm.items ≡ old.firm.items → new.loose.items ≡ old.loose.items →
    Follows (Torn (length (bytes_of old)) bytes) (LeftNow old elders) (LeftNow new elders)
append_refused old new elders bytes short firm loose c (inl now) =
    let was = same_left old new c firm loose now in (c, inl was, nothing_left_of (length (bytes_of old)) bytes c (short c (inl was)))
append_refused old new elders bytes short firm loose c (inr elder) = (c, inr elder, nothing_left_of (length (bytes_of old)) bytes c (short c (inr elder)))

-- one elder more
any_more : (images more : List Image) (c : List ℕ) → AnyLeft images c → AnyLeft (images ++ more) c
any_more [] more c had = absurd had
any_more (image ∷ images) more c (inl here) = inl here
any_more (image ∷ images) more c (inr there) = inr (any_more images more c there)

any_last : (images more : List Image) (c : List ℕ) → AnyLeft more c → AnyLeft (images ++ more) c
any_last [] more c had = had
any_last (image ∷ images) more c had = inr (any_last images more c had)

any_split : (images more : List Image) (c : List ℕ) → AnyLeft (images ++ more) c → AnyLeft images c ⊎ AnyLeft more c
any_split [] more c had = inr had
any_split (image ∷ images) more c (inl here) = inl (inl here)
any_split (image ∷ images) more c (inr there) = ⊎_elim (λ had. inl (inr had)) (λ had. inr had) (any_split images more c there)

-- another log in the place of one, which becomes an elder
module _ (old copy : Image) (elders : List Image) (firm : copy.firm.items ≡ old.firm.items) (loose : copy.loose.items ≡ old.loose.items) where
  pub was_left : (new : Image) (c : List ℕ) → LeftNow new (elders ++ copy ∷ []) c → LeftNow old elders c ⊎ LeftOf new c
  was_left new c (inl now) = inr now
  was_left new c (inr had) = ⊎_elim (λ elder. inl (inr elder)) (⊎_elim (λ last. inl (inl (same_left old copy c firm loose last))) (λ none. absurd none)) (any_split elders (copy ∷ []) c had)

  pub still_left : (new : Image) (c : List ℕ) → LeftNow old elders c → LeftNow new (elders ++ copy ∷ []) c
  still_left new c (inl now) = inr (any_last elders (copy ∷ []) c (inl (same_left copy old c (sym firm) (sym loose) now)))
  still_left new c (inr elder) = inr (any_more elders (copy ∷ []) c elder)

  pub cut_left : (new : Image) (len : ℕ) → len ≤ length (bytes_of old) → Only (bytes_of old) (LeftNow old elders) → new.firm.items ≡ take len (bytes_of old) → new.loose.items ≡ [] →
      Follows (Cut len) (LeftNow old elders) (LeftNow new (elders ++ copy ∷ []))
  cut_left new len within only is none c left = ⊎_elim from_old from_new (was_left new c left)
    where
      from_old : LeftNow old elders c → (d : List ℕ) × LeftNow old elders d × Cut len d c
      from_old had = (c, had, record { no_shorter = omega (arith, within, ap length (only c had)); front = take_all (length c) c (omega arith) })

      from_new : LeftOf new c → (d : List ℕ) × LeftNow old elders d × Cut len d c
      from_new now =
          let file : c ≡ take len (bytes_of old) = firm_left new (take len (bytes_of old)) c is none now in
          let long : length c ≡ len = omega (arith, within, ap length file, length-take len (bytes_of old)) in
          (bytes_of old, inl (whole_left old), record { no_shorter = omega (arith, long); front = ap (λ (k : ℕ). take k (bytes_of old)) long ∙ sym file })

-- what a sync leaves
pub synced_only : (old new : Image) → new.firm.items ≡ bytes_of old → new.loose.items ≡ [] → Only (bytes_of old) (LeftNow new [])
synced_only old new firm none c (inl now) = firm_left new (bytes_of old) c firm none now
synced_only old new firm none c (inr had) = absurd had

pub synced_was : (old new : Image) (elders : List Image) → new.firm.items ≡ bytes_of old → new.loose.items ≡ [] → (c : List ℕ) → LeftNow new [] c → LeftNow old elders c
synced_was old new elders firm none c left = inl (subst (LeftOf old) (sym (synced_only old new firm none c left)) (whole_left old))

-- time goes on
Since : (List ℕ → Type 0) → List Image → ℕ → List ℕ → Type 0
Since now past t c = now c ⊎ AnyLeft (drop t past) c

drop_more : (past more : List Image) (t : ℕ) → t ≤ length past → drop t (past ++ more) ≡ drop t past ++ more
drop_more past more zero le = refl
drop_more [] more (suc t) le = absurd (omega arith)
drop_more (image ∷ past) more (suc t) le = drop_more past more t (omega arith)

pub elapses_by : (was now : List ℕ → Type 0) (past later more : List Image) → later ≡ past ++ more → ((c : List ℕ) → AnyLeft more c → was c) → ((c : List ℕ) → was c → now c ⊎ AnyLeft more c) →
    Elapses (length past) (length later) (λ t c. was c ⊎ AnyLeft (drop t past) c) (λ t c. now c ⊎ AnyLeft (drop t later) c) now
elapses_by was now past later more is had kept = record {
  later = omega (arith, ap length is, length-append past more);
  nothing_else = λ t c le left. ⊎_elim (λ new. inr new)
      (λ old. inl (⊎_elim (λ past. inr past) (λ new. inl (had c new)) (any_split (drop t past) more c (subst (λ (l : List Image). AnyLeft l c) (ap (drop t) is ∙ drop_more past more t le) old)))) left;
  keeps = λ t c le left.
      let there : AnyLeft (drop t past ++ more) c → AnyLeft (drop t later) c = subst (λ (l : List Image). AnyLeft l c) (sym (ap (drop t) is ∙ drop_more past more t le)) in
      ⊎_elim (λ old. ⊎_elim (λ new. inl new) (λ new. inr (there (any_last (drop t past) more c new))) (kept c old)) (λ old. inr (there (any_more (drop t past) more c old))) left;
}

-- where the past is as it was, and what a crash left before it leaves
pub elapses_still : (was now : List ℕ → Type 0) (past : List Image) → ((c : List ℕ) → was c → now c) →
    Elapses (length past) (length past) (λ t c. was c ⊎ AnyLeft (drop t past) c) (λ t c. now c ⊎ AnyLeft (drop t past) c) now
elapses_still was now past kept = elapses_by was now past past [] (sym (append-nil past)) (λ c none. absurd none) (λ c old. inl (kept c old))

-- a sync puts what is left no more into the past
pub sync_noted : (log copy : Image) (elders : List Image) (c : List ℕ) → copy.firm.items ≡ log.firm.items → copy.loose.items ≡ log.loose.items → AnyLeft (copy ∷ elders) c → LeftNow log elders c
sync_noted log copy elders c firm loose (inl last) = inl (same_left log copy c firm loose last)
sync_noted log copy elders c firm loose (inr elder) = inr elder

pub sync_keeps : (log copy : Image) (elders : List Image) (c : List ℕ) → copy.firm.items ≡ log.firm.items → copy.loose.items ≡ log.loose.items → LeftNow log elders c → AnyLeft (copy ∷ elders) c
sync_keeps log copy elders c firm loose (inl now) = inl (same_left copy log c (sym firm) (sym loose) now)
sync_keeps log copy elders c firm loose (inr elder) = inr elder

-- a disk whose log and elders are as they were
pub now_same : (old new : Image) (elders newer : List Image) → new ≡ old → newer ≡ elders → (c : List ℕ) → LeftNow new newer c → LeftNow old elders c
now_same old new elders newer log same c left = subst (λ (image : Image). LeftNow image elders c) log (subst (λ (l : List Image). LeftNow new l c) same left)

pub same_elapses : (old new : Image) (elders newer past later : List Image) → new ≡ old → newer ≡ elders → later ≡ past →
    Elapses (length past) (length later) (LeftSince old elders past) (LeftSince new newer later) (LeftNow new newer)
same_elapses old new elders newer past later log same still =
    elapses_by (LeftNow old elders) (LeftNow new newer) past later [] (still ∙ sym (append-nil past)) (λ c none. absurd none) (λ c left. inl (now_same new old newer elders (sym log) (sym same) c left))

pub uncut : (old new : Image) (elders newer : List Image) (len : ℕ) → new ≡ old → newer ≡ elders → len ≤ length (bytes_of old) → Only (bytes_of old) (LeftNow old elders) →
    Follows (Cut len) (LeftNow old elders) (LeftNow new newer)
uncut old new elders newer len log same within only c left =
    let had = now_same old new elders newer log same c left in
    (c, had, record { no_shorter = omega (arith, within, ap length (only c had)); front = take_all (length c) c (omega arith) })

-- another log in the place of one
pub replaced_elapses : (old new copy : Image) (elders newer past later : List Image) → copy.firm.items ≡ old.firm.items → copy.loose.items ≡ old.loose.items → newer ≡ elders ++ copy ∷ [] → later ≡ past →
    Elapses (length past) (length later) (LeftSince old elders past) (LeftSince new newer later) (LeftNow new newer)
replaced_elapses old new copy elders newer past later firm loose one still =
    elapses_by (LeftNow old elders) (LeftNow new newer) past later [] (still ∙ sym (append-nil past)) (λ c none. absurd none)
    (λ c left. inl (subst (λ (l : List Image). LeftNow new l c) (sym one) (still_left old copy elders firm loose new c left)))

pub replaced_was : (old new copy : Image) (elders newer : List Image) → copy.firm.items ≡ old.firm.items → copy.loose.items ≡ old.loose.items → newer ≡ elders ++ copy ∷ [] →
    (c : List ℕ) → LeftNow new newer c → LeftNow old elders c ⊎ LeftOf new c
replaced_was old new copy elders newer firm loose one c left = was_left old copy elders firm loose new c (subst (λ (l : List Image). LeftNow new l c) one left)

pub cut_replaced : (old new copy : Image) (elders newer : List Image) (len : ℕ) → copy.firm.items ≡ old.firm.items → copy.loose.items ≡ old.loose.items → newer ≡ elders ++ copy ∷ [] →
    len ≤ length (bytes_of old) → Only (bytes_of old) (LeftNow old elders) → new.firm.items ≡ take len (bytes_of old) → new.loose.items ≡ [] → Follows (Cut len) (LeftNow old elders) (LeftNow new newer)
cut_replaced old new copy elders newer len firm loose one within only is none =
    subst (λ (l : List Image). Follows (Cut len) (LeftNow old elders) (LeftNow new l)) (sym one) (cut_left old copy elders firm loose new len within only is none)

-- an append leaves what was left before
pub appended_elapses : (old new : Image) (elders past : List Image) (bytes : List ℕ) → new.firm.items ≡ old.firm.items → new.loose.items ≡ old.loose.items ++ bytes →
    Elapses (length past) (length past) (LeftSince old elders past) (LeftSince new elders past) (LeftNow new elders)
appended_elapses old new elders past bytes firm loose =
    elapses_still (LeftNow old elders) (LeftNow new elders) past (λ c left. ⊎_elim (λ now. inl (longer_left old new bytes c firm loose now)) (λ elder. inr elder) left)

-- a sync that is broken off, and one that is done
pub broken_elapses : (log copy : Image) (elders newer past later : List Image) → copy.firm.items ≡ log.firm.items → copy.loose.items ≡ log.loose.items → newer ≡ elders → later ≡ past ++ copy ∷ [] →
    Elapses (length past) (length later) (LeftSince log elders past) (LeftSince log newer later) (LeftNow log newer)
broken_elapses log copy elders newer past later firm loose same one =
    elapses_by (LeftNow log elders) (LeftNow log newer) past later (copy ∷ []) one (λ c had. ⊎_elim (λ last. inl (same_left log copy c firm loose last)) (λ none. absurd none) had)
    (λ c left. inl (subst (λ (l : List Image). LeftNow log l c) (sym same) left))

pub synced_elapses : (log new copy : Image) (elders newer past pushed later : List Image) → copy.firm.items ≡ log.firm.items → copy.loose.items ≡ log.loose.items → pushed ≡ past ++ copy ∷ [] → later ≡ pushed ++ elders →
    Elapses (length past) (length later) (LeftSince log elders past) (LeftSince new newer later) (LeftNow new newer)
synced_elapses log new copy elders newer past pushed later firm loose one all =
    elapses_by (LeftNow log elders) (LeftNow new newer) past later (copy ∷ elders) (all ∙ ap (λ (l : List Image). l ++ elders) one ∙ append_assoc past (copy ∷ []) elders)
    (λ c had. sync_noted log copy elders c firm loose had) (λ c left. inr (sync_keeps log copy elders c firm loose left))

pub synced_now : (old new : Image) (newer : List Image) → new.firm.items ≡ bytes_of old → new.loose.items ≡ [] → newer ≡ [] → Only (bytes_of old) (LeftNow new newer)
synced_now old new newer firm none gone c left = synced_only old new firm none c (subst (λ (l : List Image). LeftNow new l c) gone left)

pub synced_before : (old new : Image) (elders newer : List Image) → new.firm.items ≡ bytes_of old → new.loose.items ≡ [] → newer ≡ [] → (c : List ℕ) → LeftNow new newer c → LeftNow old elders c
synced_before old new elders newer firm none gone c left = synced_was old new elders firm none c (subst (λ (l : List Image). LeftNow new l c) gone left)

-- a log that was just made
pub fresh_bytes : (image : Image) (bytes : List ℕ) → image.firm.items ≡ bytes → image.loose.items ≡ [] → bytes_of image ≡ bytes
fresh_bytes image bytes firm none = ap (λ (l : List ℕ). image.firm.items ++ l) none ∙ append-nil image.firm.items ∙ firm

pub fresh_only : (image : Image) (elders : List Image) (bytes : List ℕ) → image.firm.items ≡ bytes → image.loose.items ≡ [] → elders ≡ [] → Only (bytes_of image) (LeftNow image elders)
fresh_only image elders bytes firm none gone c left =
    ⊎_elim (λ now. firm_left image bytes c firm none now ∙ sym (fresh_bytes image bytes firm none)) (λ had. absurd (subst (λ (l : List Image). AnyLeft l c) gone had)) left

-- of the loose bytes so many have been looked at
abbrev pub TornTo : Image → ℕ → List ℕ → Type 0
TornTo image at left = (torn : List ℕ) × (left ≡ image.firm.items ++ torn) × (length torn ≡ at) × IsTear torn image.loose.items

tear_push : (torn written : List ℕ) (b d : ℕ) → length torn < length written → IsTear torn written → (b ≡ get_or written (length torn) d) ⊎ (b ≡ 0) → IsTear (torn ++ b ∷ []) written
tear_push torn [] b d within tear either = absurd (omega arith)
tear_push [] (w ∷ written) b d within tear either = (either, tt)
tear_push (c ∷ torn) (w ∷ written) b d within tear either = (tear.0, tear_push torn written b d (omega arith) tear.1 either)

pub torn_on : (image : Image) (at : ℕ) (left next : List ℕ) (b d : ℕ) → at < length image.loose.items → TornTo image at left → next ≡ left ++ b ∷ [] → (b ≡ get_or image.loose.items at d) ⊎ (b ≡ 0) → TornTo image (at + 1) next
torn_on image at left next b d within so_far longer either = (
  so_far.0 ++ b ∷ [],
  longer ∙ ap (λ (l : List ℕ). l ++ b ∷ []) so_far.1 ∙ append_assoc image.firm.items so_far.0 (b ∷ []),
  length-append so_far.0 (b ∷ []) ∙ ap (λ (n : ℕ). n + 1) so_far.2,
  tear_push so_far.0 image.loose.items b d (omega (arith, within, so_far.2)) so_far.3
      (subst (λ (n : ℕ). (b ≡ get_or image.loose.items n d) ⊎ (b ≡ 0)) (sym so_far.2) either),
)

pub torn_begins : (image : Image) (left : List ℕ) → left ≡ image.firm.items → TornTo image 0 left
torn_begins image left is = ([], is ∙ sym (append-nil image.firm.items), refl, tt)

pub torn_is_left : (image : Image) (at : ℕ) (left : List ℕ) → TornTo image at left → LeftOf image left
torn_is_left image at left torn = record { left = torn.0; file = torn.1; torn = torn.3 }

-- what is left of one of several images
any_at : (images : List Image) (i : ℕ) (d : Image) (c : List ℕ) → i < length images → LeftOf (get_or images i d) c → AnyLeft images c
any_at [] i d c within left = absurd (omega arith)
any_at (image ∷ images) zero d c within left = inl left
any_at (image ∷ images) (suc i) d c within left = inr (any_at images i d c (omega arith) left)

pub elder_left : (log image d : Image) (elders : List Image) (i : ℕ) (result : Result (Vec ℕ Global) AllocError) → i < length elders → image ≡ get_or elders i d → IfOk result (λ left. LeftOf image left.items) →
    IfOk result (λ left. LeftNow log elders left.items)
elder_left log image d elders i (Ok left) within is has = inr (any_at elders i d left.items within (subst (λ (x : Image). LeftOf x left.items) is has))
elder_left log image d elders i (Err error) within is has = tt

nothing_taken : (k : ℕ) (xs : List ℕ) → xs ≡ [] → take k xs ≡ []
nothing_taken zero xs none = refl
nothing_taken (suc k) xs none = ap (take (suc k)) none

-- the bytes from a place on
pub take_plus : (xs : List ℕ) (n m : ℕ) → take (n + m) xs ≡ take n xs ++ take m (drop n xs)
take_plus xs zero m = let e : 0 + m ≡ m = omega arith in ap (λ (k : ℕ). take k xs) e
take_plus [] (suc n) m = nothing_taken (suc n + m) [] refl ∙ sym (nothing_taken m [] refl)
take_plus (x ∷ xs) (suc n) m = let e : suc n + m ≡ suc (n + m) = omega arith in ap (λ (k : ℕ). take k (x ∷ xs)) e ∙ ap (λ (l : List ℕ). x ∷ l) (take_plus xs n m)
