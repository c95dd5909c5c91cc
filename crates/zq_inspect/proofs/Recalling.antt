-- What the records of a log make of heaps of which nothing was known.

use Rattle.std.proofs.Common.{List, None, Option, Some, [], ap, refl, subst, sym, ◌∙◌, ◌∷◌, ◌≡◌, ℕ}
use Rattle.std.proofs.lemmas.Option.{same_Some}
use Rattle.std.specs.Prelude.{Err, IsSome, Ok, OnOk, Result}
use Rattle.zq_inspect.specs.Recalled.{AreRead, GoesOn, Recalls}
use Rattle.zq_inspect.specs.declared.recall.Recall.{Recall}
use Rattle.zq_keeper.specs.Read.{HasRead, IsBlank, Reads}
use Rattle.zq_keeper.specs.declared.reader.Reader.{Reader}
use Rattle.zq_wal.specs.Replay.{Replayed}

goes_on : (old : Option Reader) (payload : List ℕ) (reader new : Reader) →
    (old ≡ None → IsBlank reader) → (IsSome old → old ≡ Some reader) → Reads reader payload new →
    GoesOn old payload (Some new)
goes_on None payload reader new first later reads = (reader, first refl, reads)
goes_on (Some r) payload reader new first later reads =
    subst (λ x. Reads x payload new) (sym (same_Some r reader (later refl))) reads

-- a record is taken by the reader of those before it, or by one of which nothing was read
pub recalled : {T E : Type 0} (result : Result T E) (old after : Option Reader)
    (payload : List ℕ) (reader new : Reader) → (old ≡ None → IsBlank reader) →
    (IsSome old → old ≡ Some reader) → after ≡ Some new → OnOk result (Reads reader payload new) →
    OnOk result (GoesOn old payload after)
recalled (Ok x) old after payload reader new first later is reads =
    subst (GoesOn old payload) (sym is) (goes_on old payload reader new first later reads)
recalled (Err e) old after payload reader new first later is reads = tt

-- a reader that has taken these records too
pub record Later (first : Reader) (payloads : List (List ℕ)) (after : Option Reader) : Type 0 where
  pub last : Reader
  pub is : after ≡ Some last
  pub read : Replayed Reads first payloads last

-- whoever takes a record goes on
pub split : (first : Reader) (payload : List ℕ) (after : Option Reader) →
    GoesOn (Some first) payload after →
    (second : Reader) × (after ≡ Some second) × Reads first payload second
split first payload None step = absurd step
split first payload (Some second) step = (second, refl, step)

further : (payloads : List (List ℕ)) (mid last : Recall) (first : Reader) →
    mid.reader ≡ Some first → Replayed Recalls mid payloads last →
    Later first payloads last.reader
further [] mid last first is end =
    record { last = first; is = ap (λ (r : Recall). r.reader) end ∙ is; read = refl }
further (payload ∷ payloads) mid last first is more =
    let step : GoesOn (Some first) payload more.0.reader =
    subst (λ r. GoesOn r payload more.0.reader) is more.1 in
    let next = split first payload more.0.reader step in
    let rest = further payloads more.0 last next.0 next.1 more.2 in
    record { last = rest.last; is = rest.is; read = (next.0, next.2, rest.read) }

begun : (payload : List ℕ) (payloads : List (List ℕ)) (next last : Recall)
    (after : Option Reader) → next.reader ≡ after → GoesOn None payload after →
    Replayed Recalls next payloads last → AreRead (payload ∷ payloads) last.reader
begun payload payloads next last None is step more = absurd step
begun payload payloads next last (Some second) is step more =
    let rest = further payloads next last second is more in
    let read : HasRead (payload ∷ payloads) rest.last =
    record { first = step.0; blank = step.1; read = (second, step.2, rest.read) } in
    subst (AreRead (payload ∷ payloads)) (sym rest.is) read

-- all records were read by one reader, which began with the first of them
pub all_read : (payloads : List (List ℕ)) (first last : Recall) → first.reader ≡ None →
    Replayed Recalls first payloads last → AreRead payloads last.reader
all_read [] first last none end =
    subst (AreRead []) (sym (ap (λ (r : Recall). r.reader) end ∙ none)) refl
all_read (payload ∷ payloads) first last none more =
    let step : GoesOn None payload more.0.reader =
    subst (λ r. GoesOn r payload more.0.reader) none more.1 in
    begun payload payloads more.0 last more.0.reader refl step more.2
