-- What a crash leaves of a keeper's log.

use Rattle.std.proofs.Common.{List, Option, [], ap, arith, false, inl, inr, length, refl, subst, sym, take, true, ⊎_elim, ℕ, ◌+◌, ◌++◌, ◌∙◌, ◌∷◌, ◌≡◌, ◌≤◌}
use Rattle.std.proofs.Math.Seq.{take-append_seam}
use Rattle.std.proofs.lemmas.Bool.Decides.{nat_tests}
use Rattle.std.proofs.lemmas.List.{length-append, take_all}
use Rattle.std.specs.Prelude.{◌==◌, ◌⊎◌}
use Rattle.zq_entries.specs.declared.start.Start.{Start}
use Rattle.zq_keeper.specs.Keeper.{Leaves}
use Rattle.zq_keeper.specs.Outline.{AreAllWhole, Cover}
use Rattle.zq_keeper.specs.Read.{IsReadAs}
use Rattle.zq_keeper.specs.declared.outline.Outline.{Outline}
use Rattle.zq_recovery.specs.declared.opening.Identity.{Identity}
use Rattle.zq_wal.specs.Disk.{LeavesOnly}
use Rattle.zq_wal.specs.Format.{is_corrupt, recovered}
use Rattle.zq_wal.specs.Wal.{Keeps, KeepsEither}

-- a weaker fact
pub weaker : {D : Type 0} (moment : D → ℕ) (left_since : D → ℕ → List ℕ → Type 0) (old new : D)
    (P Q : List ℕ → Type 0) → ((c : List ℕ) → P c → Q c) →
    LeavesOnly moment left_since old new P → LeavesOnly moment left_since old new Q
weaker moment left_since old new P Q on is = record {
  later = is.later;
  each = λ c left. on c (is.each c left);
  before = λ t c le left. ⊎_elim (λ was. inl was) (λ now. inr (on c now)) (is.before t c le left);
}

-- all records were synced
pub all_kept : (payloads : List (List ℕ)) (n : ℕ) (c : List ℕ) → n ≡ length payloads →
    Keeps payloads n c → recovered c ≡ payloads
all_kept payloads n c count keeps =
    let least = keeps.least in
    keeps.read ∙ take_all keeps.at payloads (omega (arith, least, count))

-- all but one
pub one_kept : (payloads : List (List ℕ)) (payload : List ℕ) (n : ℕ) (c : List ℕ) →
    n ≡ length payloads → Keeps (payloads ++ payload ∷ []) n c →
    (recovered c ≡ payloads) ⊎ (recovered c ≡ payloads ++ payload ∷ [])
one_kept payloads payload n c count keeps =
    let all = payloads ++ payload ∷ [] in
    let long : length all ≡ length payloads + 1 = length-append payloads (payload ∷ []) in
    let least = keeps.least in
    elim (keeps.at == length payloads) as (λ b. (keeps.at == length payloads) ≡ b →
    (recovered c ≡ payloads) ⊎ (recovered c ≡ all)) [
      | true ↦ λ test.
          (let same : keeps.at ≡ length payloads = grind (arith, nat_tests) in
          inl (keeps.read ∙ ap (λ k. take k all) same ∙ take-append_seam payloads (payload ∷ [])))
      | false ↦ λ test.
          (let apart : length payloads + 1 ≤ keeps.at = grind (arith, nat_tests) in
          inr (keeps.read ∙ take_all keeps.at all (omega (arith, long, apart))))
    ] refl

pub cover_self : (xs : List Outline) → Cover xs xs
cover_self xs h x there = (x, there, λ s. omega arith)

-- the records that were
pub was : (i : Identity) (told : List Outline) (these those : List (List ℕ)) (start : Option Start)
    (c : List ℕ) → IsReadAs i these start told → AreAllWhole told → is_corrupt c ≡ false →
    recovered c ≡ these → Leaves i told these those c
was i told these those start c read whole sound is = record {
  sound = sound;
  records = inl is;
  start = start;
  said = told;
  read = subst (λ payloads. IsReadAs i payloads start told) (sym is) read;
  whole = whole;
  covers = cover_self told;
}

-- or those that are
pub now : (i : Identity) (told said : List Outline) (these those : List (List ℕ))
    (start : Option Start) (c : List ℕ) → IsReadAs i those start said → AreAllWhole said →
    Cover said told → is_corrupt c ≡ false → recovered c ≡ those → Leaves i told these those c
now i told said these those start c read whole covers sound is = record {
  sound = sound;
  records = inr is;
  start = start;
  said = said;
  read = subst (λ payloads. IsReadAs i payloads start said) (sym is) read;
  whole = whole;
  covers = covers;
}

-- nothing was written to the log
pub stays : (i : Identity) (told : List Outline) (payloads those : List (List ℕ))
    (start : Option Start) (n : ℕ) → IsReadAs i payloads start told → AreAllWhole told →
    n ≡ length payloads → (c : List ℕ) → Keeps payloads n c → Leaves i told payloads those c
stays i told payloads those start n read whole count c keeps =
    was i told payloads those start c read whole keeps.sound (all_kept payloads n c count keeps)

-- an entry was
pub grows : (i : Identity) (told said : List Outline) (payloads : List (List ℕ)) (payload : List ℕ)
    (start later : Option Start) (n : ℕ) → IsReadAs i payloads start told → AreAllWhole told →
    IsReadAs i (payloads ++ payload ∷ []) later said → AreAllWhole said → Cover said told →
    n ≡ length payloads → (c : List ℕ) → Keeps (payloads ++ payload ∷ []) n c →
    Leaves i told payloads (payloads ++ payload ∷ []) c
grows i told said payloads payload start later n read whole its_read its_whole covers count c keeps =
    ⊎_elim (λ old. was i told payloads (payloads ++ payload ∷ []) start c read whole keeps.sound old)
    (λ new. now i told said payloads (payloads ++ payload ∷ []) later c its_read its_whole covers
    keeps.sound new) (one_kept payloads payload n c count keeps)

-- another file took the log's place
pub turns : (i : Identity) (told said : List Outline) (these those : List (List ℕ))
    (start later : Option Start) (n : ℕ) → IsReadAs i these start told → AreAllWhole told →
    IsReadAs i those later said → AreAllWhole said → Cover said told → n ≡ length these →
    (c : List ℕ) → KeepsEither these n those c → Leaves i told these those c
turns i told said these those start later n read whole its_read its_whole covers count c (inl keeps) =
    stays i told these those start n read whole count c keeps
turns i told said these those start later n read whole its_read its_whole covers count c (inr keeps) =
    now i told said these those later c its_read its_whole covers keeps.sound
    (all_kept those (length those) c refl keeps)

-- these alone
pub either : (i : Identity) (told : List Outline) (these those : List (List ℕ)) (c : List ℕ) →
    Leaves i told these these c → Leaves i told these those c
either i told these those c is = record {
  sound = is.sound;
  records = ⊎_elim (λ a. inl a) (λ b. inl b) is.records;
  start = is.start;
  said = is.said;
  read = is.read;
  whole = is.whole;
  covers = is.covers;
}
