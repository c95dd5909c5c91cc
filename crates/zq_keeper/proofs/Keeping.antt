-- A keeper before and after what it writes, and what a crash leaves then.

use Rattle.std.proofs.Common.{List, Option, [], inl, inr, length, subst, ℕ, ◌++◌, ◌∷◌, ◌≡◌, ◌≤◌}
use Rattle.zq_entries.specs.Entry.{Entry, OfStart, start_of}
use Rattle.zq_entries.specs.Spelling.{entry_bytes}
use Rattle.zq_entries.specs.declared.start.Start.{Start}
use Rattle.zq_keeper.proofs.Leaving.{either, grows, stays, weaker}
use Rattle.zq_keeper.specs.Keeper.{IsKeeper, IsStill, Leaves, LeavesStart, with_entry}
use Rattle.zq_keeper.specs.Outline.{AreAllWhole, Cover}
use Rattle.zq_keeper.specs.Read.{IsReadAs}
use Rattle.zq_keeper.specs.declared.keeper.Keeper.{Keeper}
use Rattle.zq_keeper.specs.declared.outline.Outline.{Outline}
use Rattle.zq_recovery.specs.Opening.{IsNextStart}
use Rattle.zq_recovery.specs.declared.opening.Identity.{Identity}
use Rattle.zq_wal.proofs.Moments.{joined_runs, started}
use Rattle.zq_wal.specs.Disk.{LeavesOnly}
use Rattle.zq_wal.specs.Format.{payload_over, recovered}
use Rattle.zq_wal.specs.Laws.{TornIsKept}
use Rattle.zq_wal.specs.Wal.{Keeps}

module _ {D : Type 0} (seen staged : D → List ℕ) (may_leave : D → List ℕ → Type 0)
    (moment : D → ℕ) (left_since : D → ℕ → List ℕ → Type 0)
    (only_now : (disk : D) (c : List ℕ) → left_since disk (moment disk) c → may_leave disk c) where
  -- ---- crashes

  -- before a call that writes nothing
  pub unmoved : TornIsKept → (k : Keeper D) (those : List (List ℕ)) →
      IsKeeper seen staged may_leave k → LeavesOnly moment left_since k.wal.disk k.wal.disk
      (Leaves k.identity k.heaps.items (recovered (seen k.wal.disk)) those)
  unmoved torn k those is =
      let payloads = recovered (seen k.wal.disk) in
      started moment left_since k.wal.disk (Leaves k.identity k.heaps.items payloads those)
      (λ c left. stays k.identity k.heaps.items payloads those k.start k.wal.synced is.read is.whole
      is.synced c (torn payloads k.wal.synced c (subst (λ n. k.wal.synced ≤ n) is.log.count is.log.synced)
      is.log.floors (is.log.outcomes c (only_now k.wal.disk c left))))

  -- a commit
  pub commits : (k : Keeper D) (new : D) (bytes : List ℕ) (later : Option Start)
      (said : List Outline) → IsKeeper seen staged may_leave k →
      LeavesOnly moment left_since k.wal.disk new
      (Keeps (recovered (seen k.wal.disk) ++ payload_over k.wal.synced bytes ∷ [])
      k.wal.synced) →
      IsReadAs k.identity (recovered (seen k.wal.disk)
      ++ payload_over (length (recovered (seen k.wal.disk))) bytes ∷ []) later said →
      AreAllWhole said → Cover said k.heaps.items →
      LeavesOnly moment left_since k.wal.disk new
      (Leaves k.identity k.heaps.items (recovered (seen k.wal.disk))
      (recovered (seen k.wal.disk)
      ++ payload_over (length (recovered (seen k.wal.disk))) bytes ∷ []))
  commits k new bytes later said is any read whole covers =
      let payloads = recovered (seen k.wal.disk) in
      let payload = payload_over (length payloads) bytes in
      weaker moment left_since k.wal.disk new (Keeps (payloads ++ payload ∷ []) k.wal.synced)
      (Leaves k.identity k.heaps.items payloads (payloads ++ payload ∷ []))
      (grows k.identity k.heaps.items said payloads payload k.start later k.wal.synced is.read
      is.whole read whole covers is.synced)
      (subst (λ n. LeavesOnly moment left_since k.wal.disk new
      (Keeps (payloads ++ payload_over n bytes ∷ []) k.wal.synced)) is.synced any)

  -- one call behind another that leaves the log as it is
  pub joined : (k mid : Keeper D) (new : D) (f : List (List ℕ) → List (List ℕ)) → IsStill k mid →
      seen mid.wal.disk ≡ seen k.wal.disk →
      LeavesOnly moment left_since k.wal.disk mid.wal.disk
      (Leaves k.identity k.heaps.items (recovered (seen k.wal.disk))
      (recovered (seen k.wal.disk))) →
      LeavesOnly moment left_since mid.wal.disk new
      (Leaves mid.identity mid.heaps.items (recovered (seen mid.wal.disk))
      (f (recovered (seen mid.wal.disk)))) →
      LeavesOnly moment left_since k.wal.disk new
      (Leaves k.identity k.heaps.items (recovered (seen k.wal.disk))
      (f (recovered (seen k.wal.disk))))
  joined k mid new f still same first second =
      let payloads = recovered (seen k.wal.disk) in
      let P = Leaves k.identity k.heaps.items payloads (f payloads) in
      let Q = λ (i : Identity) (told : List Outline) (l : List ℕ). LeavesOnly moment left_since
      mid.wal.disk new (Leaves i told (recovered l) (f (recovered l))) in
      let its : Q k.identity k.heaps.items (seen k.wal.disk) =
      subst (λ l. Q k.identity k.heaps.items l) same
      (subst (λ v. Q k.identity v.items (seen mid.wal.disk)) still.heaps
      (subst (λ i. Q i mid.heaps.items (seen mid.wal.disk)) still.site.identity second)) in
      joined_runs moment left_since k.wal.disk mid.wal.disk new P P
      (weaker moment left_since k.wal.disk mid.wal.disk
      (Leaves k.identity k.heaps.items payloads payloads) P
      (either k.identity k.heaps.items payloads (f payloads)) first) its (λ c is. is)

  pub either_only : (k : Keeper D) (new : D) (those : List (List ℕ)) →
      LeavesOnly moment left_since k.wal.disk new
      (Leaves k.identity k.heaps.items (recovered (seen k.wal.disk))
      (recovered (seen k.wal.disk))) →
      LeavesOnly moment left_since k.wal.disk new
      (Leaves k.identity k.heaps.items (recovered (seen k.wal.disk)) those)
  either_only k new those is =
      let payloads = recovered (seen k.wal.disk) in
      weaker moment left_since k.wal.disk new
      (Leaves k.identity k.heaps.items payloads payloads)
      (Leaves k.identity k.heaps.items payloads those)
      (either k.identity k.heaps.items payloads those) is

  -- the entry's bytes are its spelling
  pub spelled : (k : Keeper D) (new : D) (bytes : List ℕ) (e : Entry) → bytes ≡ entry_bytes e →
      LeavesOnly moment left_since k.wal.disk new
      (Leaves k.identity k.heaps.items (recovered (seen k.wal.disk))
      (recovered (seen k.wal.disk)
      ++ payload_over (length (recovered (seen k.wal.disk))) bytes ∷ [])) →
      LeavesOnly moment left_since k.wal.disk new
      (Leaves k.identity k.heaps.items (recovered (seen k.wal.disk))
      (with_entry (recovered (seen k.wal.disk)) e))
  spelled k new bytes e is any =
      let payloads = recovered (seen k.wal.disk) in
      subst (λ b. LeavesOnly moment left_since k.wal.disk new
      (Leaves k.identity k.heaps.items payloads
      (payloads ++ payload_over (length payloads) b ∷ []))) is any

  -- a start
  pub starts : (k : Keeper D) (new : D) (bytes : List ℕ) (s : Start) →
      IsNextStart k.identity k.start s → bytes ≡ entry_bytes (OfStart (start_of s)) →
      LeavesOnly moment left_since k.wal.disk new
      (Leaves k.identity k.heaps.items (recovered (seen k.wal.disk))
      (recovered (seen k.wal.disk)
      ++ payload_over (length (recovered (seen k.wal.disk))) bytes ∷ [])) →
      LeavesOnly moment left_since k.wal.disk new
      (LeavesStart k.identity k.heaps.items (recovered (seen k.wal.disk)) k.start)
  starts k new bytes s next is any =
      let payloads = recovered (seen k.wal.disk) in
      let e = OfStart (start_of s) in
      weaker moment left_since k.wal.disk new
      (Leaves k.identity k.heaps.items payloads (with_entry payloads e))
      (LeavesStart k.identity k.heaps.items payloads k.start)
      (λ c left. inr (s, next, left)) (spelled k new bytes e is any)

  -- none
  pub starts_still : (k : Keeper D) →
      LeavesOnly moment left_since k.wal.disk k.wal.disk
      (Leaves k.identity k.heaps.items (recovered (seen k.wal.disk))
      (recovered (seen k.wal.disk))) →
      LeavesOnly moment left_since k.wal.disk k.wal.disk
      (LeavesStart k.identity k.heaps.items (recovered (seen k.wal.disk)) k.start)
  starts_still k is =
      let payloads = recovered (seen k.wal.disk) in
      weaker moment left_since k.wal.disk k.wal.disk
      (Leaves k.identity k.heaps.items payloads payloads)
      (LeavesStart k.identity k.heaps.items payloads k.start) (λ c left. inl left) is
