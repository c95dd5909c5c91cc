-- The calls on the file of a log, and what a crash leaves after them.

use Rattle.std.specs.Prelude.{Bool, List, [], false, if◌then◌else◌, length, suc, take, true, zero, ℕ, ◌++◌, ◌<◌, ◌≡◌, ◌≤◌, ◌∷◌, ◌⊎◌}
use Rattle.std.proofs.Common.{inl, inr}
use Rattle.std.proofs.Math.Nat.{not-suc-le_self}
use Rattle.zq_wal.specs.Disk.{Cut, Torn}

-- A call with its answer: which call, a number, whether it succeeded, and bytes.
-- 0: these bytes were read behind those before, of a log that nothing was asked of yet, into a
--    piece of this length
-- 1: these bytes were written behind its end
-- 2: it was cut to this length
-- 3: it was synced, and its name
-- 4: the next file was begun
-- 5: these bytes were written behind its end
-- 6: it was synced
-- 7: it took the log's name
-- 8: zeros were written ahead in the log, or in the next file, as far as there was room
abbrev pub Event : Type 0
Event = ℕ × ℕ × Bool × List ℕ

-- the log, the next file, and the calls that failed
pub record Model : Type 0 where
  pub seen : List ℕ
  pub staged : List ℕ
  pub faults : ℕ

abbrev pub failed : Bool → ℕ → ℕ
failed ok n = if ok then n else suc n

abbrev pub after_call : ℕ → ℕ → Bool → List ℕ → Model → Model
after_call zero n ok bytes m =
    record m { seen = if ok then m.seen ++ bytes else m.seen; faults = failed ok m.faults }
after_call (suc zero) n ok bytes m =
    record m { seen = if ok then m.seen ++ bytes else m.seen; faults = failed ok m.faults }
after_call (suc (suc zero)) n ok bytes m =
    record m { seen = if ok then take n m.seen else m.seen; faults = failed ok m.faults }
after_call (suc (suc (suc zero))) n ok bytes m = record m { faults = failed ok m.faults }
after_call (suc (suc (suc (suc zero)))) n ok bytes m =
    record m { staged = if ok then [] else m.staged; faults = failed ok m.faults }
after_call (suc (suc (suc (suc (suc zero))))) n ok bytes m =
    record m { staged = if ok then m.staged ++ bytes else m.staged; faults = failed ok m.faults }
after_call (suc (suc (suc (suc (suc (suc zero)))))) n ok bytes m =
    record m { faults = failed ok m.faults }
after_call (suc (suc (suc (suc (suc (suc (suc zero))))))) n ok bytes m =
    record m { seen = if ok then m.staged else m.seen; faults = failed ok m.faults }
after_call (suc (suc (suc (suc (suc (suc (suc (suc more)))))))) n ok bytes m =
    record m { faults = failed ok m.faults }

-- after these calls, of which the newest comes first
abbrev pub replay : List Event → Model
replay [] = record { seen = []; staged = []; faults = 0 }
replay (e ∷ earlier) = after_call e.0 e.1 e.2 e.3 (replay earlier)

-- a crash leaves all the bytes where the sync succeeded
abbrev pub SyncedTo : Bool → List ℕ → List ℕ → Type 0
SyncedTo true file c = c ≡ file
SyncedTo false file c = Unit {0}

-- what a crash may leave of the next file after one call more
abbrev pub next_left : ℕ → Bool → List ℕ → (List ℕ → Type 0) → List ℕ → Type 0
next_left (suc (suc (suc (suc (suc (suc zero)))))) ok staged next c = SyncedTo ok staged c
next_left (suc (suc (suc (suc (suc (suc (suc (suc more)))))))) ok staged next c = next c
next_left n ok staged next c = Unit {0}

abbrev pub NextLeft : List Event → List ℕ → Type 0
NextLeft [] c = Unit {0}
NextLeft (e ∷ earlier) c = next_left e.0 e.2 (replay earlier).staged (NextLeft earlier) c

-- what a crash may leave of the log after one call more
abbrev pub left_by : ℕ → ℕ → Bool → List ℕ → Model → (List ℕ → Type 0) → (List ℕ → Type 0) →
    List ℕ → Type 0
left_by zero n ok bytes m next left c = c ≡ (if ok then m.seen ++ bytes else m.seen)
left_by (suc zero) n ok bytes m next left c = (d : List ℕ) × left d × Torn (length m.seen) bytes d c
left_by (suc (suc zero)) n ok bytes m next left c = (d : List ℕ) × left d × Cut n d c
left_by (suc (suc (suc zero))) n ok bytes m next left c = left c × SyncedTo ok m.seen c
left_by (suc (suc (suc (suc zero)))) n ok bytes m next left c = left c
left_by (suc (suc (suc (suc (suc zero))))) n ok bytes m next left c = left c
left_by (suc (suc (suc (suc (suc (suc zero)))))) n ok bytes m next left c = left c
left_by (suc (suc (suc (suc (suc (suc (suc zero))))))) n ok bytes m next left c = left c ⊎ next c
left_by (suc (suc (suc (suc (suc (suc (suc (suc more)))))))) n ok bytes m next left c = left c

abbrev pub MayLeave : List Event → List ℕ → Type 0
MayLeave [] c = c ≡ []
MayLeave (e ∷ earlier) c =
    left_by e.0 e.1 e.2 e.3 (replay earlier) (NextLeft earlier) (MayLeave earlier) c

-- what a crash since that moment might have left
abbrev pub LeftSince : List Event → ℕ → List ℕ → Type 0
LeftSince [] t c = c ≡ []
LeftSince (e ∷ earlier) t c =
    MayLeave (e ∷ earlier) c ⊎ ((t ≤ length earlier) × LeftSince earlier t c)

-- this moment is one of those
pub counts_now_of : (events : List Event) (t : ℕ) (c : List ℕ) →
    t ≤ length events → MayLeave events c → LeftSince events t c
counts_now_of [] t c le now = now
counts_now_of (e ∷ earlier) t c le now = inl now

-- since this one there is no other
pub only_now_of : (events : List Event) (c : List ℕ) →
    LeftSince events (length events) c → MayLeave events c
only_now_of [] c left = left
only_now_of (e ∷ earlier) c (inl now) = now
only_now_of (e ∷ earlier) c (inr past) = absurd (not-suc-le_self (length earlier) past.0)

-- the last call was a read into a piece that has room, and there was nothing more to be read
abbrev pub IsAtEnd : List Event → Type 0
IsAtEnd [] = ⊥
IsAtEnd (e ∷ earlier) = (e.0 ≡ 0) × (0 < e.1) × (e.2 ≡ true) × (e.3 ≡ [])
