-- What a session does with the two ends of its peer, step by step.
use Rattle.std.specs.Prelude.{◌≡◌, ◌≤◌, ℕ, ◌+◌, List, [], ◌∷◌, ◌++◌, length, map, Option}
use Rattle.std.specs.Io.KnownBytes.{Appends, Consumes, IsAtEnd, Keeps}
use Rattle.zq_resp.specs.Reply.{joined}

-- A read gave these bytes, none where the input is at its end; a read failed; these bytes were
-- written.
pub data Step : Type 0 where
  Heard : (bytes : List ℕ) → Step
  Failed : Step
  Said : (bytes : List ℕ) → Step

-- how the ends of a peer change with a step: their state before, the step, their state after
abbrev pub Does : Type 0 → Type 1
Does S = S → Step → S → Type 0

-- all that was read, and all that was written
abbrev pub heard : List Step → List ℕ
heard [] = []
heard (Heard bytes ∷ steps) = bytes ++ heard steps
heard (Failed ∷ steps) = heard steps
heard (Said bytes ∷ steps) = heard steps

abbrev pub said : List Step → List ℕ
said [] = []
said (Heard bytes ∷ steps) = said steps
said (Failed ∷ steps) = said steps
said (Said bytes ∷ steps) = bytes ++ said steps

-- how many reads gave bytes or the end of the input
abbrev pub reads : List Step → ℕ
reads [] = 0
reads (Heard bytes ∷ steps) = 1 + reads steps
reads (Failed ∷ steps) = reads steps
reads (Said bytes ∷ steps) = reads steps

-- The ends came from one state to the other by these steps, one after the other.
abbrev pub Talks : {S : Type 0} → Does S → S → List Step → S → Type 0
Talks does old [] new = old ≡ new
Talks {S} does old (step ∷ steps) new = (mid : S) × does old step mid × Talks does mid steps new

-- so many bytes are enough for a write of their own
abbrev pub FULL : ℕ
FULL = 65536

abbrev pub AreFull : List (List ℕ) → Type 0
AreFull [] = Unit {0}
AreFull (part ∷ parts) = (FULL ≤ length part) × AreFull parts

-- These bytes were written, in full parts, and nothing else was done.
abbrev pub Fills : {S : Type 0} → Does S → S → S → List ℕ → Type 0
Fills does old new bytes = (parts : List (List ℕ)) × Talks does old (map Said parts) new
    × (joined parts ≡ bytes) × AreFull parts

-- These bytes were written, in full parts and a last one, and nothing else was done.
abbrev pub Says : {S : Type 0} → Does S → S → S → List ℕ → Type 0
Says does old new bytes =
    (parts : List (List ℕ)) × (last : List ℕ) × Talks does old (map Said (parts ++ last ∷ [])) new
    × (joined (parts ++ last ∷ []) ≡ bytes) × AreFull parts

-- What is written before these steps is full, where they begin with another write.
abbrev pub IsFullBefore : List ℕ → List Step → Type 0
IsFullBefore bytes [] = Unit {0}
IsFullBefore bytes (Heard more ∷ steps) = Unit {0}
IsFullBefore bytes (Failed ∷ steps) = Unit {0}
IsFullBefore bytes (Said more ∷ steps) = FULL ≤ length bytes

-- Of two writes with no read between them the first is full.
abbrev pub AreGathered : List Step → Type 0
AreGathered [] = Unit {0}
AreGathered (Heard bytes ∷ steps) = AreGathered steps
AreGathered (Failed ∷ steps) = AreGathered steps
AreGathered (Said bytes ∷ steps) = IsFullBefore bytes steps × AreGathered steps

-- A step of a reader and a writer, of which it is known what the reader has left and what the
-- writer was given.
abbrev pub ReadsAndWrites : {R W : Type 0} → (R → Option (List ℕ)) → (W → Option (List ℕ)) → R × W →
    Step → R × W → Type 0
ReadsAndWrites remaining contents old (Heard bytes) new =
    Consumes (remaining old.0) (remaining new.0) bytes × (bytes ≡ [] → IsAtEnd (remaining new.0))
    × (new.1 ≡ old.1)
ReadsAndWrites remaining contents old Failed new = Keeps (remaining old.0) (remaining new.0)
    × (new.1 ≡ old.1)
ReadsAndWrites remaining contents old (Said bytes) new =
    Appends (contents old.1) (contents new.1) bytes × (new.0 ≡ old.0)
