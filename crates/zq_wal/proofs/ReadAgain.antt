-- What is read of records.

use Rattle.std.proofs.Common.{◌≡◌, ◌≤◌, ℕ, zero, suc, List, [], ◌∷◌, ◌++◌, length, take, refl, ◌∙◌, ap, arith}
use Rattle.zq_wal.specs.Laws.{HasOneSpelling, SyncedIsRead}
use Rattle.zq_wal.proofs.Chunks.{decoded_is}

pub has_one_spelling : HasOneSpelling
has_one_spelling chunk payload is = ap (λ (l : List ℕ). l ++ 255 ∷ []) (decoded_is chunk payload is)

take_synced : (synced more : List (List ℕ)) (at : ℕ) → length synced ≤ at → take (length synced) (take at (synced ++ more)) ≡ synced
take_synced [] more at least = refl
take_synced (payload ∷ synced) more zero least = absurd (omega arith)
take_synced (payload ∷ synced) more (suc at) least = ap (λ (l : List (List ℕ)). payload ∷ l) (take_synced synced more at (omega arith))

pub synced_is_read : SyncedIsRead
synced_is_read synced more c keeps = ap (take (length synced)) keeps.read ∙ take_synced synced more keeps.at keeps.least
