-- One record more that is taken again.

use Rattle.std.proofs.Common.{ℕ, List, [], ◌∷◌, ◌++◌, refl, subst}
use Rattle.std.specs.Prelude.{Err, Ok, OnOk, Result}
use Rattle.zq_wal.specs.Replay.{Replayed}

pub replayed_push : {R : Type 0} (replays : R → List ℕ → R → Type 0) (first mid last : R) (payloads : List (List ℕ)) (payload : List ℕ) →
    Replayed replays first payloads mid → replays mid payload last → Replayed replays first (payloads ++ payload ∷ []) last
replayed_push replays first mid last [] payload so_far step = (last, subst (λ r. replays r payload last) so_far step, refl)
replayed_push replays first mid last (p ∷ payloads) payload so_far step = (so_far.0, so_far.1, replayed_push replays so_far.0 mid last payloads payload so_far.2 step)

-- what holds in any case holds after Ok
pub on_ok : {T E : Type 0} {P : Type 0} (result : Result T E) → P → OnOk result P
on_ok (Ok value) holds = holds
on_ok (Err error) holds = tt
