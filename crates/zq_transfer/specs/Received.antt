-- The fields of a receiving end, in the model.

use Rattle.std.specs.Coded.{Coded, code_by, coded×, coded_ℕ}
use Rattle.std.specs.Prelude.{refl, ℕ, ◌≤◌}
use Rattle.zq_stage.specs.Piece.{Staged, staged_code}
use Rattle.zq_transfer.specs.Transfer.{Received}
use Rattle.zq_transfer.specs.declared.receiving.Receiving.TheInside.{Inside}

abbrev pub received_code : Coded Received
received_code =
    code_by (Staged × (ℕ × ℕ)) (coded× staged_code (coded× coded_ℕ coded_ℕ))
    (λ r. (r.staged, (r.spot.key, r.spot.member)))
    (λ p. record { staged = p.0; spot = record { key = p.1.0; member = p.1.1 } }) (λ _. refl)

abbrev pub received_of : Inside → Received
received_of r = record { staged = r.stage; spot = r.spot }

-- a piece came
abbrev pub IsReceiving : Inside → Type 0
IsReceiving r = 1 ≤ r.stage.next
