-- What is said of all bytes that were heard of a peer.

use Rattle.std.specs.Prelude.{Err, List, None, Ok, Option, Result, Some, length, take, ℕ, ◌-◌}
use Rattle.zq_wire.specs.Reading.{answer_at, nonce_at, open_at, peer_at}
use Rattle.zq_wire.specs.Said.{Claimant, answer, claimant}
use Rattle.zq_wire.specs.Steps.{◌>>=◌}
use Rattle.zq_wire.specs.declared.met.Met.{Met}
use Rattle.zq_wire.specs.declared.opening.Opening.{Opening}
use Rattle.zq_wire.specs.declared.opening.Opening.TheVariants.{Answers, Waits, Welcome}
use Rattle.zq_wire.specs.declared.refusal.Refusal.{Refusal}
use Rattle.zq_wire.specs.declared.side.Secret.{Secret}
use Rattle.zq_wire.specs.declared.side.Side.{Side}
use Rattle.zq_wire.specs.declared.stop.Stop.{Stop}
use Rattle.zq_wire.specs.declared.stop.Stop.TheVariants.{Refused, Short}

-- the peer is welcome, with this answer, in an opening that began with `whole` bytes
abbrev pub welcome : Met → Option (List ℕ) → ℕ → List ℕ → Opening
welcome met own whole rest = Welcome met.peer met.version met.run own (whole - length rest)

-- The peer is welcome once its answer has come. Before that the answer of this site is due.
abbrev pub answered : Met → List ℕ → ℕ → Result (List ℕ) Stop → Result Opening Stop
answered met own whole (Ok rest) = Ok (welcome met (Some own) whole rest)
answered met own whole (Err Short) = Ok (Answers own)
answered met own whole (Err (Refused refusal)) = Err (Refused refusal)

-- a peer that has no secret either, in bytes of this length
abbrev pub openly : Met → ℕ → List ℕ → Result Opening Stop
openly met whole bytes = open_at bytes >>= λ rest. Ok (welcome met None whole rest)

-- what was heard before the rest
abbrev pub before : List ℕ → List ℕ → List ℕ
before heard rest = take (length heard - length rest) heard

-- what the two sites answer for: this one by its own greeting, and the peer by what was heard
abbrev pub own_part : Side → List ℕ → Secret → Claimant
own_part side said secret = claimant side.form side.site secret.nonce said

abbrev pub peer_part : Side → Met → List ℕ → List ℕ × List ℕ → Claimant
peer_part side met heard nonce = claimant side.form met.peer nonce.0 (before heard nonce.1)

-- the answers of two claimants, of whom the first is this site
abbrev pub proved : Secret → Met → Claimant → Claimant → ℕ → List ℕ → Result Opening Stop
proved secret met own peer whole rest = answered met
    (answer secret.key.now met.version own peer) whole
    (answer_at (answer secret.key.now met.version peer own) rest)

-- what follows the run
abbrev pub secret_at : Option Secret → Side → List ℕ → Met → List ℕ → List ℕ → Result Opening Stop
secret_at None side said met heard bytes = openly met (length heard) bytes
secret_at (Some secret) side said met heard bytes = nonce_at bytes >>= λ nonce.
    proved secret met (own_part side said secret) (peer_part side met heard nonce)
    (length heard) nonce.1

unfoldable pub opened_at : Side → List ℕ → List ℕ → Result Opening Stop
opened_at side said heard = peer_at side heard >>= λ met.
    secret_at side.secret side said met.0 heard met.1

-- where a greeting has not come whole, more is waited for
abbrev pub told : Result Opening Stop → Result Opening Refusal
told (Ok opening) = Ok opening
told (Err Short) = Ok Waits
told (Err (Refused refusal)) = Err refusal

-- what a side that greeted so says of what it heard
abbrev pub opening_of : Side → List ℕ → List ℕ → Result Opening Refusal
opening_of side said heard = told (opened_at side said heard)
