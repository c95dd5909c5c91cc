-- What reading a log again makes of its reader.

use Rattle.std.proofs.Common.{List, [], ap, ℕ, ◌∙◌, ◌∷◌, ◌≡◌}
use Rattle.zq_keeper.specs.Read.{Reads}
use Rattle.zq_keeper.specs.declared.reader.Reader.{Reader}
use Rattle.zq_wal.specs.Replay.{Replayed}

-- what takes records by a part of it takes them as the part does
pub taken_by : {R S : Type 0} (part : R → S) (takes : S → List ℕ → S → Type 0)
    (payloads : List (List ℕ)) (first last : R) →
    Replayed (λ before payload after. takes (part before) payload (part after)) first payloads last →
    Replayed takes (part first) payloads (part last)
taken_by part takes [] first last is = ap part is
taken_by part takes (payload ∷ payloads) first last is =
    (part is.0, is.1, taken_by part takes payloads is.0 last is.2)

-- a reader reads the log of one site
pub same_site : (payloads : List (List ℕ)) (first last : Reader) → Replayed Reads first payloads last →
    last.recovery.identity ≡ first.recovery.identity
same_site [] first last is = ap (λ (r : Reader). r.recovery.identity) is
same_site (payload ∷ payloads) first last is =
    same_site payloads is.0 last is.2 ∙ is.1.identity
