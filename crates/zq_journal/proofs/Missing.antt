-- What of a book's records a peer lacks.

use Rattle.std.proofs.Common.{List, [], map, refl, ℕ, Bool, true, false, ◌∷◌, ◌≡◌, ap, arith, length, suc, ◌≤◌}
use Rattle.std.specs.List.{All}
use Rattle.std.specs.Prelude.{cond, not}
use Rattle.std.proofs.lemmas.List.Elements.{All-head, All-tail}
use Rattle.zq_dots.specs.Placed.{Placed}
use Rattle.zq_model.specs.Books.{operation_of, operations_of}
use Rattle.zq_journal.specs.Records.{Change, IsRecord, Made, Record, Took, change_of, missing_of, placed_at, placed_in, written_in}
use Rattle.zq_model.specs.Operation.{Operation, has}
use Rattle.zq_model.specs.Tail.{lacking}

pub operation_is : (c : Change) → operation_of (change_of c) ≡ (placed_in c).operation
operation_is (Made op) = refl
operation_is (Took op) = refl

pub operations-placed : (heaps : ℕ) (ops : List Operation) → map (λ p. p.operation) (map (placed_at heaps) ops) ≡ ops
operations-placed heaps [] = refl
operations-placed heaps (o ∷ ops) = ap (λ rest. o ∷ rest) (operations-placed heaps ops)

pub placed_is : (h K : ℕ) (r : Record) → IsRecord h K r → placed_in r.what ≡ placed_at K (operation_of (change_of r.what))
placed_is h K r is = rw (operation_is r.what) (ap (λ heaps. record { heaps = heaps; operation = (placed_in r.what).operation }) is.op.heaps)

-- a list with p at its front where b says so
if_kept : (b : Bool) (heaps : ℕ) (o : Operation) (ps : List Placed) (os : List Operation) → ps ≡ map (placed_at heaps) os →
    cond b (placed_at heaps o ∷ ps) ps ≡ map (placed_at heaps) (cond b (o ∷ os) os)
if_kept true heaps o ps os e = ap (λ rest. placed_at heaps o ∷ rest) e
if_kept false heaps o ps os e = e

-- they are the operations of the tail that the vector lacks, of the book's number of heaps
pub missing_is : (h K : ℕ) (v : List ℕ) (records : List Record) → All (IsRecord h K) records →
    missing_of v records ≡ map (placed_at K) (lacking v (operations_of (written_in records)))
missing_is h K v [] all = refl
missing_is h K v (r ∷ records) all =
    let rest = missing_is h K v records (All-tail (IsRecord h K) r records all) in
    let o : Operation = operation_of (change_of r.what) in
    rw (placed_is h K r (All-head (IsRecord h K) r records all))
    (if_kept (not (has v o.site o.n)) K o (missing_of v records) (lacking v (operations_of (written_in records))) rest)

-- no more are lacked than there are
pub length-lacking : (v : List ℕ) (ops : List Operation) → length (lacking v ops) ≤ length ops
length-lacking v [] = omega arith
length-lacking v (o ∷ ops) = elim (not (has v o.site o.n)) as (λ b. length (cond b (o ∷ lacking v ops) (lacking v ops)) ≤ suc (length ops)) [
  | true ↦ omega (arith, length-lacking v ops)
  | false ↦ omega (arith, length-lacking v ops)
]
