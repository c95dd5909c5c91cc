-- Procedures that ran one after the other: what they come to over queues.

use Rattle.std.proofs.Common.{None, Option, Some, [], ap, ap₂, arith, inl, inr, subst, suc, sym, zero, ◌∙◌}
use Rattle.std.proofs.lemmas.Option.{slice_get_within}
use Rattle.std.specs.Prelude.{List, length, refl, slice_get, take, ℕ, ◌++◌, ◌<◌, ◌∷◌, ◌≡◌, ◌≤◌, ◌⊎◌}
use Rattle.zq_model.specs.Books.{Book}
use Rattle.zq_model.specs.Rule.{Rule}
use Rattle.zq_model.specs.Lent.{books_after, made, queues_of}
use Rattle.zq_model.specs.Moves.{Move, Queues}
use Rattle.zq_model.specs.Operation.{Operation}
use Rattle.zq_notes.specs.Readings.{AreAnswersOver, AreRunsOf, IsCutAt, IsProcedureOver, all_of, part_of, with_moves}
use Rattle.zq_semantics.specs.Procedures.{AreReading, IsReading, Procedure, RunsAll, RunsProcedure, answered_over}
use Rattle.zq_semantics.specs.Reading.{heaps_in, queues_over}
use Rattle.zq_semantics.specs.Replies.{bytes_of}
use Rattle.zq_semantics.specs.Run.{ForCopies, ForMoves, ForReply, IsWhy, IsWhyOf, MayLack, Memory, Number, Takes, Want, part, whole}
use Rattle.zq_words.specs.Words.{Word}

-- where there is a next move
there_is : (k : ℕ) (moves : List Move) (P : Option Move → Type 0) → (P None → ⊥) → P (slice_get moves k) → k < length moves
there_is k moves P none is =
    elim (slice_get moves k) as (λ o. slice_get moves k ≡ o → P o → k < length moves) [
      | Some move ↦ λ at _. slice_get_within moves k move at
      | None ↦ λ _ why. absurd (none why)
    ] refl is

-- where a run was cut
pub cut_at : (takes : Takes) (site k : ℕ) (moves : List Move) (books : List Book) (want : Want) → k ≤ length moves → IsWhyOf takes site (slice_get moves k) books want →
    IsCutAt want takes k (length moves)
cut_at takes site k moves books Number few why = there_is k moves (λ o. IsWhy site o books Number) (λ none. none) why
cut_at (ForReply is_long counted) site k moves books Memory few why = (few, why)
cut_at ForMoves site k moves books Memory few why = there_is k moves (λ o. MayLack ForMoves site o books) (λ none. none) why
cut_at ForCopies site k moves books Memory few why = there_is k moves (λ o. MayLack ForCopies site o books) (λ none. none) why

-- what the run of a procedure comes to
procedure_over : (rule : Rule) (site stamp : ℕ) (p : Procedure) (old new : List Book) (reply : Word) → RunsProcedure rule site stamp p old new reply →
    (moves : List Move) × IsProcedureOver (queues_of rule old) p moves reply × (new ≡ books_after site stamp moves old)
procedure_over rule site stamp p old new reply (whole books says) = ((p.plan (queues_of rule old)).moves, all_of refl says, books)
procedure_over rule site stamp p old new reply (part k want few books why says) =
    let plan = p.plan (queues_of rule old) in
    (take k plan.moves, part_of k want (cut_at (p.takes (queues_of rule old)) site k plan.moves new want few why) refl says, books)

books-append : (site stamp : ℕ) (xs ys : List Move) (books : List Book) → books_after site stamp (xs ++ ys) books ≡ books_after site stamp ys (books_after site stamp xs books)
books-append site stamp [] ys books = refl
books-append site stamp (x ∷ xs) ys books = books-append site stamp xs ys (made site stamp x books)

-- procedures, each over the books that those before it left
abbrev pub AreRunsFrom : Rule → ℕ → ℕ → List Procedure → List Book → List Move → List Word → Type 0
AreRunsFrom rule site stamp [] old moves [] = moves ≡ []
AreRunsFrom rule site stamp (p ∷ ps) old moves (reply ∷ replies) = (first : List Move) × (later : List Move) × (moves ≡ first ++ later)
    × IsProcedureOver (queues_of rule old) p first reply × AreRunsFrom rule site stamp ps (books_after site stamp first old) later replies
AreRunsFrom rule site stamp ps old moves replies = ⊥

pub each_from : (rule : Rule) (site stamp : ℕ) (ps : List Procedure) (old new : List Book) (replies : List Word) → RunsAll rule site stamp ps old new replies →
    (moves : List Move) × AreRunsFrom rule site stamp ps old moves replies × (new ≡ books_after site stamp moves old)
each_from rule site stamp [] old new [] ran = ([], refl, ran)
each_from rule site stamp [] old new (reply ∷ replies) ran = absurd ran
each_from rule site stamp (p ∷ ps) old new [] ran = absurd ran
each_from rule site stamp (p ∷ ps) old new (reply ∷ replies) ran =
    let first = procedure_over rule site stamp p old ran.0 reply ran.1 in
    let later = each_from rule site stamp ps ran.0 new replies ran.2 in (
      first.0 ++ later.0,
      (first.0, later.0, refl, first.1, subst (λ (bs : List Book). AreRunsFrom rule site stamp ps bs later.0 replies) first.2 later.1),
      later.2 ∙ ap (books_after site stamp later.0) first.2 ∙ sym (books-append site stamp first.0 later.0 old),
    )

-- ---- procedures that only read

-- where nothing is planned, a cut comes at once, and for want of memory
cut_at_once : (want : Want) (takes : Takes) (k moves : ℕ) → moves ≡ 0 → IsCutAt want takes k moves → (k ≡ 0) × (want ≡ Memory)
cut_at_once Number takes k moves none few = absurd (omega (arith, none, few))
cut_at_once Memory (ForReply is_long counted) k moves none few = let most = few.0 in (omega (arith, none, most), refl)
cut_at_once Memory ForMoves k moves none few = absurd (omega (arith, none, few))
cut_at_once Memory ForCopies k moves none few = absurd (omega (arith, none, few))

none_taken : (moves : List Move) (k : ℕ) → moves ≡ [] → take k moves ≡ []
none_taken [] zero e = refl
none_taken [] (suc k) e = refl
none_taken (move ∷ moves) k e = absurd (cc)

reads_one : (queues : Queues) (p : Procedure) (moves : List Move) (reply : Word) → IsReading p → IsProcedureOver queues p moves reply →
    (moves ≡ []) × ((reply ≡ answered_over queues p) ⊎ (reply ≡ bytes_of (p.cut queues 0 Memory)))
reads_one queues p moves reply reads (all_of are says) = (are ∙ reads queues, inl says)
reads_one queues p moves reply reads (part_of k want few are says) =
    let at = cut_at_once want (p.takes queues) k (length (p.plan queues).moves) (ap length (reads queues)) few in
    (are ∙ none_taken (p.plan queues).moves k (reads queues), inr (says ∙ ap₂ (λ n w. bytes_of (p.cut queues n w)) at.0 at.1))

module _ (rule : Rule) (K site : ℕ) (S : List Operation) where
  abbrev queues : Queues
  queues = queues_over rule S (heaps_in K)

  pub reads_each : (ps : List Procedure) (moves : List Move) (replies : List Word) → AreReading ps → AreRunsOf rule K site S ps moves replies → (moves ≡ []) × AreAnswersOver queues ps replies
  reads_each [] moves [] reads are = (are, tt)
  reads_each [] moves (reply ∷ replies) reads are = absurd are
  reads_each (p ∷ ps) moves [] reads are = absurd are
  reads_each (p ∷ ps) moves (reply ∷ replies) reads are =
      let later : List Move = are.1 in
      let first = reads_one queues p are.0 reply reads.0 are.3 in
      let rest = reads_each ps later replies reads.1 (subst (λ l. AreRunsOf rule K site (with_moves K site l S) ps later replies) first.0 are.4) in
      (are.2 ∙ ap (λ (l : List Move). l ++ later) first.0 ∙ rest.0, (first.1, rest.1))
