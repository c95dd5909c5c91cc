-- Whether a member stood, by its entry and by its score.

use Rattle.std.proofs.Common.{List, None, Some, [], ap, refl, sym, ℕ, ◌∙◌, ◌∷◌, ◌≡◌}
use Rattle.std.specs.FinMap.{get}
use Rattle.std.specs.Prelude.{Bool, is_some, not, slice_get, unwrap_or}
use Rattle.zq_commands.specs.Lending.{IsHomeAt, IsLending, Lending, queues_in}
use Rattle.zq_model.specs.Books.{Book}
use Rattle.zq_model.proofs.Entries.{is_bare-no_additions}
use Rattle.zq_model.specs.Image.{Entry, Members, Place, entry_at, is_bare, no_additions}
use Rattle.zq_model.specs.Rows.{AreEntries}
use Rattle.zq_model.specs.Rule.{Rule}
use Rattle.zq_model.specs.Score.{score_of}
use Rattle.zq_model.proofs.Homes.{lent_each}
use Rattle.zq_model.proofs.Read.{in_place, read_score}
use Rattle.zq_model.specs.Moves.{score_in}
use Rattle.zq_posheap.proofs.Lists.{there_is}

-- an entry has a score where it is not bare
scored : (rule : Rule) (e : Entry) → is_some (score_of rule e) ≡ not (is_bare e)
scored rule [] = refl
scored rule (None ∷ e) = scored rule e
scored rule (Some a ∷ e) = refl

-- a member has an entry where it has a score
entry_scored : (rule : Rule) (members : Members) (q : Place) → AreEntries members → is_some (get members q) ≡ is_some (score_of rule (entry_at members q))
entry_scored rule members q are = elim (get members q) as (λ r. get members q ≡ r → is_some r ≡ is_some (score_of rule (unwrap_or r no_additions))) [
  | None ↦ λ _. rw (scored rule no_additions, is_bare-no_additions) refl
  | Some e ↦ λ is. rw (scored rule e, (are q.0 q.1 e is).1) refl
] refl

-- so a member that has an entry in the book of its heap is in the queue of its key
pub stood_in : (lent : Lending) (key m : List ℕ) (place : ℕ) (stood : Bool) → IsLending lent → IsHomeAt key m place lent →
    ((book : Book) → slice_get lent.books place ≡ Some book → stood ≡ is_some (get book.state.members (key, m))) →
    stood ≡ is_some (score_in (queues_in lent key) m)
stood_in lent key m place stood are at is =
    let book = there_is lent.books place at.inside in
    let here = in_place lent.books place book.0 book.1 in
    is book.0 book.1
    ∙ entry_scored lent.rule book.0.state.members (key, m) (lent_each lent.heaps lent.books book.0 are.books here).bounded.entries
    ∙ ap (λ r. is_some r) (sym (read_score lent.rule lent.heaps lent.books key m book.0 are.books here (at.home book.0 book.1)))
