-- What the records of a log make of the sets behind the stages.

use Rattle.std.proofs.Common.{List, [], ap, refl, subst, sym, ℕ, ◌∙◌, ◌∷◌}
use Rattle.std.proofs.lemmas.List.Elements.{All-head, All-tail}
use Rattle.zq_entries.specs.declared.entry.Entry.{Entry}
use Rattle.zq_entries.specs.declared.entry.Entry.TheVariants as variant
use Rattle.zq_links.specs.declared.piece.Piece.{Piece}
use Rattle.zq_model.specs.Operation.{Operation}
use Rattle.zq_model.specs.Sets.{IsWorld}
use Rattle.zq_recovery.proofs.Keeping.{pieces, rounds}
use Rattle.zq_recovery.specs.Behind.{AreBehind, Sets, with_entry}
use Rattle.zq_recovery.specs.Effect.{Does}
use Rattle.zq_recovery.specs.Laws.{IsOfWorld, Reads}
use Rattle.zq_recovery.specs.declared.recovery.Recovery.{Recovery}
use Rattle.zq_stage.specs.Piece.{Staged}

one_entry : (K : ℕ) (W : List Operation) (of : Piece → List Operation) (sets : Sets) (e : Entry)
    (old new : List Staged) → IsWorld K W → IsOfWorld W of e → AreBehind K W sets old →
    Does e old new → AreBehind K W (with_entry of e sets) new
one_entry K W of sets (variant.Start s) old new world here are does =
    subst (AreBehind K W sets) (sym does) are
one_entry K W of sets (variant.Round batches) old new world here are does =
    rounds K W sets batches.items old new world here are does
one_entry K W of sets (variant.Piece p) old new world here are does =
    pieces K W (of p) sets p old new world here.0 here.1 are does
one_entry K W of sets (variant.Sealed w) old new world here are does =
    subst (AreBehind K W sets) (sym does.1) are
one_entry K W of sets variant.Rest old new world here are does =
    subst (AreBehind K W sets) (sym does.1) are

pub reads : Reads
reads first last [] taken = record {
  entries = [];
  spelled = refl;
  identity = ap (λ (r : Recovery). r.identity) taken;
  behind = λ K W of sets world all are.
      subst (λ (r : Recovery). AreBehind K W sets r.stages.items) (sym taken) are;
}
reads first last (payload ∷ payloads) taken =
    let next = taken.0 in
    let step = taken.1 in
    let rest = reads next last payloads taken.2 in
    record {
      entries = step.entry ∷ rest.entries;
      spelled = λ i. step.spelled i ∷ rest.spelled i;
      identity = rest.identity ∙ step.identity;
      behind = λ K W of sets world all are.
          rest.behind K W of (with_entry of step.entry sets) world
          (All-tail (IsOfWorld W of) step.entry rest.entries all)
          (one_entry K W of sets step.entry first.stages.items next.stages.items world
          (All-head (IsOfWorld W of) step.entry rest.entries all) are step.does);
    }
