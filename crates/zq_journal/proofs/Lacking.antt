-- What a peer of the vector v lacks of a book's records, record by record: those from the place i on, which come over the vector seen.

use Rattle.std.proofs.Common.{Bool, List, [], ap, arith, drop, drop-cons, false, get_or, length, refl, slice_set, subst, suc, sym, true, ℕ, ◌+◌, ◌++◌, ◌<◌, ◌∙◌, ◌∷◌, ◌≡◌}
use Rattle.std.proofs.lemmas.List.Elements.{All-head, All-tail}
use Rattle.std.specs.List.{All}
use Rattle.std.specs.Prelude.{cond, not}
use Rattle.zq_dots.specs.Placed.{Placed}
use Rattle.zq_journal.specs.Records.{IsRecord, IsRecordable, Record, full_of, missing_of, placed_in, records_over, vector_past}
use Rattle.zq_journal.specs.declared.records.Record as code
use Rattle.zq_model.specs.Operation.{has}

-- an element that is kept or not, before the others
before_others : (lacked : Bool) (p : Placed) (others : List Placed) → cond lacked (p ∷ others) others ≡ cond lacked (p ∷ []) [] ++ others
before_others true p others = refl
before_others false p others = refl

module _ (h K : ℕ) (v seen : List ℕ) (tail : List code.Record) (i : ℕ) (r : code.Record) (below : i < length tail) (is : r ≡ get_or tail i r) where
  abbrev here : Record
  here = full_of h K seen r

  abbrev placed : Placed
  placed = placed_in here.what

  -- the others come over the vector after it
  abbrev others : List Record
  others = records_over h K (vector_past seen here.what) (drop (i + 1) tail)

  first_is : records_over h K seen (drop i tail) ≡ here ∷ others
  first_is =
      let more : suc i ≡ i + 1 = omega arith in
      ap (records_over h K seen) (drop-cons tail i r below ∙ ap (λ k. get_or tail i r ∷ drop k tail) more ∙ ap (λ x. x ∷ drop (i + 1) tail) (sym is))

  each_here : All (IsRecord h K) (records_over h K seen (drop i tail)) → All (IsRecord h K) (here ∷ others)
  each_here each = subst (All (IsRecord h K)) first_is each

  pub own_at : All (IsRecord h K) (records_over h K seen (drop i tail)) → IsRecordable h K placed
  own_at each = let own : IsRecord h K here = All-head (IsRecord h K) here others (each_here each) in own.op

  module _ (site n : ℕ) (after : List ℕ) (site_is : site ≡ placed.operation.site) (n_is : n ≡ placed.operation.n) (set : after ≡ slice_set seen site n) where
    others_are : others ≡ records_over h K after (drop (i + 1) tail)
    others_are = ap (λ w. records_over h K w (drop (i + 1) tail)) (sym (set ∙ ap (λ s. slice_set seen s n) site_is ∙ ap (slice_set seen placed.operation.site) n_is))

    pub each_after : All (IsRecord h K) (records_over h K seen (drop i tail)) → All (IsRecord h K) (records_over h K after (drop (i + 1) tail))
    each_after each = subst (All (IsRecord h K)) others_are (All-tail (IsRecord h K) here others (each_here each))

    -- it is lacked or not, and then come the others
    pub missing_after : (lacked : Bool) → lacked ≡ not (has v placed.operation.site placed.operation.n) →
        missing_of v (records_over h K seen (drop i tail)) ≡ cond lacked (placed ∷ []) [] ++ missing_of v (records_over h K after (drop (i + 1) tail))
    missing_after lacked e =
        ap (missing_of v) first_is
        ∙ ap (λ b. cond b (placed ∷ missing_of v others) (missing_of v others)) (sym e)
        ∙ before_others lacked placed (missing_of v others)
        ∙ ap (λ rs. cond lacked (placed ∷ []) [] ++ missing_of v rs) others_are
