-- What a call does that drains a book.

use Rattle.std.proofs.Common.{inl, inr, refl, subst, sym}
use Rattle.std.specs.Prelude.{Err, List, Ok, [], ℕ, ◌+◌, ◌++◌, ◌-◌, ◌∷◌, ◌≡◌, ◌≢◌, ◌⊎◌}
use Rattle.zq_model.specs.Books.{Book, HandedOn, Step}
use Rattle.zq_model.specs.Reach.{IsWorked}
use Rattle.zq_journal.specs.Books.{LAST_STAMP}
use Rattle.zq_journal.specs.declared.since.Since.{Since}
use Rattle.zq_journal.specs.declared.since.Since.TheVariants.{Ops, TooOld}
use Rattle.zq_spread.specs.Answers.{AreHandings, HasWorked, IsDrained, IsFirstSince, IsHandedOn, KnowsHanded, unhanded_of}
use Rattle.zq_spread.specs.declared.faults.ReadFault.TheVariants.{NoMemory}

-- a book was told what was handed on,
pub told_so : (b new a : Book) (stamp newest : ℕ) → ((x : Book) (steps : List Step) → IsWorked b x stamp steps → IsWorked new x stamp (steps ++ HandedOn stamp (b.count + 1 - newest) ∷ [])) →
    (KnowsHanded newest b → ⊥) → b.count ≢ LAST_STAMP → IsWorked b a stamp [] → IsHandedOn stamp newest b new a
told_so b new a stamp newest worked unknown more begun =
    (HandedOn stamp (b.count + 1 - newest) ∷ [], worked a [] begun, inr (refl, unknown, more))

-- or it knew, or counts no further
pub left_untold : (b new a : Book) (stamp newest : ℕ) → new ≡ b → KnowsHanded newest b ⊎ (b.count ≡ LAST_STAMP) → IsWorked b a stamp [] → IsHandedOn stamp newest b new a
left_untold b new a stamp newest same why begun = ([], subst (λ (x : Book). IsWorked x a stamp []) (sym same) begun, inl (refl, why))

-- the book was told so after these were given to a log, or nothing where the log is too old
abbrev pub IsToldAfter : ℕ → List ℕ → Since → Book → Book → Book → Type 0
IsToldAfter stamp v (Ops ops) b new a = IsHandedOn stamp (unhanded_of v b) b new a
IsToldAfter stamp v TooOld b new a = new ≡ b

-- what the log was given is of the book with which the call begins
pub drained_by : (v : List ℕ) (most stamp : ℕ) (since : Since) (b new a : Book) → IsFirstSince v most since b → IsToldAfter stamp v since b new a → IsWorked b a stamp [] →
    HasWorked (IsDrained stamp v most (Ok since)) new a stamp
drained_by v most stamp (Ops ops) b new a first told begun =
    (told.0, told.1, (subst (IsFirstSince v most (Ops ops)) begun.is first, subst (λ (x : Book). AreHandings stamp (unhanded_of v x) x told.0) begun.is told.2))
drained_by v most stamp TooOld b new a first same begun =
    ([], subst (λ (x : Book). IsWorked x a stamp []) (sym same) begun, (subst (IsFirstSince v most TooOld) begun.is first, refl))

-- a growth was refused
pub drained_refused : (v : List ℕ) (most stamp : ℕ) (b new a : Book) → new ≡ b → IsWorked b a stamp [] → HasWorked (IsDrained stamp v most (Err NoMemory)) new a stamp
drained_refused v most stamp b new a same begun = ([], subst (λ (x : Book). IsWorked x a stamp []) (sym same) begun, (tt, refl))
