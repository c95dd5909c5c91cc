-- What happens, one after the other.

use Rattle.std.proofs.Common.{ap, inl, inr}
use Rattle.std.proofs.lemmas.Bool.{eq-eqb, ne_eqb}
use Rattle.std.specs.Prelude.{List, [], if◌then◌else◌, refl, ℕ, ◌++◌, ◌∷◌, ◌≡◌, ◌⊎◌}
use Rattle.zq_notes.specs.Sites.{Event}
use Rattle.zq_restarts.specs.Runs.{Called, Happening, State, after, notes_in, reached}

pub reached-append : (now : State) (xs ys : List Happening) → reached now (xs ++ ys) ≡ reached (reached now xs) ys
reached-append now [] ys = refl
reached-append now (x ∷ xs) ys = reached-append (after x now) xs ys

-- the last one, where there is one
pub last_of : (p : List Happening) → (p ≡ []) ⊎ ((before : List Happening) × (x : Happening) × (p ≡ before ++ x ∷ []))
last_of [] = inl refl
last_of (x ∷ p) = elim (last_of p) [
  | inl none ↦ inr ([], x, ap (λ l. x ∷ l) none)
  | inr some ↦ inr (x ∷ some.0, some.1, ap (λ l. x ∷ l) some.2)
]

pub notes_here : (s : ℕ) (e : Event) (rest : List Happening) → e.site ≡ s → notes_in s (Called e ∷ rest) ≡ e.call.note ∷ notes_in s rest
notes_here s e rest same = ap (λ b. if b then e.call.note ∷ notes_in s rest else notes_in s rest) (eq-eqb e.site s same)

pub notes_apart : (s : ℕ) (e : Event) (rest : List Happening) → (e.site ≡ s → ⊥) → notes_in s (Called e ∷ rest) ≡ notes_in s rest
notes_apart s e rest apart = ap (λ b. if b then e.call.note ∷ notes_in s rest else notes_in s rest) (ne_eqb e.site s apart)
