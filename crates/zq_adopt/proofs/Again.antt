-- What is read again of a log that was made.

use Rattle.std.proofs.Common.{List, None, Option, Some, ap, arith, inl, inr, length, refl, subst, sym, ℕ, ◌<◌, ◌∙◌, ◌≡◌}
use Rattle.std.proofs.lemmas.Option.{same_Some, slice_get-map, slice_get_cases, slice_get_within}
use Rattle.std.specs.Prelude.{option_map, slice_get, slice_index}
use Rattle.zq_adopt.specs.Laws.{HasMadeNothing, IsReadAgain}
use Rattle.zq_keeper.proofs.Reading.{says_that}
use Rattle.zq_keeper.specs.Outline.{outline_of}
use Rattle.zq_keeper.specs.declared.outline.Outline.{Outline}
use Rattle.zq_stage.specs.Piece.{Staged}

-- the heap of which an outline is
of_outline : (found : Option Staged) (x : Outline) → option_map outline_of found ≡ Some x →
    (s : Staged) × (found ≡ Some s) × (s.held.image.vector ≡ x.vector)
of_outline None x is = absurd (cc)
of_outline (Some s) x is =
    (s, refl, ap (λ (y : Outline). y.vector) (same_Some (outline_of s) x is))

pub is_read_again : IsReadAgain
is_read_again payloads start outlines stages last read alike has h t there =
    let found = alike h t there in
    let says = says_that payloads start outlines last read has in
    let its = of_outline (slice_get last.recovery.stages.items h) found.0
    (sym (slice_get-map outline_of last.recovery.stages.items h)
    ∙ (ap (λ l. slice_get l h) says.outlines ∙ found.1)) in
    (its.0, its.1, its.2 ∙ found.2)

-- a heap at each place
held_at : (stages : List Staged) (h : ℕ) → h < length stages →
    (t : Staged) × (slice_get stages h ≡ Some t)
held_at stages h below = elim (slice_get_cases stages h).1 [
  | inl there ↦ (there.0, there.2)
  | inr past ↦ absurd (omega (arith, below, past.0))
]

pub has_made_nothing : HasMadeNothing
has_made_nothing site stages outlines foreign alike number h x there =
    let held = held_at stages h
    (subst (λ n. h < n) number (slice_get_within outlines h x there)) in
    let found = alike h held.0 held.1 in
    let same : found.0 ≡ x = same_Some found.0 x (sym found.1 ∙ there) in
    ap (λ (y : Outline). slice_index y.vector site) (sym same)
    ∙ (ap (λ v. slice_index v site) found.2 ∙ foreign h held.0 held.1)
