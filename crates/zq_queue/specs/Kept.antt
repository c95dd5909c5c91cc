-- What the members of a key are seen as, whatever their form.

use Rattle.std.specs.Coded.{Coded, code_by, coded×, coded_bool, coded_list, coded_ℕ}
use Rattle.std.specs.FinMap.{get}
use Rattle.std.specs.Prelude.{Bool, List, Some, length, refl, slice_get, ℕ, ◌<◌, ◌≡◌}
use Rattle.zq_model.specs.Image.{Entry}
use Rattle.zq_model.specs.Rule.{Rule}
use Rattle.zq_queue.specs.Codes.{entries_code, rule_code}
use Rattle.zq_queue.specs.Entries.{Entries}
use Rattle.zq_queue.specs.Place.{index_of, is_many}
use Rattle.zq_queue.specs.declared.place.Place.{Place}

pub record Kept : Type 0 where
  pub rule : Rule
  -- the entry of each member
  pub entries : Entries
  -- the members by their places
  pub places : List (List ℕ)
  -- whether they have the large form, by which places go
  pub many : Bool

abbrev pub kept_code : Coded Kept
kept_code = code_by (Rule × (Entries × (List (List ℕ) × Bool)))
    (coded× rule_code (coded× entries_code (coded× (coded_list (coded_list coded_ℕ)) coded_bool)))
    (λ k. (k.rule, (k.entries, (k.places, k.many))))
    (λ p. record { rule = p.0; entries = p.1.0; places = p.1.1.0; many = p.1.1.1 }) (λ _. refl)

-- there is a member at the place
pub record IsWithin (kept : Kept) (place : Place) : Type 0 where
  pub form : is_many place ≡ kept.many
  pub within : index_of place < length kept.places

-- the place is the member's
abbrev pub IsAt : Kept → List ℕ → Place → Type 0
IsAt kept member place = slice_get kept.places (index_of place) ≡ Some member

-- the same members with the same entries at the same places, in another form perhaps
pub record AreSame (old new : Kept) : Type 0 where
  pub rule : new.rule ≡ old.rule
  pub entries : new.entries ≡ old.entries
  pub places : new.places ≡ old.places

-- each member has a place
abbrev pub AreThere : Kept → Type 0
AreThere kept = (member : List ℕ) (entry : Entry) → get kept.entries member ≡ Some entry →
    (i : ℕ) × (slice_get kept.places i ≡ Some member)
