-- How a log begins.

use Rattle.std.specs.Prelude.{IfSome, List, Option, Some, slice_get, true, ℕ, ◌<◌, ◌≡◌}
use Rattle.zq_dots.specs.Rule.{rule_of}
use Rattle.zq_entries.specs.declared.start.Start.{Start}
use Rattle.zq_model.specs.Image.{empty_image}
use Rattle.zq_recovery.specs.declared.opening.Identity.{Identity}
use Rattle.zq_stage.specs.Piece.{Staged}

-- it is of the site that the settings say
pub record IsOf (i : Identity) (s : Start) : Type 0 where
  pub site : s.site ≡ i.site
  pub heaps : s.heaps ≡ i.heaps
  pub rule : s.rule ≡ i.rule

-- it comes after another of the same folder
pub record IsAfter (before s : Start) : Type 0 where
  pub folder : s.folder ≡ before.folder
  pub number : before.number < s.number

-- it is the first one, or comes after the one before
pub record IsNextStart (i : Identity) (old : Option Start) (s : Start) : Type 0 where
  pub of : IsOf i s
  pub after : IfSome old (λ before. IsAfter before s)

-- the stage of a heap in which nothing was done
abbrev pub empty_stage : Identity → ℕ → Staged
empty_stage i heap = record {
  held = record { heap = heap; heaps = i.heaps; rule = rule_of i.rule; image = empty_image };
  life = 0;
  next = 1;
  whole = true;
}

abbrev pub AreEmpty : Identity → List Staged → Type 0
AreEmpty i stages = (h : ℕ) (t : Staged) → slice_get stages h ≡ Some t → t ≡ empty_stage i h
