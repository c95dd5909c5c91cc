-- The members of a site, as copies of its heaps have them.

use Rattle.std.specs.List.Sorted.{IsPermutation, IsSorted}
use Rattle.std.specs.Prelude.{List, [], codes, suc, zero, ℕ, ◌++◌, ◌∷◌, ◌≡◌}
use Rattle.zq_drill.specs.Limits.{heap_count}
use Rattle.zq_drill.specs.Meetings.{AreMeetings, round}
use Rattle.zq_drill.specs.SiteHandles.{Place, numbers_of}
use Rattle.zq_model.specs.Meaning.{Scored, scored_cmp}
use Rattle.zq_node.specs.Calls.{Copied, IsCalled}
use Rattle.zq_shard.specs.Shard.{HeapImage, queue_at}
use Rattle.zq_spread.specs.declared.pass.Pass.{Pass}
use Rattle.zq_spread.specs.declared.site.Site.{Site}

-- each heap below this number was copied, in rising order, and nothing else was done; the latest
-- stands first
abbrev pub AreCopied : Site → Pass → Pass → ℕ → List HeapImage → Type 0
AreCopied site before after zero images = (images ≡ []) × (after ≡ before)
AreCopied site before after (suc heap) [] = ⊥
AreCopied site before after (suc heap) (image ∷ images) = (mid : Pass)
    × AreCopied site before mid heap images × IsCalled site mid after (Copied heap image)

-- what is in the key q of these heaps
abbrev pub members_of : List HeapImage → List Scored
members_of [] = []
members_of (image ∷ images) = members_of images ++ queue_at image (codes "q")

-- the list has what copies of all heaps have in the key q, by score and then by bytes
pub record IsListed (site : Site) (before after : Pass) (list : List Scored) : Type 0 where
  pub images : List HeapImage
  pub copied : AreCopied site before after heap_count images
  pub same : IsPermutation (members_of images) list
  pub sorted : IsSorted scored_cmp list

-- each list is what was listed at its place
abbrev pub AreListed : List Place → List (List Scored) → Type 0
AreListed [] [] = Unit {0}
AreListed (place ∷ places) (list ∷ lists) = (after : Pass)
    × IsListed place.site place.pass after list × AreListed places lists
AreListed places lists = ⊥

-- three sites met twice over, and then each was listed
pub record AreOfSites (lists : List (List Scored)) : Type 0 where
  pub opened : List Place
  pub met : List Place
  pub numbers : numbers_of opened ≡ 0 ∷ 1 ∷ 2 ∷ []
  pub exchanged : AreMeetings (round ++ round) opened met
  pub listed : AreListed met lists
