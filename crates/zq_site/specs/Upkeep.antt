-- What is done of a link that is up, in its order.

use Rattle.std.specs.Prelude.{Bool, List, [], if◌then◌else◌, ◌∷◌, ◌≡◌}
use Rattle.zq_site.specs.declared.loss.Loss.{Loss}

-- The peers are told what the site has; the peer was heard until the link ended; the link is taken
-- down, which was up or was not; its end is warned of.
pub data Deed : Type 0 where
  Tells : Deed
  Hears : (loss : Loss) → Deed
  Lowers : (up : Bool) → Deed
  Warns : (loss : Loss) → Deed

-- the deeds were done, one after the other, and nothing else
abbrev pub AreDone : {U : Type 0} → (U → Deed → U → Type 0) → U → U → List Deed → Type 0
AreDone does old new [] = old ≡ new
AreDone {U} does old new (deed ∷ deeds) = (mid : U) × does old deed mid × AreDone does mid new deeds

-- the deeds of a link that ended so, and was up until then or was not
abbrev pub deeds_of : Loss → Bool → List Deed
deeds_of loss up = Tells ∷ Hears loss ∷ Lowers up ∷ (if up then Warns loss ∷ [] else [])

abbrev pub IsKeptUp : {U : Type 0} → (U → Deed → U → Type 0) → U → U → Type 0
IsKeptUp does old new = (loss : Loss) × (up : Bool) × AreDone does old new (deeds_of loss up)
