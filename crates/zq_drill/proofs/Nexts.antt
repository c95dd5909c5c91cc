-- One heap more.
use Rattle.std.proofs.Common.{arith, subst}
use Rattle.std.specs.Prelude.{List, suc, ℕ, ◌+◌, ◌∷◌, ◌≡◌}
use Rattle.zq_drill.specs.Listed.{AreCopied}
use Rattle.zq_drill.specs.Meetings.{AreHandedOver, IsHandedOver}
use Rattle.zq_node.specs.Calls.{Copied, IsCalled}
use Rattle.zq_shard.specs.Shard.{HeapImage}
use Rattle.zq_spread.specs.declared.pass.Pass.{Pass}
use Rattle.zq_spread.specs.declared.site.Site.{Site}

pub next : (n : ℕ) → suc n ≡ n + 1
next n = omega arith

-- is handed over after the others
pub handed_next : (sender receiver : Site) (heap : ℕ) (s t u p q r : Pass) → AreHandedOver sender receiver heap s t p q → IsHandedOver sender receiver heap t u q r → AreHandedOver sender receiver (heap + 1) s u p r
handed_next sender receiver heap s t u p q r all one = subst (λ n. AreHandedOver sender receiver n s u p r) (next heap) (t, q, all, one)

-- is copied after the others
pub copied_next : (site : Site) (heap : ℕ) (before mid after : Pass) (images : List HeapImage) (image : HeapImage) → AreCopied site before mid heap images → IsCalled site mid after (Copied heap image) → AreCopied site before after (heap + 1) (image ∷ images)
copied_next site heap before mid after images image all one = subst (λ n. AreCopied site before after n (image ∷ images)) (next heap) (mid, all, one)
