-- What a caller's generator gives.

use Rattle.rand_pcg.specs.Lcg.{Lcg}
use Rattle.rand_pcg.specs.Pcg.{pcg32}
use Rattle.std.specs.Prelude.{ℕ, ◌≡◌}
use Rattle.zq_drill.specs.declared.draws.Draw.{Draw}

-- the next word of the generator, and the generator after it
abbrev pub word_of : Lcg → ℕ
word_of g = (pcg32 g).0

abbrev pub after : Lcg → Lcg
after g = (pcg32 g).1

-- the draw has its next five words
pub record IsDrawn (g : Lcg) (draw : Draw) : Type 0 where
  pub verb : draw.verb ≡ word_of g
  pub amount : draw.amount ≡ word_of (after g)
  pub member : draw.member ≡ word_of (after (after g))
  pub first : draw.first ≡ word_of (after (after (after g)))
  pub second : draw.second ≡ word_of (after (after (after (after g))))

abbrev pub draws_after : Lcg → Lcg
draws_after g = after (after (after (after (after g))))
