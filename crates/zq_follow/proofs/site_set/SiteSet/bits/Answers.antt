use Rattle.std.proofs.Common.{Bool, arith, below_more, false, get_or, refl, subst, sym, true, w64, ℕ, ◌==◌, ◌∙◌, ◌≡◌, ◌≢◌}
use Rattle.std.proofs.lemmas.Nat.Bits.{bit_at_set_other, bit_at_set_same}
use Rattle.std.specs.Int.{bit_at}
use Rattle.zq_dots.proofs.Counters.{sites_is}
use Rattle.zq_model.proofs.Sites.{by_site_from}
use Rattle.zq_follow.specs.SiteSet.{bit_of}
use Rattle.zq_follow.proofs.site_set.SiteSet.bits.Goals as goal
use Rattle.zq_follow.proofs.site_set.SiteSet.bits.Goals.{then-self-site, else-self-site}

-- a bit says whether the site is there
there_is : (there : Bool) (bit : ℕ) → bit ≡ bit_of there → there ≡ (bit == 1)
there_is true bit is = rw is refl
there_is false bit is = rw is refl

pub loop-site-preserved : goal.loop-site-preserved
loop-site-preserved c =
    let i = c.loop-site.site in
    let old = c.loop-site.bits in
    elim c.if-self-site.branch [
      | then-self-site w ↦ record {
        done = below_more _ _
            (λ t less. let other : t ≢ i = omega arith in rw w.bits-is (bit_at_set_other w64 old i (omega arith) t other ∙ c.loop-site.invariant.done t less))
            (rw w.bits-is (bit_at_set_same w64 old i (omega arith) ∙ subst (λ (b : Bool). 1 ≡ bit_of b) (sym w.if-self-site.true) refl));
        rest = λ t more. let other : t ≢ i = omega arith in rw w.bits-is (bit_at_set_other w64 old i (omega arith) t other ∙ c.loop-site.invariant.rest t (omega arith));
      }
      | else-self-site w ↦ record {
        done = below_more _ _
            (λ t less. rw w.bits-is (c.loop-site.invariant.done t less))
            (rw w.bits-is (c.loop-site.invariant.rest i (omega arith) ∙ subst (λ (b : Bool). 0 ≡ bit_of b) (sym w.if-self-site.false) refl));
        rest = λ t more. rw w.bits-is (c.loop-site.invariant.rest t (omega arith));
      }
    ]

pub returns-clause-back : goal.returns-clause-back
returns-clause-back c =
    rw (← c.self.view_is)
    (sym (by_site_from (λ o. bit_at c.loop-site.bits o == 1) c.self.inside.held false c.self.invariant (λ t below. there_is (get_or c.self.inside.held t false) (bit_at c.loop-site.bits t) (c.loop-site.invariant.done t (omega (arith, sites_is))))))
