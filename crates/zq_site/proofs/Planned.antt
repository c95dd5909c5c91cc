-- The site of settings, which was lent by its plan.
use Rattle.std.proofs.Common.{ap, arith, refl, subst, sym, ◌∙◌}
use Rattle.std.proofs.lemmas.Slice.Zip.{AllZip-long}
use Rattle.std.specs.List.{AllZip}
use Rattle.std.specs.Prelude.{List, Some, [], length, replicate, slice_index_or, ℕ, ◌∷◌, ◌≡◌}
use Rattle.zq_journal.specs.Limits.{limits_of}
use Rattle.zq_model.specs.Limits.{standard}
use Rattle.zq_serve.specs.Plans.{IsManned}
use Rattle.zq_session.specs.LentSites.{IsLentBy}
use Rattle.zq_session.specs.declared.lent_site.LentSite.{LentSite}
use Rattle.zq_session.specs.declared.site_plan.SitePlan.{SitePlan}
use Rattle.zq_settings.specs.declared.values.SiteSettings.{SiteSettings}
use Rattle.zq_site.specs.Site.{IsPlanOf}

-- the first site has a pass for each worker, and one to spare
pub manned_site : (settings : SiteSettings) (workers : ℕ) (plans : List SitePlan) (sites : List LentSite) (site : LentSite) → IsPlanOf settings workers plans → AllZip IsLentBy plans sites → site ≡ slice_index_or sites 0 site → IsManned workers site
manned_site settings workers [] sites site are lent is = absurd (omega (arith, are.one))
manned_site settings workers (plan ∷ plans) [] site are lent is = absurd lent
manned_site settings workers (plan ∷ plans) (one ∷ sites) site are lent is =
    subst (IsManned workers) (sym is) (record { passes_are = lent.0.passes_are ∙ ap (λ n. replicate n one.site.now) (are.servers plan refl); spare_is = lent.0.spare_is })

-- there is one site
pub one_site : (settings : SiteSettings) (workers : ℕ) (plans : List SitePlan) (sites : List LentSite) → IsPlanOf settings workers plans → AllZip IsLentBy plans sites → length sites ≡ 1
one_site settings workers plans sites are lent = omega (arith, AllZip-long IsLentBy plans sites lent, are.one)

-- this is the one plan of the site of settings
pub one_plan : (settings : SiteSettings) (workers : ℕ) (plan : SitePlan) → plan.number ≡ settings.site → plan.heaps ≡ settings.heaps → plan.rule ≡ settings.rule → plan.servers ≡ workers → limits_of plan.tails ≡ record standard { bytes = Some 1048576 } → IsPlanOf settings workers (plan ∷ [])
one_plan settings workers plan number heaps rule servers tails = record {
  one = refl;
  number = λ p is. (let same : plan ≡ p = cc is in subst (λ (q : SitePlan). q.number ≡ settings.site) same number);
  heaps = λ p is. (let same : plan ≡ p = cc is in subst (λ (q : SitePlan). q.heaps ≡ settings.heaps) same heaps);
  rule = λ p is. (let same : plan ≡ p = cc is in subst (λ (q : SitePlan). q.rule ≡ settings.rule) same rule);
  servers = λ p is. (let same : plan ≡ p = cc is in subst (λ (q : SitePlan). q.servers ≡ workers) same servers);
  tails = λ p is. (let same : plan ≡ p = cc is in subst (λ (q : SitePlan). limits_of q.tails ≡ record standard { bytes = Some 1048576 }) same tails);
}
