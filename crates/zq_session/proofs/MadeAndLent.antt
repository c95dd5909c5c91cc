-- Sites that are made and lent, one after the other.
use Rattle.std.proofs.Common.{All, List, ap, append-nil, append_assoc, arith, refl, subst, suc, sym, take, ◌∙◌, ◌+◌, ◌++◌, ◌∷◌, ◌≡◌, ◌≤◌, ℕ, [], length}
use Rattle.std.proofs.lemmas.List.{map-append}
use Rattle.std.proofs.lemmas.List.Elements.{All-cons, All-nil}
use Rattle.std.proofs.lemmas.Slice.Zip.{all_zipped_more}
use Rattle.std.specs.List.{AllZip}
use Rattle.std.specs.Prelude.{replicate}
use Rattle.zq_dots.specs.Rule.{rule_of}
use Rattle.zq_dots.specs.declared.rule.Rule.{Rule}
use Rattle.zq_journal.specs.Limits.{limits_of}
use Rattle.zq_model.specs.Books.{Book}
use Rattle.zq_model.specs.Limits.{TailLimits}
use Rattle.zq_session.specs.LentSites.{AreOwn, IsLentBy, IsMadeBy, IsSpareOf, sites_of}
use Rattle.zq_session.specs.declared.lent_site.LentSite.{LentSite}
use Rattle.zq_session.specs.declared.made_site.MadeSite.{MadeSite}
use Rattle.zq_session.specs.declared.site_pass.SitePass.{SitePass}
use Rattle.zq_session.specs.declared.site_plan.SitePlan.{SitePlan}
use Rattle.zq_shard.proofs.SameRules.{same_rule}
use Rattle.zq_spread.specs.Makers.{AreEmptyWithin, IsMade}
use Rattle.zq_spread.specs.declared.pass.Pass.{Pass}
use Rattle.zq_spread.specs.declared.site.Site.{Site}

-- the rule of a site is that of its empty books
made_rule : (limits : TailLimits) (heaps n number : ℕ) (rule : Rule) (books : List Book) (site : Site) (passes : List Pass) → 1 ≤ heaps → AreEmptyWithin limits heaps (rule_of rule) books → IsMade number books n site passes →
    site.rule ≡ rule
made_rule limits heaps n number rule [] site passes some empty made = absurd (omega (arith, some, empty.number))
made_rule limits heaps n number rule (b ∷ books) site passes some empty made =
    same_rule site.rule rule (made.rule 0 b refl ∙ ap (λ (x : Book). x.rule) (empty.empty 0 b refl))

-- a site that was made by a plan is lent by it
pub lent_by : (plan : SitePlan) (made : MadeSite) (lent : LentSite) (passes : ℕ) → IsMadeBy plan made → lent.site.now ≡ made.site → length made.passes.items ≡ passes + 2
    → sites_of lent.passes.items ≡ replicate passes lent.site.now → IsSpareOf lent.site.now lent.spare → IsSpareOf lent.site.now lent.other → IsLentBy plan lent
lent_by plan made lent passes (books, empty, is) same count own spare other =
    let servers : passes ≡ plan.servers = omega (arith, count, is.passes_are) in record {
      number_is = ap (λ (s : Site). s.number) same ∙ is.number_is;
      heaps_are = ap (λ (s : Site). length s.slots.items) same ∙ is.heaps ∙ empty.number;
      rule_is = ap (λ (s : Site). s.rule) same ∙ made_rule (limits_of plan.tails) plan.heaps (plan.servers + 2) plan.number plan.rule books made.site made.passes.items (omega (arith, plan.in_bounds.0)) empty is;
      passes_are = own ∙ ap (λ n. replicate n lent.site.now) servers;
      spare_is = spare;
      other_is = other;
    }

-- some sites are lent, by the first of the plans, and the rest is to be
abbrev pub AreBeingLent : List MadeSite → List LentSite → List MadeSite → Type 0
AreBeingLent made lent rest = (plans : List SitePlan) → AllZip IsMadeBy plans made →
    (done : List SitePlan) × (left : List SitePlan) × (plans ≡ done ++ left) × AllZip IsLentBy done lent × AllZip IsMadeBy left rest

pub lent_first : (made : List MadeSite) → AreBeingLent made [] made
lent_first made = λ plans all. ([], plans, refl, tt, all)

lent_step : (plans done left : List SitePlan) (lent : List LentSite) (one : MadeSite) (rest : List MadeSite) (new : LentSite) → plans ≡ done ++ left → AllZip IsLentBy done lent → AllZip IsMadeBy left (one ∷ rest)
    → ((plan : SitePlan) → IsMadeBy plan one → IsLentBy plan new)
    → (more : List SitePlan) × (fewer : List SitePlan) × (plans ≡ more ++ fewer) × AllZip IsLentBy more (lent ++ new ∷ []) × AllZip IsMadeBy fewer rest
lent_step plans done [] lent one rest new e lents all f = absurd all
lent_step plans done (plan ∷ left) lent one rest new e lents all f =
    (done ++ plan ∷ [], left, e ∙ sym (append_assoc done (plan ∷ []) left), all_zipped_more IsLentBy done lent plan new lents (f plan all.0), all.1)

pub lent_next : (made : List MadeSite) (lent : List LentSite) (one : MadeSite) (rest : List MadeSite) (new : LentSite) (longer : List LentSite) → longer ≡ lent ++ new ∷ []
    → ((plan : SitePlan) → IsMadeBy plan one → IsLentBy plan new) → AreBeingLent made lent (one ∷ rest) → AreBeingLent made longer rest
lent_next made lent one rest new longer is f before = λ plans all.
    let was = before plans all in
    let step = lent_step plans was.0 was.1 lent one rest new was.2 was.3 was.4 f in
    (step.0, step.1, step.2, subst (AllZip IsLentBy step.0) (sym is) step.3, step.4)

lent_end : (plans done left : List SitePlan) (lent : List LentSite) → plans ≡ done ++ left → AllZip IsLentBy done lent → AllZip IsMadeBy left [] → AllZip IsLentBy plans lent
lent_end plans done [] lent e lents all = subst (λ p. AllZip IsLentBy p lent) (sym (e ∙ append-nil done)) lents
lent_end plans done (plan ∷ left) lent e lents all = absurd all

pub all_lent : (made : List MadeSite) (lent : List LentSite) (rest : List MadeSite) → rest ≡ [] → AreBeingLent made lent rest → (plans : List SitePlan) → AllZip IsMadeBy plans made → AllZip IsLentBy plans lent
all_lent made lent rest none before plans all =
    let was = before plans all in lent_end plans was.0 was.1 lent was.2 was.3 (subst (AllZip IsMadeBy was.1) none was.4)

-- the passes of sites that were made are their own
pub made_own : (plans : List SitePlan) (made : List MadeSite) → AllZip IsMadeBy plans made → All AreOwn made
made_own [] [] all = All-nil AreOwn
made_own [] (one ∷ made) all = absurd all
made_own (plan ∷ plans) [] all = absurd all
made_own (plan ∷ plans) (one ∷ made) all = All-cons AreOwn one made all.0.2.all.each (made_own plans made all.1)

-- one more of a list that is gone through
pub zip_more : {A B : Type 0} (R : A → B → Type 0) (xs : List A) (ys : List B) (i : ℕ) (x : A) (y : B) → take (i + 1) xs ≡ take i xs ++ x ∷ [] → AllZip R (take i xs) ys → R x y → AllZip R (take (i + 1) xs) (ys ++ y ∷ [])
zip_more R xs ys i x y is all r = subst (λ l. AllZip R l (ys ++ y ∷ [])) (sym is) (all_zipped_more R (take i xs) ys x y all r)

-- one more pass has its site, and one fewer is to have it
pub own_more : (site : Site) (own new : List SitePass) (one : SitePass) (n : ℕ) (all : List Site) → new ≡ own ++ one ∷ [] → one.site.now ≡ site → sites_of own ++ replicate (suc n) site ≡ all → sites_of new ++ replicate n site ≡ all
own_more site own new one n all is same before =
    ap (λ l. sites_of l ++ replicate n site) is
    ∙ ap (λ l. l ++ replicate n site) (map-append (λ (p : SitePass). p.site.now) own (one ∷ []))
    ∙ ap (λ s. (sites_of own ++ s ∷ []) ++ replicate n site) same
    ∙ append_assoc (sites_of own) (site ∷ []) (replicate n site) ∙ before

pub none_left : {A : Type 0} (xs : List A) → length xs ≡ 0 → xs ≡ []
none_left [] e = refl
none_left (x ∷ xs) e = absurd (omega (arith, e))
