use Rattle.std.proofs.Common.{refl, subst, sym, ◌≡◌}
use Rattle.std.specs.Fmt.{digits}
use Rattle.std.specs.Prelude.{codes}
use Rattle.zq_serve.proofs.loading.units.Goals as goal
use Rattle.zq_serve.specs.Admission.{loading_of}

pub returns-in-0-clause-text : goal.returns-in-0-clause-text
unfolding digits
returns-in-0-clause-text c = subst (λ site. codes "LOADING site 0 waits for its peers" ≡ loading_of site) (sym c.in-0.is) refl

pub returns-in-1-clause-text : goal.returns-in-1-clause-text
unfolding digits
returns-in-1-clause-text c = subst (λ site. codes "LOADING site 1 waits for its peers" ≡ loading_of site) (sym c.in-1.is) refl

pub returns-in-2-clause-text : goal.returns-in-2-clause-text
unfolding digits
returns-in-2-clause-text c = subst (λ site. codes "LOADING site 2 waits for its peers" ≡ loading_of site) (sym c.in-2.is) refl

pub returns-in-3-clause-text : goal.returns-in-3-clause-text
unfolding digits
returns-in-3-clause-text c = subst (λ site. codes "LOADING site 3 waits for its peers" ≡ loading_of site) (sym c.in-3.is) refl

pub returns-in-4-clause-text : goal.returns-in-4-clause-text
unfolding digits
returns-in-4-clause-text c = subst (λ site. codes "LOADING site 4 waits for its peers" ≡ loading_of site) (sym c.in-4.is) refl

pub returns-in-5-clause-text : goal.returns-in-5-clause-text
unfolding digits
returns-in-5-clause-text c = subst (λ site. codes "LOADING site 5 waits for its peers" ≡ loading_of site) (sym c.in-5.is) refl

pub returns-in-6-clause-text : goal.returns-in-6-clause-text
unfolding digits
returns-in-6-clause-text c = subst (λ site. codes "LOADING site 6 waits for its peers" ≡ loading_of site) (sym c.in-6.is) refl

pub returns-in-7-clause-text : goal.returns-in-7-clause-text
unfolding digits
returns-in-7-clause-text c = subst (λ site. codes "LOADING site 7 waits for its peers" ≡ loading_of site) (sym c.in-7.is) refl

pub returns-in-8-clause-text : goal.returns-in-8-clause-text
unfolding digits
returns-in-8-clause-text c = subst (λ site. codes "LOADING site 8 waits for its peers" ≡ loading_of site) (sym c.in-8.is) refl

pub returns-in-9-clause-text : goal.returns-in-9-clause-text
unfolding digits
returns-in-9-clause-text c = subst (λ site. codes "LOADING site 9 waits for its peers" ≡ loading_of site) (sym c.in-9.is) refl
