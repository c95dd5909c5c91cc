use Rattle.std.proofs.Common.{refl, subst, sym, ◌≡◌}
use Rattle.std.specs.Fmt.{digits}
use Rattle.std.specs.Prelude.{codes}
use Rattle.zq_serve.proofs.loading.tens.Goals as goal
use Rattle.zq_serve.specs.Admission.{loading_of}

pub returns-in-10-clause-text : goal.returns-in-10-clause-text
unfolding digits
returns-in-10-clause-text c = subst (λ site. codes "LOADING site 10 waits for its peers" ≡ loading_of site) (sym c.in-10.is) refl

pub returns-in-11-clause-text : goal.returns-in-11-clause-text
unfolding digits
returns-in-11-clause-text c = subst (λ site. codes "LOADING site 11 waits for its peers" ≡ loading_of site) (sym c.in-11.is) refl

pub returns-in-12-clause-text : goal.returns-in-12-clause-text
unfolding digits
returns-in-12-clause-text c = subst (λ site. codes "LOADING site 12 waits for its peers" ≡ loading_of site) (sym c.in-12.is) refl

pub returns-in-13-clause-text : goal.returns-in-13-clause-text
unfolding digits
returns-in-13-clause-text c = subst (λ site. codes "LOADING site 13 waits for its peers" ≡ loading_of site) (sym c.in-13.is) refl

pub returns-in-14-clause-text : goal.returns-in-14-clause-text
unfolding digits
returns-in-14-clause-text c = subst (λ site. codes "LOADING site 14 waits for its peers" ≡ loading_of site) (sym c.in-14.is) refl

pub returns-in-15-clause-text : goal.returns-in-15-clause-text
unfolding digits
returns-in-15-clause-text c = subst (λ site. codes "LOADING site 15 waits for its peers" ≡ loading_of site) (sym c.in-15.is) refl

pub returns-in-16-clause-text : goal.returns-in-16-clause-text
unfolding digits
returns-in-16-clause-text c = subst (λ site. codes "LOADING site 16 waits for its peers" ≡ loading_of site) (sym c.in-16.is) refl

pub returns-in-17-clause-text : goal.returns-in-17-clause-text
unfolding digits
returns-in-17-clause-text c = subst (λ site. codes "LOADING site 17 waits for its peers" ≡ loading_of site) (sym c.in-17.is) refl

pub returns-in-18-clause-text : goal.returns-in-18-clause-text
unfolding digits
returns-in-18-clause-text c = subst (λ site. codes "LOADING site 18 waits for its peers" ≡ loading_of site) (sym c.in-18.is) refl

pub returns-in-19-clause-text : goal.returns-in-19-clause-text
unfolding digits
returns-in-19-clause-text c = subst (λ site. codes "LOADING site 19 waits for its peers" ≡ loading_of site) (sym c.in-19.is) refl
