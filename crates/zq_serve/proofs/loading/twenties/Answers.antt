use Rattle.std.proofs.Common.{refl, subst, sym, ◌≡◌}
use Rattle.std.specs.Fmt.{digits}
use Rattle.std.specs.Prelude.{codes}
use Rattle.zq_serve.proofs.loading.twenties.Goals as goal
use Rattle.zq_serve.specs.Admission.{loading_of}

pub returns-in-20-clause-text : goal.returns-in-20-clause-text
unfolding digits
returns-in-20-clause-text c = subst (λ site. codes "LOADING site 20 waits for its peers" ≡ loading_of site) (sym c.in-20.is) refl

pub returns-in-21-clause-text : goal.returns-in-21-clause-text
unfolding digits
returns-in-21-clause-text c = subst (λ site. codes "LOADING site 21 waits for its peers" ≡ loading_of site) (sym c.in-21.is) refl

pub returns-in-22-clause-text : goal.returns-in-22-clause-text
unfolding digits
returns-in-22-clause-text c = subst (λ site. codes "LOADING site 22 waits for its peers" ≡ loading_of site) (sym c.in-22.is) refl

pub returns-in-23-clause-text : goal.returns-in-23-clause-text
unfolding digits
returns-in-23-clause-text c = subst (λ site. codes "LOADING site 23 waits for its peers" ≡ loading_of site) (sym c.in-23.is) refl

pub returns-in-24-clause-text : goal.returns-in-24-clause-text
unfolding digits
returns-in-24-clause-text c = subst (λ site. codes "LOADING site 24 waits for its peers" ≡ loading_of site) (sym c.in-24.is) refl

pub returns-in-25-clause-text : goal.returns-in-25-clause-text
unfolding digits
returns-in-25-clause-text c = subst (λ site. codes "LOADING site 25 waits for its peers" ≡ loading_of site) (sym c.in-25.is) refl

pub returns-in-26-clause-text : goal.returns-in-26-clause-text
unfolding digits
returns-in-26-clause-text c = subst (λ site. codes "LOADING site 26 waits for its peers" ≡ loading_of site) (sym c.in-26.is) refl

pub returns-in-27-clause-text : goal.returns-in-27-clause-text
unfolding digits
returns-in-27-clause-text c = subst (λ site. codes "LOADING site 27 waits for its peers" ≡ loading_of site) (sym c.in-27.is) refl

pub returns-in-28-clause-text : goal.returns-in-28-clause-text
unfolding digits
returns-in-28-clause-text c = subst (λ site. codes "LOADING site 28 waits for its peers" ≡ loading_of site) (sym c.in-28.is) refl

pub returns-in-29-clause-text : goal.returns-in-29-clause-text
unfolding digits
returns-in-29-clause-text c = subst (λ site. codes "LOADING site 29 waits for its peers" ≡ loading_of site) (sym c.in-29.is) refl
