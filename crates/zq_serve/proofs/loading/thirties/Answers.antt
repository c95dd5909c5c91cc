use Rattle.std.proofs.Common.{refl, subst, sym, ◌≡◌}
use Rattle.std.specs.Fmt.{digits}
use Rattle.std.specs.Prelude.{codes}
use Rattle.zq_serve.proofs.loading.thirties.Goals as goal
use Rattle.zq_serve.specs.Admission.{loading_of}

pub returns-in-30-clause-text : goal.returns-in-30-clause-text
unfolding digits
returns-in-30-clause-text c = subst (λ site. codes "LOADING site 30 waits for its peers" ≡ loading_of site) (sym c.in-30.is) refl

pub returns-in-31-clause-text : goal.returns-in-31-clause-text
unfolding digits
returns-in-31-clause-text c = subst (λ site. codes "LOADING site 31 waits for its peers" ≡ loading_of site) (sym c.in-31.is) refl

pub returns-in-32-clause-text : goal.returns-in-32-clause-text
unfolding digits
returns-in-32-clause-text c = subst (λ site. codes "LOADING site 32 waits for its peers" ≡ loading_of site) (sym c.in-32.is) refl

pub returns-in-33-clause-text : goal.returns-in-33-clause-text
unfolding digits
returns-in-33-clause-text c = subst (λ site. codes "LOADING site 33 waits for its peers" ≡ loading_of site) (sym c.in-33.is) refl

pub returns-in-34-clause-text : goal.returns-in-34-clause-text
unfolding digits
returns-in-34-clause-text c = subst (λ site. codes "LOADING site 34 waits for its peers" ≡ loading_of site) (sym c.in-34.is) refl

pub returns-in-35-clause-text : goal.returns-in-35-clause-text
unfolding digits
returns-in-35-clause-text c = subst (λ site. codes "LOADING site 35 waits for its peers" ≡ loading_of site) (sym c.in-35.is) refl

pub returns-in-36-clause-text : goal.returns-in-36-clause-text
unfolding digits
returns-in-36-clause-text c = subst (λ site. codes "LOADING site 36 waits for its peers" ≡ loading_of site) (sym c.in-36.is) refl

pub returns-in-37-clause-text : goal.returns-in-37-clause-text
unfolding digits
returns-in-37-clause-text c = subst (λ site. codes "LOADING site 37 waits for its peers" ≡ loading_of site) (sym c.in-37.is) refl

pub returns-in-38-clause-text : goal.returns-in-38-clause-text
unfolding digits
returns-in-38-clause-text c = subst (λ site. codes "LOADING site 38 waits for its peers" ≡ loading_of site) (sym c.in-38.is) refl

pub returns-in-39-clause-text : goal.returns-in-39-clause-text
unfolding digits
returns-in-39-clause-text c = subst (λ site. codes "LOADING site 39 waits for its peers" ≡ loading_of site) (sym c.in-39.is) refl
