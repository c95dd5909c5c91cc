use Rattle.std.proofs.Common.{refl, subst, sym, ◌≡◌}
use Rattle.std.specs.Fmt.{digits}
use Rattle.std.specs.Prelude.{codes}
use Rattle.zq_serve.proofs.loading.forties.Goals as goal
use Rattle.zq_serve.specs.Admission.{loading_of}

pub returns-in-40-clause-text : goal.returns-in-40-clause-text
unfolding digits
returns-in-40-clause-text c = subst (λ site. codes "LOADING site 40 waits for its peers" ≡ loading_of site) (sym c.in-40.is) refl

pub returns-in-41-clause-text : goal.returns-in-41-clause-text
unfolding digits
returns-in-41-clause-text c = subst (λ site. codes "LOADING site 41 waits for its peers" ≡ loading_of site) (sym c.in-41.is) refl

pub returns-in-42-clause-text : goal.returns-in-42-clause-text
unfolding digits
returns-in-42-clause-text c = subst (λ site. codes "LOADING site 42 waits for its peers" ≡ loading_of site) (sym c.in-42.is) refl

pub returns-in-43-clause-text : goal.returns-in-43-clause-text
unfolding digits
returns-in-43-clause-text c = subst (λ site. codes "LOADING site 43 waits for its peers" ≡ loading_of site) (sym c.in-43.is) refl

pub returns-in-44-clause-text : goal.returns-in-44-clause-text
unfolding digits
returns-in-44-clause-text c = subst (λ site. codes "LOADING site 44 waits for its peers" ≡ loading_of site) (sym c.in-44.is) refl

pub returns-in-45-clause-text : goal.returns-in-45-clause-text
unfolding digits
returns-in-45-clause-text c = subst (λ site. codes "LOADING site 45 waits for its peers" ≡ loading_of site) (sym c.in-45.is) refl

pub returns-in-46-clause-text : goal.returns-in-46-clause-text
unfolding digits
returns-in-46-clause-text c = subst (λ site. codes "LOADING site 46 waits for its peers" ≡ loading_of site) (sym c.in-46.is) refl

pub returns-in-47-clause-text : goal.returns-in-47-clause-text
unfolding digits
returns-in-47-clause-text c = subst (λ site. codes "LOADING site 47 waits for its peers" ≡ loading_of site) (sym c.in-47.is) refl

pub returns-in-48-clause-text : goal.returns-in-48-clause-text
unfolding digits
returns-in-48-clause-text c = subst (λ site. codes "LOADING site 48 waits for its peers" ≡ loading_of site) (sym c.in-48.is) refl

pub returns-in-49-clause-text : goal.returns-in-49-clause-text
unfolding digits
returns-in-49-clause-text c = subst (λ site. codes "LOADING site 49 waits for its peers" ≡ loading_of site) (sym c.in-49.is) refl
