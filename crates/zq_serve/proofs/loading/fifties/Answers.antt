use Rattle.std.proofs.Common.{refl, subst, sym, ◌≡◌}
use Rattle.std.specs.Fmt.{digits}
use Rattle.std.specs.Prelude.{codes}
use Rattle.zq_serve.proofs.loading.fifties.Goals as goal
use Rattle.zq_serve.specs.Admission.{loading_of}

pub returns-in-50-clause-text : goal.returns-in-50-clause-text
unfolding digits
returns-in-50-clause-text c = subst (λ site. codes "LOADING site 50 waits for its peers" ≡ loading_of site) (sym c.in-50.is) refl

pub returns-in-51-clause-text : goal.returns-in-51-clause-text
unfolding digits
returns-in-51-clause-text c = subst (λ site. codes "LOADING site 51 waits for its peers" ≡ loading_of site) (sym c.in-51.is) refl

pub returns-in-52-clause-text : goal.returns-in-52-clause-text
unfolding digits
returns-in-52-clause-text c = subst (λ site. codes "LOADING site 52 waits for its peers" ≡ loading_of site) (sym c.in-52.is) refl

pub returns-in-53-clause-text : goal.returns-in-53-clause-text
unfolding digits
returns-in-53-clause-text c = subst (λ site. codes "LOADING site 53 waits for its peers" ≡ loading_of site) (sym c.in-53.is) refl

pub returns-in-54-clause-text : goal.returns-in-54-clause-text
unfolding digits
returns-in-54-clause-text c = subst (λ site. codes "LOADING site 54 waits for its peers" ≡ loading_of site) (sym c.in-54.is) refl

pub returns-in-55-clause-text : goal.returns-in-55-clause-text
unfolding digits
returns-in-55-clause-text c = subst (λ site. codes "LOADING site 55 waits for its peers" ≡ loading_of site) (sym c.in-55.is) refl

pub returns-in-56-clause-text : goal.returns-in-56-clause-text
unfolding digits
returns-in-56-clause-text c = subst (λ site. codes "LOADING site 56 waits for its peers" ≡ loading_of site) (sym c.in-56.is) refl

pub returns-in-57-clause-text : goal.returns-in-57-clause-text
unfolding digits
returns-in-57-clause-text c = subst (λ site. codes "LOADING site 57 waits for its peers" ≡ loading_of site) (sym c.in-57.is) refl

pub returns-in-58-clause-text : goal.returns-in-58-clause-text
unfolding digits
returns-in-58-clause-text c = subst (λ site. codes "LOADING site 58 waits for its peers" ≡ loading_of site) (sym c.in-58.is) refl

pub returns-in-59-clause-text : goal.returns-in-59-clause-text
unfolding digits
returns-in-59-clause-text c = subst (λ site. codes "LOADING site 59 waits for its peers" ≡ loading_of site) (sym c.in-59.is) refl
