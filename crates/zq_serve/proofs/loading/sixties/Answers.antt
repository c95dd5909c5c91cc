use Rattle.std.proofs.Common.{refl, subst, sym, ◌≡◌}
use Rattle.std.specs.Fmt.{digits}
use Rattle.std.specs.Prelude.{codes}
use Rattle.zq_serve.proofs.loading.sixties.Goals as goal
use Rattle.zq_serve.specs.Admission.{loading_of}

pub returns-in-60-clause-text : goal.returns-in-60-clause-text
unfolding digits
returns-in-60-clause-text c = subst (λ site. codes "LOADING site 60 waits for its peers" ≡ loading_of site) (sym c.in-60.is) refl

pub returns-in-61-clause-text : goal.returns-in-61-clause-text
unfolding digits
returns-in-61-clause-text c = subst (λ site. codes "LOADING site 61 waits for its peers" ≡ loading_of site) (sym c.in-61.is) refl

pub returns-in-62-clause-text : goal.returns-in-62-clause-text
unfolding digits
returns-in-62-clause-text c = subst (λ site. codes "LOADING site 62 waits for its peers" ≡ loading_of site) (sym c.in-62.is) refl

pub returns-in-63-clause-text : goal.returns-in-63-clause-text
unfolding digits
returns-in-63-clause-text c = subst (λ site. codes "LOADING site 63 waits for its peers" ≡ loading_of site) (sym c.in-63.is) refl
