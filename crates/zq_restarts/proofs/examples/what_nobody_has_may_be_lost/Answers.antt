use Rattle.std.proofs.Common.{arith, inl, refl}
use Rattle.zq_notes.specs.Examples.{put_x}
use Rattle.zq_restarts.proofs.examples.what_nobody_has_may_be_lost.Goals as goal

pub returns-clause-sent : goal.returns-clause-sent
returns-clause-sent c = λ is. is.own put_x (inl refl) refl

pub returns-clause-taken : goal.returns-clause-taken
returns-clause-taken c = λ left is. is.own put_x (is.there 1 (λ same. omega (arith, same)) put_x (inl refl)) refl
