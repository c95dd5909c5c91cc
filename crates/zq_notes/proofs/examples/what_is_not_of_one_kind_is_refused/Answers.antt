use Rattle.std.proofs.Common.{arith, refl, ◌≡◌}
use Rattle.zq_journal.specs.Books.{LAST_STAMP}
use Rattle.zq_model.specs.Rule as rules
use Rattle.zq_model.specs.Sets.{LAST, SITES}
use Rattle.zq_notes.proofs.examples.what_is_not_of_one_kind_is_refused.Goals as goal

pub returns-clause-merges : goal.returns-clause-merges
unfolding SITES LAST LAST_STAMP
returns-clause-merges c = (record { steps = (record { legal = refl; own = refl }, tt); does = (refl, ((λ e. absurd (omega (arith, e))), refl), record { heaps = refl; ruled = refl }) }, tt)

pub returns-clause-ruled : goal.returns-clause-ruled
returns-clause-ruled c = λ is. let e : rules.Least ≡ rules.Greatest = is.0.does.2.ruled in absurd (cc)

pub returns-clause-among : goal.returns-clause-among
returns-clause-among c = λ is. let e : 3 ≡ 2 = is.0.does.2.heaps in absurd (omega (arith, e))
