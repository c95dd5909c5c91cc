use Rattle.std.proofs.Common.{ap, arith, refl, ◌≡◌}
use Rattle.std.specs.Prelude.{slice_index}
use Rattle.zq_model.specs.Heaps.{fnv1a64, heap_of}
use Rattle.zq_model.specs.Sets as sets
use Rattle.zq_model.specs.Sets.{LAST, SITES}
use Rattle.zq_notes.proofs.examples.a_repeat_changes_nothing.Goals as goal

pub returns-clause-thread : goal.returns-clause-thread
unfolding SITES LAST heap_of fnv1a64
returns-clause-thread c = (
  record { steps = (record { legal = refl; own = refl }, tt); does = (refl, (refl, refl), record { heaps = refl; placed = refl }) },
  (
    record { steps = (record { legal = refl; own = refl }, tt); does = (refl, (refl, refl)) },
    (record { steps = (record { legal = refl; own = refl }, tt); does = (refl, (refl, refl), record { heaps = refl; placed = refl }) }, tt),
  ),
)

pub returns-clause-twice : goal.returns-clause-twice
unfolding SITES LAST heap_of fnv1a64
returns-clause-twice c = λ is. let e : sets.New ≡ sets.Known = is.1.0.does.1.0 in absurd (cc)

pub returns-clause-early : goal.returns-clause-early
unfolding SITES LAST heap_of fnv1a64
returns-clause-early c = λ is. let e : 1 ≡ 0 = ap (λ v. slice_index v 0) is.0.does.1.0 in absurd (omega (arith, e))
