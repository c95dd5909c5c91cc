-- A score in a book within bounds is not wide.

use Rattle.std.proofs.Common.{List, None, Option, Some, [], arith, length, pos, subst, suc, sym, ℕ, ℤ, ◌*◌, ◌<◌, ◌∷◌, ◌≡◌}
use Rattle.std.proofs.lemmas.Int.{ints}
use Rattle.std.specs.Prelude.{IfSome, slice_index, slice_index_or}
use Rattle.zq_commands.specs.Wide.{IsWide}
use Rattle.zq_entry.proofs.SumLemmas.{counter-within}
use Rattle.zq_entry.specs.Sums.{MOST_SUM}
use Rattle.zq_model.specs.Books.{Book}
use Rattle.zq_model.proofs.Preferred.{score_reached}
use Rattle.zq_model.specs.Entry.{Addition, sum_at}
use Rattle.zq_model.specs.Image.{entry_at}
use Rattle.zq_model.specs.Operation.{IsWithin, MOST}
use Rattle.zq_model.specs.Rule.{Rule}
use Rattle.zq_model.specs.Score.{score_of, total, value_of}
use Rattle.zq_model.specs.Sets.{IsIn, SITES}
use Rattle.zq_model.proofs.Homes.{lent_each}
use Rattle.zq_model.specs.Lent.{AreLent}

total_within : (sums : List ℤ) → ((t : ℕ) → t < length sums → IsWithin MOST_SUM (slice_index_or sums t (pos 0))) → IsWithin (length sums * MOST_SUM) (total sums)
total_within [] each = (omega (arith, ints), omega (arith, ints))
total_within (x ∷ sums) each =
    let first = each 0 (omega arith) in
    let rest = total_within sums (λ t below. each (suc t) (omega (arith, below))) in
    (omega (arith, ints, first.0, rest.0), omega (arith, ints, first.1, rest.1))

value_wide : (a : Addition) → length a.sums ≡ SITES → IsWithin MOST a.score → IsWithin (length a.sums * MOST_SUM) (total a.sums) → IsWide (value_of a)
unfolding SITES
value_wide a wide score sums = (omega (arith, ints), omega (arith, ints))

pub score_wide : (rule : Rule) (K : ℕ) (books : List Book) (key m : List ℕ) (b : Book) → AreLent K books → IsIn b books → (r : Option ℤ) → r ≡ score_of rule (entry_at b.state.members (key, m)) → IfSome r IsWide
score_wide rule K books key m b are here None is = tt
score_wide rule K books key m b are here (Some x) is =
    let lent = lent_each K books b are here in
    let value = score_reached rule (entry_at b.state.members (key, m)) x (sym is) in
    let bounds = lent.bounded.additions key m value.0 value.1 value.2 in
    let sums = total_within value.1.sums (λ t below.
    counter-within (slice_index b.state.vector t) (sum_at value.1 t) (lent.bounded.counters.bounded t) (bounds.sums t (omega (arith, below, bounds.wide)))) in
    subst IsWide value.3 (value_wide value.1 bounds.wide bounds.score sums)
