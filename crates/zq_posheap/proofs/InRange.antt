-- Scores stay in their range as they come and go.
use Rattle.std.specs.Prelude.{Bool, FitsSigned, List, None, Some, cond, false, true, ℕ, ℤ, ◌≡◌}
use Rattle.std.proofs.Common.{subst, sym, ◌∙◌}
use Rattle.std.proofs.lemmas.Cmp.{nat_list_cmp_total}
use Rattle.std.proofs.lemmas.Option.{none-some, same_Some}
use Rattle.std.specs.Cmp.Lexicographic.{slice_cmp}
use Rattle.std.specs.FinMap.{empty, get, get-empty, get-insert, get-remove, insert, remove}
use Rattle.std.specs.Int.{w128}
use Rattle.std.specs.Ordering.{eq_by_cmp, nat_cmp}
use Rattle.zq_posheap.specs.Members.{AreInRange, Entries}

pub range-empty : {V : Type 0} → AreInRange (empty {X = ℤ × V} {R = slice_cmp nat_cmp})
range-empty member e is = absurd (none-some e (sym (get-empty (slice_cmp nat_cmp) member) ∙ is))

pub range-insert : {V : Type 0} (held : Entries V) → AreInRange held → (member : List ℕ) (e : ℤ × V) → FitsSigned w128 e.0 → AreInRange (insert held member e)
range-insert {V} held in_range member e fits other found is =
    by (eq_by_cmp (slice_cmp nat_cmp) other member) (sym (get-insert nat_list_cmp_total held member e other) ∙ is)
  where
    by : (b : Bool) → cond b (Some e) (get held other) ≡ Some found → FitsSigned w128 found.0
    by true same = subst (λ (x : ℤ × V). FitsSigned w128 x.0) (same_Some e found same) fits
    by false same = in_range other found same

pub range-remove : {V : Type 0} (held : Entries V) → AreInRange held → (member : List ℕ) → AreInRange (remove held member)
range-remove held in_range member other found is =
    by (eq_by_cmp (slice_cmp nat_cmp) other member) (sym (get-remove nat_list_cmp_total held member other) ∙ is)
  where
    by : (b : Bool) → cond b None (get held other) ≡ Some found → FitsSigned w128 found.0
    by true e = absurd (none-some found e)
    by false e = in_range other found e
