-- When two lists of members with scores are the same.
use Rattle.std.proofs.Common.{ap, refl, sym, true≢false, ◌∙◌}
use Rattle.std.proofs.lemmas.Bool.Decides.{Decides-int_eq}
use Rattle.std.proofs.lemmas.Slice.Eq.{bytes_eq-Decides, slice_eq-Decides}
use Rattle.std.specs.Bool.{Decides}
use Rattle.std.specs.Cmp.Derive.Mapped.{pointwise-map}
use Rattle.std.specs.Cmp.Lexicographic.{pointwise}
use Rattle.std.specs.Ordering.{int_eq}
use Rattle.std.specs.Prelude.{Bool, List, false, map, nat_eq, true, ℕ, ℤ, ◌&&◌, ◌≡◌}
use Rattle.std.specs.declared.alloc.Global.{Global}
use Rattle.std.specs.declared.vec.Vec.{Vec}
use Rattle.zq_drill.specs.Lists.{listed}
use Rattle.zq_model.specs.Meaning.{Scored}

-- two members with their scores are the same
abbrev pub is_same_scored : Scored → Scored → Bool
is_same_scored x y = int_eq x.0 y.0 && pointwise nat_eq x.1 y.1

both : (s t : Bool) {P Q : Type 0} → Decides s P → Decides t Q → Decides (s && t) (P × Q)
both true t p q = (λ e. (p.0 refl, q.0 e), λ h. q.1 h.1)
both false t p q = (λ e. absurd (true≢false (sym e)), λ h. p.1 h.0)

decides_scored : (x y : Scored) → Decides (is_same_scored x y) (x ≡ y)
decides_scored x y =
    let d = both (int_eq x.0 y.0) (pointwise nat_eq x.1 y.1) (Decides-int_eq x.0 y.0) (bytes_eq-Decides x.1 y.1) in
    (λ e k. ((d.0 e).0 k, (d.0 e).1 k), λ e. d.1 (ap (λ p. p.0) e, ap (λ p. p.1) e))

-- a test of each element of two lists tells whether they list the same
pub same_lists : (xs ys : List (ℤ × Vec ℕ Global)) (r : Bool) → r ≡ pointwise (λ x y. is_same_scored (listed x) (listed y)) xs ys → Decides r (map listed xs ≡ map listed ys)
same_lists xs ys r e = slice_eq-Decides decides_scored (map listed xs) (map listed ys) r (e ∙ sym (pointwise-map listed is_same_scored xs ys))
