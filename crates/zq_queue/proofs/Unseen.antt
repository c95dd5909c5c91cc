-- What a vector that has seen all of an entry leaves of it.
use Rattle.std.proofs.Common.{ap, arith, refl, subst, suc, zero, ◌∙◌}
use Rattle.std.proofs.lemmas.Bool.{and_parts, cond-true}
use Rattle.std.specs.List.{list_all}
use Rattle.std.specs.Prelude.{List, None, Some, [], true, ℕ, ◌+◌, ◌∷◌, ◌≡◌}
use Rattle.zq_entry.specs.Placed.{placed_of}
use Rattle.zq_entry.specs.Sparse.{sparse_from}
use Rattle.zq_model.proofs.Sites.{by_site-same}
use Rattle.zq_model.specs.Entry.{without}
use Rattle.zq_model.specs.Image.{Entry, addition_at, entry_after, no_additions}
use Rattle.zq_model.specs.Operation.{Drop, has}
use Rattle.zq_queue.specs.Effects.{is_seen}

-- no site has anything left
none_at : (v : List ℕ) (s : ℕ) (e : Entry) → list_all (is_seen v) (sparse_from s e) ≡ true → (i : ℕ) → without v (s + i) (addition_at e i) ≡ None
none_at v s [] all i = refl
none_at v s (None ∷ e) all zero = refl
none_at v s (None ∷ e) all (suc i) =
    let next : s + 1 + i ≡ s + suc i = omega arith in
    subst (λ k. without v k (addition_at e i) ≡ None) next (none_at v (s + 1) e all i)
none_at v s (Some a ∷ e) all zero =
    let here : s ≡ s + 0 = omega arith in
    subst (λ k. without v k (Some a) ≡ None) here (cond-true (has v s a.n) None (Some a) (and_parts _ _ all).0)
none_at v s (Some a ∷ e) all (suc i) =
    let next : s + 1 + i ≡ s + suc i = omega arith in
    subst (λ k. without v k (addition_at e i) ≡ None) next (none_at v (s + 1) e (and_parts _ _ all).1 i)

-- a Drop leaves nothing of what it has seen whole
pub nothing_left : (v : List ℕ) (e : Entry) (t n : ℕ) → list_all (is_seen v) (placed_of e) ≡ true → entry_after Drop t n v e ≡ no_additions
nothing_left v e t n all =
    by_site-same (λ s. without v s (addition_at e s)) (λ _. None) (λ s below.
    let here : s ≡ 0 + s = omega arith in
    ap (λ k. without v k (addition_at e s)) here ∙ none_at v 0 e all s)
