-- The image of a closed set with a new operation is the step of its image.

use Rattle.std.proofs.Common.{List, ap, arith, false, get_or, get_or-set_other, get_or-set_same, inl, inr, length, length-set, refl, set, subst, sym, true, true≢false, ℕ, ◌<◌, ◌∙◌, ◌∷◌, ◌≡◌}
use Rattle.std.proofs.lemmas.Bool.{cases_eq, cond_both, false_from_ne_true}
use Rattle.std.specs.FinMap.{get}
use Rattle.std.specs.Ordering.{eq_by_cmp}
use Rattle.zq_model.proofs.Entries.{addition_at-image_of, get-image_of, get-put_entry, image_from}
use Rattle.zq_model.proofs.Maps.{key_same, place_exact, place_total, same_key}
use Rattle.zq_model.proofs.NewOperation.{last_elsewhere, last_here}
use Rattle.zq_model.proofs.Places.{is_on_from, is_on_parts}
use Rattle.zq_model.proofs.Sites.{by_site-at, by_site-same, by_site_from, length-by_site}
use Rattle.zq_model.proofs.StepSites.{addition_after, addition_elsewhere}
use Rattle.zq_model.specs.Entry.{after}
use Rattle.zq_model.specs.Image.{Place, entry_after, entry_at, entry_of, image_after, image_of, place_cmp, place_of, unless_bare}
use Rattle.zq_model.specs.Operation.{Operation, is_on}
use Rattle.zq_model.specs.Sets.{IsClosed, IsNew, IsWorld, SITES, last, vector_of}

module _ (K : ℕ) (S : List Operation) (o : Operation) (world : IsWorld K (o ∷ S)) (closed : IsClosed S) (new : IsNew S o) where
  -- the vector has the operation's counter at its site
  vector_step : set (vector_of S o.heap) o.site o.n ≡ vector_of (o ∷ S) o.heap
  vector_step =
      let below : o.site < SITES = (world.each o (inl refl)).site in
      let wide : length (vector_of S o.heap) ≡ SITES = length-by_site (last S o.heap) in
      by_site_from (last (o ∷ S) o.heap) (set (vector_of S o.heap) o.site o.n) 0 (length-set (vector_of S o.heap) o.site o.n ∙ wide) (λ t inside. elim (cases_eq t o.site) [
        | inl same ↦ subst (λ r. get_or (set (vector_of S o.heap) o.site o.n) r 0 ≡ last (o ∷ S) o.heap r) (sym same)
            (get_or-set_same (vector_of S o.heap) o.site o.n 0 (omega arith) ∙ sym (last_here S o new))
        | inr apart ↦ get_or-set_other (vector_of S o.heap) o.site t o.n 0 apart ∙ by_site-at (last S o.heap) t 0 inside ∙ sym (last_elsewhere S o t apart)
      ])

  -- the operation's member has the step of its entry
  entry_here : entry_after o.act o.site o.n o.seen (entry_at (image_of S o.heap).members (place_of o)) ≡ entry_of (o ∷ S) o.heap (place_of o)
  entry_here =
      let on : is_on o.heap o.key o.member o ≡ true = is_on_from o.heap o.key o.member o refl refl refl in
      by_site-same _ _ (λ s inside. ap (after o s) (addition_at-image_of S o.heap (place_of o) s inside) ∙ sym (addition_after K S o world closed new o.key o.member s on))

  -- each other member keeps its own
  entry_elsewhere : (q : Place) → eq_by_cmp place_cmp q (place_of o) ≡ false → entry_of S o.heap q ≡ entry_of (o ∷ S) o.heap q
  entry_elsewhere q e =
      let away : is_on o.heap q.0 q.1 o ≡ false = false_from_ne_true _ (λ here.
      let parts : (o.heap ≡ o.heap) × (o.key ≡ q.0) × (o.member ≡ q.1) = is_on_parts o.heap q.0 q.1 o here in
      let same : q ≡ place_of o = λ i. (sym parts.1 i, sym parts.2 i) in
      true≢false (sym (key_same place_total q (place_of o) same) ∙ e)) in
      by_site-same _ _ (λ s _. sym (addition_elsewhere K S o world closed new q.0 q.1 s away))

  entry_step : (q : Place) → get (image_after o (image_of S o.heap)).members q ≡ unless_bare (entry_of (o ∷ S) o.heap q)
  entry_step q =
      let entry = entry_after o.act o.site o.n o.seen (entry_at (image_of S o.heap).members (place_of o)) in
      get-put_entry (image_of S o.heap).members (place_of o) entry q
      ∙ cond_both (eq_by_cmp place_cmp q (place_of o)) (unless_bare entry) (get (image_of S o.heap).members q) (λ x. x ≡ unless_bare (entry_of (o ∷ S) o.heap q))
      (λ e. ap unless_bare (entry_here ∙ ap (entry_of (o ∷ S) o.heap) (sym (same_key place_exact q (place_of o) e))))
      (λ e. get-image_of S o.heap q ∙ ap unless_bare (entry_elsewhere q e))

pub image_of-step : (K : ℕ) (S : List Operation) (o : Operation) → IsWorld K (o ∷ S) → IsClosed S → IsNew S o →
    image_of (o ∷ S) o.heap ≡ image_after o (image_of S o.heap)
image_of-step K S o world closed new =
    sym (image_from (image_after o (image_of S o.heap)) (o ∷ S) o.heap (vector_step K S o world closed new) (entry_step K S o world closed new))
