-- Sites that stand do so where one crashes and begins again.

use Rattle.std.proofs.Common.{inl, inr, subst, sym}
use Rattle.std.proofs.lemmas.Bool.{cases_eq}
use Rattle.std.specs.Prelude.{ℕ, ◌≡◌}
use Rattle.zq_model.proofs.Worlds.{world_part}
use Rattle.zq_model.specs.Operation.{Operation}
use Rattle.zq_model.specs.Rule.{Rule}
use Rattle.zq_model.specs.Sets.{IsIn}
use Rattle.zq_notes.proofs.RunMoves.{apart_is, here_is}
use Rattle.zq_notes.proofs.Tails.{all_in_base}
use Rattle.zq_notes.specs.Gathered.{AreImagesOf}
use Rattle.zq_restarts.specs.Reached.{IsRestartOver}
use Rattle.zq_restarts.specs.Runs.{Restart, State, after_restart}
use Rattle.zq_restarts.specs.Standing.{IsStanding}

module _ (rule : Rule) (K : ℕ) (now : State) (stands : IsStanding rule K now) (r : Restart) (is : IsRestartOver rule K now r) where
  images_here : AreImagesOf rule K r.left r.again r.books
  images_here = record {
    within = is.here;
    closed = is.closed;
    each = λ h.
        let b = is.books h in
        record { heap = b.heap; heaps = b.heaps; ruled = b.ruled; state = b.image; tail = all_in_base r.again h (r.books h) is.closed b.base b.tail };
  }

  has_here : (after_restart r now).has r.site ≡ r.again
  has_here = here_is now.has r.site r.again

  has_apart : (t : ℕ) → (t ≡ r.site → ⊥) → (after_restart r now).has t ≡ now.has t
  has_apart t apart = apart_is now.has r.site r.again t apart

  images_next : (t : ℕ) → AreImagesOf rule K r.left ((after_restart r now).has t) ((after_restart r now).books t)
  images_next t = elim (cases_eq t r.site) [
    | inl same ↦ subst (λ x. AreImagesOf rule K r.left ((after_restart r now).has x) ((after_restart r now).books x)) (sym same)
        (subst (AreImagesOf rule K r.left ((after_restart r now).has r.site)) (sym (here_is now.books r.site r.books))
        (subst (λ S. AreImagesOf rule K r.left S r.books) (sym has_here) images_here))
    | inr apart ↦ subst (AreImagesOf rule K r.left ((after_restart r now).has t)) (sym (apart_is now.books r.site r.books t apart))
        (subst (λ S. AreImagesOf rule K r.left S (now.books t)) (sym (has_apart t apart))
        (record { within = is.there t apart; closed = (stands.images t).closed; each = (stands.images t).each }))
  ]

  own_next : (o : Operation) → IsIn o r.left → IsIn o ((after_restart r now).has o.site)
  own_next o i = elim (cases_eq o.site r.site) [
    | inl same ↦ subst (λ x. IsIn o ((after_restart r now).has x)) (sym same) (subst (IsIn o) (sym has_here) (is.own o i same))
    | inr apart ↦ subst (IsIn o) (sym (has_apart o.site apart)) (stands.own o (is.left o i))
  ]

  pub stands_again : IsStanding rule K (after_restart r now)
  stands_again = record { world = world_part K r.left now.left is.left stands.world; images = images_next; own = own_next }
