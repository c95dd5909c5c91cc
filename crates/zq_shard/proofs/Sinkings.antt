-- Changes of one key by which no member comes higher.

use Rattle.std.proofs.Common.{ap, arith, inl, inr, refl, subst, suc, sym, zero, ◌∙◌}
use Rattle.std.proofs.lemmas.Bool.{cases_eq}
use Rattle.std.proofs.lemmas.Option.{none-some, same_Some, slice_get_within}
use Rattle.std.specs.FinMap.{find, get, get-empty}
use Rattle.std.specs.Prelude.{List, None, Option, Some, [], length, slice_get, swap_remove, ℕ, ◌+◌, ◌-◌, ◌∷◌, ◌≡◌, ◌≢◌}
use Rattle.indexmap.specs.IndexMap.{set_value_at}
use Rattle.zq_model.specs.Image.{Place}
use Rattle.zq_posheap.proofs.Lists.{behind, mapped_at, slice_get-append_left, swap_remove_here, swap_remove_other}
use Rattle.zq_queue.specs.Entries.{bytes_cmp}
use Rattle.zq_queue.specs.Queued.{Queued}
use Rattle.zq_model.specs.Rule.{Rule}
use Rattle.zq_queue.specs.Sinks as queue
use Rattle.zq_shard.proofs.Members.{get-members_in}
use Rattle.zq_shard.specs.Queues.{Keyed, entries_in, entries_or_none, members_in}
use Rattle.zq_shard.specs.Sinking.{IsAddedLast, SinkIn}
use Rattle.zq_shard.specs.Standing.{IsNoHigher, StandsAt, order_of}
use Rattle.zq_shard.specs.Walk.{Sinks}

-- ---- a value written at an index

pub set_here : {X : Type 0} (es : List (List ℕ × X)) (i : ℕ) (k : List ℕ) (x w : X) → slice_get es i ≡ Some (k, x) → slice_get (set_value_at es i w) i ≡ Some (k, w)
set_here [] i k x w at = absurd (none-some (k, x) at)
set_here (e ∷ es) zero k x w at = ap (λ (y : List ℕ × _). Some (y.0, w)) (same_Some e (k, x) at)
set_here (e ∷ es) (suc i) k x w at = set_here es i k x w at

pub set_other : {X : Type 0} (es : List (List ℕ × X)) (i j : ℕ) (w : X) → j ≢ i → slice_get (set_value_at es i w) j ≡ slice_get es j
set_other [] i j w apart = refl
set_other (e ∷ es) zero zero w apart = absurd (apart refl)
set_other (e ∷ es) zero (suc j) w apart = refl
set_other (e ∷ es) (suc i) zero w apart = refl
set_other (e ∷ es) (suc i) (suc j) w apart = set_other es i j w (λ same. apart (ap suc same))

pub set_long : {X : Type 0} (es : List (List ℕ × X)) (i : ℕ) (w : X) → length (set_value_at es i w) ≡ length es
set_long [] i w = refl
set_long (e ∷ es) zero w = refl
set_long (e ∷ es) (suc i) w = ap suc (set_long es i w)

-- ---- members and their numbers

abbrev seen : List ℕ × Queued → List ℕ × List (List ℕ)
seen e = (e.0, e.1.places)

-- a member of a queue at its number
pub stand_at : (es : List (List ℕ × Queued)) (q : Place) (key member : ℕ) (queue : Queued) → slice_get es key ≡ Some (q.0, queue) → slice_get queue.places member ≡ Some q.1 → StandsAt (order_of es) q key member
stand_at es q key member queue at named = record { names = queue.places; its_key = mapped_at seen es key (q.0, queue) at; its_member = named }

-- the queue of a member that stands
pub record HasQueue (es : List (List ℕ × Queued)) (q : Place) (key member : ℕ) : Type 0 where
  pub queue : Queued
  pub at : slice_get es key ≡ Some (q.0, queue)
  pub named : slice_get queue.places member ≡ Some q.1

pub queue_of_it : (es : List (List ℕ × Queued)) (q : Place) (key member : ℕ) → StandsAt (order_of es) q key member → HasQueue es q key member
queue_of_it es q key member stands =
    let e = behind seen es key (q.0, stands.names) stands.its_key in
    let its : e.0.0 ≡ q.0 = ap (λ (y : List ℕ × List (List ℕ)). y.0) e.2 in
    let names : e.0.1.places ≡ stands.names = ap (λ (y : List ℕ × List (List ℕ)). y.1) e.2 in
    record { queue = e.0.1; at = e.1 ∙ ap (λ k. Some (k, e.0.1)) its; named = ap (λ ns. slice_get ns member) names ∙ stands.its_member }

-- ---- changes of one key

module _ (old : List (List ℕ × Queued)) (i : ℕ) (key : List ℕ) (before after : Queued) (there : slice_get old i ≡ Some (key, before)) where
  -- the queue was written, and has members
  pub sink_written : (new : List (List ℕ × Queued)) → new ≡ set_value_at old i after → queue.Sinks before after → entries_in new key ≡ after.entries → SinkIn old new
  sink_written new is sinks its q entry a b stands got =
      let old_queue = queue_of_it old q a b stands in
      elim (cases_eq a i) as (λ _. (k : ℕ) × ((m : ℕ) × (IsNoHigher k m a b × StandsAt (order_of new) q k m))) [
        | inl same ↦
            let pair = same_Some _ _ (sym there ∙ ap (slice_get old) (sym same) ∙ old_queue.at) in
            let k : key ≡ q.0 = ap (λ (y : List ℕ × Queued). y.0) pair in
            let its_queue : before ≡ old_queue.queue = ap (λ (y : List ℕ × Queued). y.1) pair in
            let named : slice_get before.places b ≡ Some q.1 = ap (λ (y : Queued). slice_get y.places b) its_queue ∙ old_queue.named in
            let j = sinks b q.1 entry named (ap (λ m. get m q.1) (sym its ∙ ap (entries_in new) k) ∙ got) in (
              i,
              (
                j.0,
                (
                  inr (sym same, j.1.0),
                  stand_at new q i j.0 after (ap (λ es. slice_get es i) is ∙ set_here old i key before after there ∙ ap (λ t. Some (t, after)) k) j.1.1,
                ),
              ),
            )
        | inr apart ↦ (a, (b, (inr (refl, omega arith), stand_at new q a b old_queue.queue (ap (λ es. slice_get es a) is ∙ set_other old i a after apart ∙ old_queue.at) old_queue.named)))
      ]

  -- the queue was written, has no members, and was taken out; the last key came to its index
  pub sink_removed : (pair : List ℕ × Queued) (new : List (List ℕ × Queued)) → new ≡ swap_remove (set_value_at old i after) i pair → find bytes_cmp key new ≡ None → SinkIn old new
  sink_removed pair new is none q entry a b stands got =
      let old_queue = queue_of_it old q a b stands in
      let mid = set_value_at old i after in
      let long : length mid ≡ length old = set_long old i after in
      let within = slice_get_within old a _ old_queue.at in
      let inside = slice_get_within old i _ there in
      elim (cases_eq a i) as (λ _. (k : ℕ) × ((m : ℕ) × (IsNoHigher k m a b × StandsAt (order_of new) q k m))) [
        | inl same ↦
            let k : key ≡ q.0 = ap (λ (y : List ℕ × Queued). y.0) (same_Some _ _ (sym there ∙ ap (slice_get old) (sym same) ∙ old_queue.at)) in
            absurd (none-some entry (sym (ap (λ t. get (entries_in new t) q.1) (sym k) ∙ ap (λ o. get (entries_or_none o) q.1) none ∙ get-empty bytes_cmp q.1) ∙ got))
        | inr apart ↦ elim (cases_eq (a + 1) (length mid)) as (λ _. (k : ℕ) × ((m : ℕ) × (IsNoHigher k m a b × StandsAt (order_of new) q k m))) [
          | inl last ↦ (
            i,
            (
              b,
              (
                inl (omega (arith, last, long, inside, apart)),
                stand_at new q i b old_queue.queue
                    (ap (λ es. slice_get es i) is ∙ swap_remove_here mid i pair (omega (arith, last, long, inside, apart))
                    ∙ (let end : length mid - 1 ≡ a = omega (arith, last) in ap (slice_get mid) end) ∙ set_other old i a after apart ∙ old_queue.at)
                    old_queue.named,
              ),
            ),
          )
          | inr before ↦ (
            a,
            (
              b,
              (
                inr (refl, omega arith),
                stand_at new q a b old_queue.queue
                    (ap (λ es. slice_get es a) is ∙ swap_remove_other mid i a pair apart (omega (arith, within, long, before)) ∙ set_other old i a after apart ∙ old_queue.at)
                    old_queue.named,
              ),
            ),
          )
        ]
      ]

-- nothing was changed
pub sink_still : (old new : List (List ℕ × Queued)) → new ≡ old → SinkIn old new
sink_still old new is q entry a b stands got = (a, (b, (inr (refl, omega arith), subst (λ es. StandsAt (order_of es) q a b) (sym is) stands)))

-- a key came behind all others, or none since it had no members
pub sink_added : (key : List ℕ) (w : Option Queued) (old new : List (List ℕ × Queued)) → IsAddedLast key w old new → SinkIn old new
sink_added key None old new is = sink_still old new is
sink_added key (Some queue) old new is = λ q entry a b stands got.
    let its = queue_of_it old q a b stands in (
      a,
      (
        b,
        (
          inr (refl, omega arith),
          stand_at new q a b its.queue (ap (λ es. slice_get es a) is ∙ slice_get-append_left old ((key, queue) ∷ []) a (slice_get_within old a _ its.at) ∙ its.at) its.named,
        ),
      ),
    )

-- what is seen of it
pub seen_sink : (pairs new : List (List ℕ × Queued)) (rule : Rule) (s t : Keyed) → record { rule = rule; members = members_in pairs; order = order_of pairs } ≡ s →
    record { rule = rule; members = members_in new; order = order_of new } ≡ t → SinkIn pairs new → Sinks s t
seen_sink pairs new rule s t view after sinks q entry a b stands got =
    let to = sinks q entry a b (subst (λ (x : Keyed). StandsAt x.order q a b) (sym view) stands) (sym (get-members_in new q) ∙ ap (λ (x : Keyed). get x.members q) after ∙ got) in
    (to.0, (to.1.0, (to.1.1.0, subst (λ (x : Keyed). StandsAt x.order q to.0 to.1.0) after to.1.1.1)))
