-- Each member of a heap stands somewhere.

use Rattle.std.proofs.Common.{List, None, Option, Some, [], ap, cond, false, refl, sym, true, ℕ, ◌∙◌, ◌∷◌, ◌≡◌}
use Rattle.std.proofs.lemmas.Map.Lookups.{exact_bytes}
use Rattle.std.proofs.lemmas.Option.{none-some, same_Some}
use Rattle.std.specs.FinMap.{find, get, get-empty}
use Rattle.std.specs.Ordering.{eq_by_cmp}
use Rattle.std.specs.Prelude.{Bool, slice_get, suc}
use Rattle.zq_model.proofs.Maps as maps
use Rattle.zq_model.specs.Rule.{Rule}
use Rattle.zq_queue.specs.Entries.{bytes_cmp}
use Rattle.zq_queue.specs.Queued.{Queued}
use Rattle.zq_shard.proofs.Members.{get-members_in}
use Rattle.zq_shard.proofs.Sinkings.{stand_at}
use Rattle.zq_posheap.proofs.Lists.{mapped_at}
use Rattle.zq_shard.specs.Queues.{AreQueues, Keyed, entries_in, entries_or_none, members_in}
use Rattle.zq_shard.specs.Standing.{StandsAt, order_of}
use Rattle.zq_shard.specs.Walk.{AllStand}

-- what is found of a key has an index
pub found_at : {X : Type 0} (pairs : List (List ℕ × X)) (k : List ℕ) (x : X) → find bytes_cmp k pairs ≡ Some x → (i : ℕ) × (slice_get pairs i ≡ Some (k, x))
found_at [] k x is = absurd (none-some x is)
found_at (e ∷ pairs) k x is = by (eq_by_cmp bytes_cmp k e.0) refl (found_at pairs k x)
  where
    by : (b : Bool) → eq_by_cmp bytes_cmp k e.0 ≡ b → (find bytes_cmp k pairs ≡ Some x → (i : ℕ) × (slice_get pairs i ≡ Some (k, x))) → (i : ℕ) × (slice_get (e ∷ pairs) i ≡ Some (k, x))
    by true here later =
        let key = maps.same_key exact_bytes k e.0 here in
        let value = same_Some e.1 x (sym (ap (λ b. cond b (Some e.1) (find bytes_cmp k pairs)) here) ∙ is) in
        (0, λ i. Some (sym key i, value i))
    by false away later =
        let rest = later (sym (ap (λ b. cond b (Some e.1) (find bytes_cmp k pairs)) away) ∙ is) in (suc rest.0, rest.1)

pub all_stand : (rule : Rule) (pairs : List (List ℕ × Queued)) → AreQueues rule pairs → AllStand (members_in pairs) (order_of pairs)
all_stand rule pairs are q entry got = by (find bytes_cmp q.0 pairs) refl
  where
    got_in : get (entries_in pairs q.0) q.1 ≡ Some entry
    got_in = sym (get-members_in pairs q) ∙ got

    by : (o : Option Queued) → find bytes_cmp q.0 pairs ≡ o → (key : ℕ) × ((member : ℕ) × StandsAt (order_of pairs) q key member)
    by None none = absurd (none-some entry (sym (ap (λ r. get (entries_or_none r) q.1) none ∙ get-empty bytes_cmp q.1) ∙ got_in))
    by (Some queue) some =
        let at = found_at pairs q.0 queue some in
        let j = (are q.0 queue some).2 q.1 entry (sym (ap (λ r. get (entries_or_none r) q.1) some) ∙ got_in) in
        (at.0, (j.0, stand_at pairs q at.0 j.0 queue at.1 j.1))

-- the names of a key at its number
pub named_at : (rule : Rule) (pairs : List (List ℕ × Queued)) (s : Keyed) (i : ℕ) (key : List ℕ) (queue : Queued) → record { rule = rule; members = members_in pairs; order = order_of pairs } ≡ s →
    slice_get pairs i ≡ Some (key, queue) → slice_get s.order i ≡ Some (key, queue.places)
named_at rule pairs s i key queue view at = ap (λ (x : Keyed). slice_get x.order i) (sym view) ∙ mapped_at (λ e. (e.0, e.1.places)) pairs i (key, queue) at
