-- What a change of one member's entry at one key makes of the members of a heap.

use Rattle.std.proofs.Common.{List, ap, sym, ℕ, ◌∙◌, ◌≡◌}
use Rattle.zq_model.specs.Image.{Entry, Members, Place, entry_at, put_entry}
use Rattle.zq_model.specs.Rule.{Rule}
use Rattle.zq_queue.specs.Effects.{affected, entries_after}
use Rattle.zq_queue.specs.Entries.{entry_in, set_entry}
use Rattle.zq_queue.specs.Queued.{Queued}
use Rattle.zq_queue.specs.declared.effect.Effect.{Effect}
use Rattle.zq_shard.proofs.AtKeys.{entries_unless}
use Rattle.zq_shard.proofs.Members.{entry_at-members_in, members_set}
use Rattle.zq_shard.specs.Standing.{order_of}
use Rattle.zq_shard.specs.Queues.{HasAt, Keyed, entries_in, members_after, members_in, unless_empty}

module _ (pairs : List (List ℕ × Queued)) (rule : Rule) (s : Keyed) (view : record { rule = rule; members = members_in pairs; order = order_of pairs } ≡ s) (new : List (List ℕ × Queued)) (r : Rule) (ps : List (List ℕ)) where
  members_are : members_in pairs ≡ s.members
  members_are = ap (λ (x : Keyed). x.members) view

  -- a member has another entry
  pub entry_set : (k member : List ℕ) (entry : Entry) →
      HasAt k (unless_empty (record { rule = r; entries = set_entry (entries_in pairs k) member entry; places = ps })) pairs new →
      members_in new ≡ put_entry s.members (k, member) entry
  entry_set k member entry has =
      members_set k member entry _ pairs new has (entries_unless (record { rule = r; entries = set_entry (entries_in pairs k) member entry; places = ps }))
      ∙ ap (λ (m : Members). put_entry m (k, member) entry) members_are

  -- the effect of an operation was taken
  pub effect_taken : (e : Effect) (q : Place) →
      HasAt q.0 (unless_empty (record { rule = r; entries = entries_after e q.1 (entries_in pairs q.0); places = ps })) pairs new →
      members_in new ≡ members_after e q s.members
  effect_taken e q has =
      entry_set q.0 q.1 (affected e (entry_in (entries_in pairs q.0) q.1)) has
      ∙ ap (λ entry. put_entry s.members q (affected e entry)) (sym (entry_at-members_in pairs q) ∙ ap (λ (m : Members). entry_at m q) members_are)
