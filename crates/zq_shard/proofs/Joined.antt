-- The join of two sides, key by key.

use Rattle.std.proofs.Common.{List, None, Option, Some, ap, ap₂, false, is_some, refl, sym, true, true≢false, ℕ, ◌∙◌, ◌≡◌}
use Rattle.std.proofs.lemmas.Cmp.{nat_list_cmp_total}
use Rattle.std.proofs.lemmas.Map.Lookups.{exact_bytes}
use Rattle.std.specs.FinMap.{empty, find, get, get-empty, same_map}
use Rattle.zq_model.proofs.Entries.{get-join}
use Rattle.zq_model.proofs.Maps.{place_exact, place_total}
use Rattle.zq_model.specs.Image.{join_entry, unless_bare}
use Rattle.zq_model.specs.Rule.{Rule}
use Rattle.zq_queue.proofs.Built.{get-joined_entries, nothing_joined}
use Rattle.zq_queue.specs.Entries.{bytes_cmp, joined_entries}
use Rattle.zq_queue.specs.Queued.{Queued}
use Rattle.zq_shard.proofs.AtKeys.{entries_unless, unless_none}
use Rattle.zq_shard.proofs.Members.{entry_at-members_in, get-members_in}
use Rattle.zq_shard.specs.Queues.{and_then, entries_in, entries_or_none, members_in, members_joined, queue_joined}

-- nothing comes of two keys that are not there
pub none_joined : (rule : Rule) (u v : List ℕ) → queue_joined rule u v None None ≡ None
none_joined rule u v = unless_none _ (same_map nat_list_cmp_total exact_bytes (joined_entries u v empty empty) empty (λ q.
    get-joined_entries u v empty empty q ∙ nothing_joined u v empty empty q (get-empty bytes_cmp q) (get-empty bytes_cmp q) ∙ sym (get-empty bytes_cmp q)))

module _ (rule : Rule) (u v : List ℕ) where
  abbrev pub from_first : Option Queued → Option Queued → Option Queued
  from_first a b = and_then (λ queue. queue_joined rule u v (Some queue) b) a

  -- a key that the first side has was joined already
  pub joined_before : (a b : Option Queued) (y : Queued) → is_some a ≡ true → b ≡ Some y → queue_joined rule u v a (Some y) ≡ from_first a b
  joined_before None b y there is = absurd (true≢false (sym there))
  joined_before (Some x) b y there is = ap (queue_joined rule u v (Some x)) (sym is)

  -- one that it has not begins with nothing
  pub begins_empty : (a b : Option Queued) → is_some a ≡ false → from_first a b ≡ None
  begins_empty None b away = refl
  begins_empty (Some x) b away = absurd (true≢false away)

  -- both loops give the join
  pub both_joined : (a b : Option Queued) (r : Option Queued) → (b ≡ None → r ≡ from_first a b) → ((y : Queued) → b ≡ Some y → r ≡ queue_joined rule u v a (Some y)) → r ≡ queue_joined rule u v a b
  both_joined a (Some y) r first second = second y refl
  both_joined (Some x) None r first second = first refl
  both_joined None None r first second = first refl ∙ sym (none_joined rule u v)

-- the members of queues that are the joins of two sides'
pub members_are_joined : (rule : Rule) (u v : List ℕ) (a b new : List (List ℕ × Queued)) →
    ((q : List ℕ) → find bytes_cmp q new ≡ queue_joined rule u v (find bytes_cmp q a) (find bytes_cmp q b)) → members_in new ≡ members_joined u v (members_in a) (members_in b)
members_are_joined rule u v a b new is =
    same_map place_total place_exact (members_in new) (members_joined u v (members_in a) (members_in b)) (λ p.
    get-members_in new p ∙ ap (λ r. get (entries_or_none r) p.1) (is p.0) ∙ ap (λ es. get es p.1) (entries_unless _)
    ∙ get-joined_entries u v (entries_in a p.0) (entries_in b p.0) p.1
    ∙ ap₂ (λ x y. unless_bare (join_entry u v x y)) (sym (entry_at-members_in a p)) (sym (entry_at-members_in b p))
    ∙ sym (get-join (record { vector = u; members = members_in a }) (record { vector = v; members = members_in b }) p))
