-- The keys of a heap with the queues of their members.

use Rattle.std.specs.Coded.{Coded, code_by, coded×, coded_list, coded_ℕ}
use Rattle.std.specs.FinMap.{empty, find, get, keys, len}
use Rattle.std.specs.Ordering.{eq_by_cmp}
use Rattle.std.specs.Prelude.{List, None, Option, Some, [], flat_map, if◌then◌else◌, ◌==◌, map, option_map, refl, unwrap_or, ℕ, ◌++◌, ◌≡◌, ◌≢◌}
use Rattle.zq_model.specs.Codes.{members_code}
use Rattle.zq_model.specs.Image.{Entry, Members, Place, entry_at, join_entry, map_on, no_additions, place_cmp, put_entry, unless_bare}
use Rattle.zq_model.specs.Rule.{Rule}
use Rattle.zq_queue.specs.Codes.{rule_code}
use Rattle.zq_queue.specs.Effects.{affected}
use Rattle.zq_queue.specs.Entries.{Entries, bytes_cmp, joined_entries}
use Rattle.zq_queue.specs.Queued.{Queued, without_places}
use Rattle.zq_queue.specs.Sinks.{AreListed}
use Rattle.zq_queue.specs.declared.effect.Effect.{Effect}
use Rattle.zq_shard.specs.Standing.{Order}

-- a rule, the members of all keys with their entries, and where they stand
pub record Keyed : Type 0 where
  pub rule : Rule
  pub members : Members
  pub order : Order

abbrev pub keyed_code : Coded Keyed
keyed_code = code_by (Rule × (Members × Order))
    (coded× rule_code (coded× members_code
    (coded_list (coded× (coded_list coded_ℕ) (coded_list (coded_list coded_ℕ))))))
    (λ q. (q.rule, (q.members, q.order)))
    (λ p. record { rule = p.0; members = p.1.0; order = p.1.1 }) (λ _. refl)

abbrev pub entries_or_none : Option Queued → Entries
entries_or_none None = empty
entries_or_none (Some queue) = queue.entries

-- the entries of a key, none where the key is not there
abbrev pub entries_in : List (List ℕ × Queued) → List ℕ → Entries
entries_in queues key = entries_or_none (find bytes_cmp key queues)

-- the members of a key, as places
abbrev pub places_of : (List ℕ × Queued) → List Place
places_of queue = map (λ member. (queue.0, member)) (keys queue.1.entries)

-- the members of all keys with their entries
abbrev pub members_in : List (List ℕ × Queued) → Members
members_in queues = map_on place_cmp (λ q. get (entries_in queues q.0) q.1)
    (flat_map places_of queues)

-- each key's queue has this rule and a place for each member, and a key without members is not
-- there
abbrev pub AreQueues : Rule → List (List ℕ × Queued) → Type 0
AreQueues rule queues = (key : List ℕ) (queue : Queued) → find bytes_cmp key queues ≡ Some queue →
    (queue.rule ≡ rule) × (queue.entries ≢ empty) × AreListed queue

-- the queues are as they were, but for one key, which has this one
abbrev pub HasAt : {X : Type 0} → List ℕ → Option X → List (List ℕ × X) → List (List ℕ × X) → Type 0
HasAt k w old new = (q : List ℕ) → find bytes_cmp q new
    ≡ (if eq_by_cmp bytes_cmp q k then w else find bytes_cmp q old)

-- the queue, where it has members
abbrev pub unless_empty : Queued → Option Queued
unless_empty queue = if len queue.entries == 0 then None else Some queue

-- what f makes of a value that is there
abbrev pub and_then : {X Y : Type 0} → (X → Option Y) → Option X → Option Y
and_then f None = None
and_then f (Some x) = f x

-- the queues, wherever their members stand
abbrev pub without_places_in : List (List ℕ × Queued) → List (List ℕ × Queued)
without_places_in queues = map (λ e. (e.0, without_places e.1)) queues

-- the queue of a key of what two sides have together, where it has members, wherever these stand
abbrev pub queue_joined : Rule → List ℕ → List ℕ → Option Queued → Option Queued → Option Queued
queue_joined rule u v a b =
    unless_empty (record { rule = rule; entries = joined_entries u v (entries_or_none a) (entries_or_none b); places = [] })

-- the members of one key with their entries
abbrev pub entries_at : Members → List ℕ → Entries
entries_at members key = map_on bytes_cmp (λ member. get members (key, member))
    (map (λ q. q.1) (keys members))

-- the members after the effect of a new operation at a place
abbrev pub members_after : Effect → Place → Members → Members
members_after e q members = put_entry members q (affected e (entry_at members q))

-- what two sides with these vectors have together
abbrev pub members_joined : List ℕ → List ℕ → Members → Members → Members
members_joined u v a b =
    map_on place_cmp (λ q. unless_bare (join_entry u v (entry_at a q) (entry_at b q)))
    (keys a ++ keys b)

-- an entry that a member had, without additions where it did not stand
abbrev pub or_none : Option Entry → Entry
or_none entry = unwrap_or entry no_additions

-- the other queues have this one of the key, wherever its members stand
abbrev pub HasSame : List (List ℕ × Queued) → List ℕ → Queued → Type 0
HasSame others key queue =
    option_map without_places (find bytes_cmp key others) ≡ Some (without_places queue)

-- each queue has a place for each member
abbrev pub AllListed : List (List ℕ × Queued) → Type 0
AllListed queues = (key : List ℕ) (queue : Queued) → find bytes_cmp key queues ≡ Some queue →
    AreListed queue
