-- Maps of the code that are seen as the same members, wherever these stand.

use Rattle.std.proofs.Common.{List, None, Option, Some, [], ap, cond, false, refl, subst, sym, true, ℕ, ◌==◌, ◌∙◌, ◌∷◌, ◌≡◌}
use Rattle.std.proofs.lemmas.Option.{none-some}
use Rattle.std.specs.FinMap.{find, get, len, same_map}
use Rattle.std.specs.Ordering.{eq_by_cmp}
use Rattle.std.specs.Prelude.{option_map}
use Rattle.zq_model.proofs.Maps.{place_exact, place_total}
use Rattle.zq_model.specs.Rule.{Rule}
use Rattle.zq_posheap.proofs.Entries.{option_map-cond}
use Rattle.zq_queue.specs.Entries.{bytes_cmp}
use Rattle.zq_queue.specs.Queued.{Queued, without_places}
use Rattle.zq_queue.specs.Sinks.{AreListed}
use Rattle.zq_shard.proofs.AtKeys.{unless_is}
use Rattle.zq_shard.proofs.Members.{entries_at-members_in, get-members_in}
use Rattle.zq_shard.specs.Queues.{AllListed, AreQueues, HasAt, entries_at, entries_in, entries_or_none, members_in, unless_empty, without_places_in}

-- what has the same entries of each key has the same members
pub members_same : (a b : List (List ℕ × Queued)) → ((q : List ℕ) → entries_in a q ≡ entries_in b q) → members_in a ≡ members_in b
members_same a b same =
    same_map place_total place_exact (members_in a) (members_in b) (λ p. get-members_in a p ∙ ap (λ es. get es p.1) (same p.0) ∙ sym (get-members_in b p))

module _ (rule : Rule) (a b : List (List ℕ × Queued)) (first : AreQueues rule a) (second : AreQueues rule b) (same : members_in a ≡ members_in b) where
  entries_same : (q : List ℕ) → entries_in a q ≡ entries_in b q
  entries_same q = sym (entries_at-members_in a q) ∙ ap (λ m. entries_at m q) same ∙ entries_at-members_in b q

  -- what is seen as the same members has the same queues, wherever their members stand
  pub queues_same : (q : List ℕ) → option_map without_places (find bytes_cmp q a) ≡ option_map without_places (find bytes_cmp q b)
  queues_same q = by (find bytes_cmp q a) (find bytes_cmp q b) refl refl (entries_same q)
    where
      by : (x y : Option Queued) → find bytes_cmp q a ≡ x → find bytes_cmp q b ≡ y → entries_or_none x ≡ entries_or_none y → option_map without_places x ≡ option_map without_places y
      by None None e f s = refl
      by None (Some y) e f s = absurd ((second q y f).1 (sym s))
      by (Some x) None e f s = absurd ((first q x e).1 s)
      by (Some x) (Some y) e f s = let rules = (first q x e).0 ∙ sym (second q y f).0 in λ i. Some (record { rule = rules i; entries = s i; places = [] })

-- ---- wherever their members stand

-- the entries of a key are the same
pub entries_without : (o : Option Queued) → entries_or_none (option_map without_places o) ≡ entries_or_none o
entries_without None = refl
entries_without (Some queue) = refl

pub same_without : (a b : Option Queued) → option_map without_places a ≡ option_map without_places b → entries_or_none a ≡ entries_or_none b
same_without a b same = sym (entries_without a) ∙ ap entries_or_none same ∙ entries_without b

pub find-without : (queues : List (List ℕ × Queued)) (q : List ℕ) → find bytes_cmp q (without_places_in queues) ≡ option_map without_places (find bytes_cmp q queues)
find-without [] q = refl
find-without (e ∷ queues) q = ap (cond (eq_by_cmp bytes_cmp q e.0) (Some (without_places e.1))) (find-without queues q)
    ∙ sym (option_map-cond without_places (eq_by_cmp bytes_cmp q e.0) (Some e.1) (find bytes_cmp q queues))

pub members_without : (queues : List (List ℕ × Queued)) → members_in queues ≡ members_in (without_places_in queues)
members_without queues = members_same queues (without_places_in queues) (λ q. sym (ap entries_or_none (find-without queues q) ∙ entries_without (find bytes_cmp q queues)))

unless_without : (queue : Queued) → option_map without_places (unless_empty queue) ≡ unless_empty (without_places queue)
unless_without queue = option_map-cond without_places (len queue.entries == 0) None (Some queue)

-- a change at a key
pub has_without : (k : List ℕ) (queue : Queued) (old new : List (List ℕ × Queued)) → HasAt k (unless_empty queue) old new →
    HasAt k (unless_empty (without_places queue)) (without_places_in old) (without_places_in new)
has_without k queue old new has q =
    find-without new q ∙ ap (option_map without_places) (has q) ∙ option_map-cond without_places (eq_by_cmp bytes_cmp q k) (unless_empty queue) (find bytes_cmp q old)
    ∙ (λ i. cond (eq_by_cmp bytes_cmp q k) (unless_without queue i) (sym (find-without old q) i))

-- a key that is not there
pub none_without : (queues : List (List ℕ × Queued)) (q : List ℕ) → find bytes_cmp q (without_places_in queues) ≡ None → find bytes_cmp q queues ≡ None
none_without queues q none = by (find bytes_cmp q queues) refl (sym (find-without queues q) ∙ none)
  where
    by : (o : Option Queued) → find bytes_cmp q queues ≡ o → option_map without_places o ≡ None → find bytes_cmp q queues ≡ None
    by None is gone = is
    by (Some queue) is gone = absurd (none-some (without_places queue) (sym gone))

-- each queue still has a place for each member where a key's new one has
pub listed_at : (k : List ℕ) (queue : Queued) (old new : List (List ℕ × Queued)) → HasAt k (unless_empty queue) old new → AreListed queue → AllListed old → AllListed new
listed_at k queue old new has listed all key q there =
    elim (eq_by_cmp bytes_cmp key k) as (λ b. cond b (unless_empty queue) (find bytes_cmp key old) ≡ Some q → AreListed q) [
      | true ↦ λ here. subst AreListed (unless_is queue q here).0 listed
      | false ↦ λ elsewhere. all key q elsewhere
    ] (sym (has key) ∙ there)
