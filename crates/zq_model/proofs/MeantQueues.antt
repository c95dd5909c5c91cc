-- The queue of the images of some heaps is the queue that the set means.
use Rattle.std.proofs.Common.{◌≡◌, ◌<◌, ℕ, ℤ, List, Some, map, refl, subst, sym, ap, ◌∙◌, arith, mod-lt}
use Rattle.std.specs.List.{range_with_len}
use Rattle.zq_model.proofs.Listing.{in_map_from}
use Rattle.zq_model.proofs.Maps.{in_map}
use Rattle.zq_model.proofs.Membership.{in_range_with_len}
use Rattle.zq_model.proofs.Queued.{queued_score, score_queued}
use Rattle.zq_model.proofs.Rising.{rising_keys, rising_one}
use Rattle.zq_model.proofs.MeantScores.{score_heap, score_in, score_is, score_there}
use Rattle.zq_model.specs.Heaps.{heap_of}
use Rattle.zq_model.specs.Image.{Members, entry_at, image_of}
use Rattle.zq_model.specs.Meaning.{IsQueue, IsScore, IsWholeQueue, Scored}
use Rattle.zq_model.specs.Operation.{Operation}
use Rattle.zq_model.specs.Queue.{queue_of}
use Rattle.zq_model.specs.Rule.{Rule}
use Rattle.zq_model.specs.Score.{score_of}
use Rattle.zq_model.specs.Sets.{IsIn, IsWorld}

-- the members of a heap in the image of a set
abbrev pub members_of : List Operation → ℕ → Members
members_of S h = (image_of S h).members

module _ (rule : Rule) (K : ℕ) (S : List Operation) (key heaps : List ℕ) (world : IsWorld K S) where
  queued_means : (x : ℤ) (m : List ℕ) → IsIn (x, m) (queue_of rule key (map (members_of S) heaps)) → IsIn (heap_of key m K) heaps × IsScore rule S key m x
  queued_means x m here =
      let found = queued_score rule key (map (members_of S) heaps) x m here in
      let heap = in_map_from (members_of S) found.0 heaps found.1 in
      let inside : score_in rule S heap.0 key m ≡ Some x = ap (λ a. score_of rule (entry_at a (key, m))) heap.2 ∙ found.2 in
      (subst (λ h. IsIn h heaps) (sym (score_heap rule K S heap.0 key m world x inside)) heap.1, score_is rule K S heap.0 key m world x inside)

  means_queued : (x : ℤ) (m : List ℕ) → IsIn (heap_of key m K) heaps → IsScore rule S key m x → IsIn (x, m) (queue_of rule key (map (members_of S) heaps))
  means_queued x m named means =
      let h = heap_of key m K in
      score_queued rule key (map (members_of S) heaps) x m (members_of S h) (in_map (members_of S) h heaps named) (score_there rule K S h key m world x refl means)

  pub queue_is : IsQueue rule K S key heaps (queue_of rule key (map (members_of S) heaps))
  queue_is = record { rising = rising_keys _; members = λ x m. (queued_means x m, λ both. means_queued x m both.0 both.1) }

pub queue_one : (rule : Rule) (K : ℕ) (S : List Operation) (key heaps : List ℕ) (q r : List Scored) → IsQueue rule K S key heaps q → IsQueue rule K S key heaps r → q ≡ r
queue_one rule K S key heaps q r a b = rising_one q r a.rising b.rising
    (λ z here. (b.members z.0 z.1).1 ((a.members z.0 z.1).0 here)) (λ z here. (a.members z.0 z.1).1 ((b.members z.0 z.1).0 here))

-- two sets of the same scores have the same queues
pub whole_queue_one : (rule : Rule) (S T : List Operation) (key : List ℕ) (q r : List Scored) → ((x : ℤ) (m : List ℕ) → IsScore rule S key m x → IsScore rule T key m x) →
    ((x : ℤ) (m : List ℕ) → IsScore rule T key m x → IsScore rule S key m x) → IsWholeQueue rule S key q → IsWholeQueue rule T key r → q ≡ r
whole_queue_one rule S T key q r forth back a b = rising_one q r a.rising b.rising
    (λ z here. (b.members z.0 z.1).1 (forth z.0 z.1 ((a.members z.0 z.1).0 here))) (λ z here. (a.members z.0 z.1).1 (back z.0 z.1 ((b.members z.0 z.1).0 here)))

pub heap_in_range : (key m : List ℕ) (K : ℕ) → 0 < K → heap_of key m K < K
unfolding heap_of
heap_in_range key m K some = mod-lt _ some

-- the queue of the images of all heaps is the whole queue
pub whole_queue_is : (rule : Rule) (K : ℕ) (S : List Operation) (key : List ℕ) → IsWorld K S → 0 < K → IsWholeQueue rule S key (queue_of rule key (map (members_of S) (range_with_len 0 K)))
whole_queue_is rule K S key world some =
    let q = queue_is rule K S key (range_with_len 0 K) world in
    record {
      rising = q.rising;
      members = λ x m. (
        λ here. ((q.members x m).0 here).1,
        λ means. (q.members x m).1 (in_range_with_len 0 K (heap_of key m K) (omega arith) (omega (arith, heap_in_range key m K some)), means),
      );
    }
