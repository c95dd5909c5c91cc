-- What sets answer: equal sets answer alike, and what they answer is read off them. What joins of their images are.

use Rattle.std.proofs.Common.{List, ap, arith, max, slice_index, ℕ, ◌<◌, ◌≡◌, true}
use Rattle.std.specs.Prelude.{map}
use Rattle.zq_model.proofs.MeantQueues.{whole_queue_is, whole_queue_one}
use Rattle.zq_model.proofs.Same.{image_of-same}
use Rattle.zq_model.proofs.Sites.{by_site-at}
use Rattle.zq_model.proofs.Taken.{covers_from}
use Rattle.zq_model.specs.Image.{Image, join}
use Rattle.zq_model.specs.Meaning.{IsWholeQueue}
use Rattle.zq_model.specs.Operation.{Operation}
use Rattle.zq_model.specs.Queue.{queue_of}
use Rattle.zq_model.specs.Rule.{Rule}
use Rattle.zq_model.specs.Sets.{AreSame, IsWorld, covers}
use Rattle.zq_model.specs.Moves.{Queues}
use Rattle.zq_semantics.specs.Reading.{answer_of, answer_over, heaps_in, queues_over}
use Rattle.zq_words.specs.Command.{command_of}
use Rattle.zq_words.specs.Words.{Word}

pub same_over : (rule : Rule) (K : ℕ) (S T : List Operation) (heaps : List ℕ) → IsWorld K S → AreSame S T → queues_over rule S heaps ≡ queues_over rule T heaps
same_over rule K S T heaps world same = λ i key. queue_of rule key (map (λ h. (image_of-same K S T h same world i).members) heaps)

pub same_answers : (rule : Rule) (K : ℕ) (S T : List Operation) (words : List Word) → IsWorld K S → AreSame S T → answer_of rule K S words ≡ answer_of rule K T words
same_answers rule K S T words world same = ap (λ queues. answer_over queues (command_of words)) (same_over rule K S T (heaps_in K) world same)

-- queues that the set means are those of its images
pub meant_over : (rule : Rule) (K : ℕ) (S : List Operation) (queues : Queues) → IsWorld K S → 0 < K → ((key : List ℕ) → IsWholeQueue rule S key (queues key)) →
    queues_over rule S (heaps_in K) ≡ queues
meant_over rule K S queues world some are = λ i key.
    whole_queue_one rule S S key (queues_over rule S (heaps_in K) key) (queues key) (λ x m is. is) (λ x m is. is) (whole_queue_is rule K S key world some) (are key) i

pub answers_meant : (rule : Rule) (K : ℕ) (S : List Operation) (words : List Word) (queues : Queues) → IsWorld K S → 0 < K → ((key : List ℕ) → IsWholeQueue rule S key (queues key)) →
    answer_of rule K S words ≡ answer_over queues (command_of words)
answers_meant rule K S words queues world some are = ap (λ q. answer_over q (command_of words)) (meant_over rule K S queues world some are)

-- ---- the vector of a join

pub covers_first : (a b : Image) → covers (join a b).vector a.vector ≡ true
covers_first a b = covers_from (join a b).vector a.vector (λ t below.
    let is = by_site-at (λ r. max (slice_index a.vector r) (slice_index b.vector r)) t 0 below in omega (arith, is))

pub covers_second : (a b : Image) → covers (join a b).vector b.vector ≡ true
covers_second a b = covers_from (join a b).vector b.vector (λ t below.
    let is = by_site-at (λ r. max (slice_index a.vector r) (slice_index b.vector r)) t 0 below in omega (arith, is))
