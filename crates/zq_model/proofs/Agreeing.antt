-- Lists of the same operations mean the same scores and the same queues.
use Rattle.std.proofs.Common.{◌≡◌, ℕ, ℤ, List, refl, sym, ap, ◌∙◌}
use Rattle.zq_model.proofs.MeantQueues.{whole_queue_one}
use Rattle.zq_model.proofs.MeantScores.{score_is, score_there}
use Rattle.zq_model.proofs.Same.{image_of-same}
use Rattle.zq_model.proofs.Worlds.{world_part}
use Rattle.zq_model.specs.Heaps.{heap_of}
use Rattle.zq_model.specs.Image.{Image, entry_at}
use Rattle.zq_model.specs.Meaning.{IsScore, IsWholeQueue, Scored}
use Rattle.zq_model.specs.Operation.{Operation}
use Rattle.zq_model.specs.Rule.{Rule}
use Rattle.zq_model.specs.Score.{score_of}
use Rattle.zq_model.specs.Sets.{AreSame, IsWorld}

pub same_scores : (rule : Rule) (K : ℕ) (S T : List Operation) (k m : List ℕ) (x : ℤ) → IsWorld K S → AreSame S T → IsScore rule S k m x → IsScore rule T k m x
same_scores rule K S T k m x world same means =
    let h = heap_of k m K in
    let image = ap (λ (a : Image). score_of rule (entry_at a.members (k, m))) (image_of-same K S T h same world) in
    score_is rule K T h k m (world_part K T S same.back world) x (sym image ∙ score_there rule K S h k m world x refl means)

AreSame-back : (S T : List Operation) → AreSame S T → AreSame T S
AreSame-back S T same = record { forth = same.back; back = same.forth }

pub same_queues : (rule : Rule) (K : ℕ) (S T : List Operation) (key : List ℕ) (q r : List Scored) → IsWorld K S → AreSame S T → IsWholeQueue rule S key q → IsWholeQueue rule T key r → q ≡ r
same_queues rule K S T key q r world same =
    whole_queue_one rule S T key q r
    (λ x m. same_scores rule K S T key m x world same)
    (λ x m. same_scores rule K T S key m x (world_part K T S same.back world) (AreSame-back S T same))
