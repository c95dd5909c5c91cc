-- What calls answer and do, over the books that they find in the heaps that they hold.

use Rattle.std.specs.List.{range_with_len}
use Rattle.std.specs.Prelude.{List, Result, [], map, ℕ, ◌∷◌, ◌≡◌, ◌⊎◌}
use Rattle.zq_dots.specs.Placed.{Placed}
use Rattle.zq_model.specs.Books.{Book, Step}
use Rattle.zq_model.specs.Reach.{begun}
use Rattle.zq_journal.specs.declared.since.Since.{Since}
use Rattle.zq_model.specs.Heaps.{heap_of}
use Rattle.zq_model.specs.Rule.{Rule}
use Rattle.zq_notes.specs.Notes.{Answer, Asked, Copied, Handed, HandedAll, Joined, Portioned, Replied, RepliedEach, RepliedIf, Shown, TakenOver, ToCopy, ToDrain, ToMerge, ToPortion, ToRun, ToRunEach, ToRunWatched, ToShow, ToTake, ToTakeAll, ToTakeOver, ToTell, Told}
use Rattle.zq_semantics.specs.Doing.{drawn}
use Rattle.zq_semantics.specs.Procedures.{procedure}
use Rattle.zq_shard.specs.Shard.{HeapImage}
use Rattle.zq_spread.specs.Answers.{IsCopied, IsDrained, IsMerged, IsPortioned, IsShown, IsSince, IsTaken, IsTakenOver, read_of}
use Rattle.zq_spread.specs.Batches.{IsTakenAll}
use Rattle.zq_spread.specs.Commanded.{IsAnswered}
use Rattle.zq_spread.specs.Dispatch.{HasNear}
use Rattle.zq_spread.specs.Each.{AreAnswered}
use Rattle.zq_spread.specs.Watching.{AreAnsweredIf}
use Rattle.zq_spread.specs.declared.faults.ReadFault.{ReadFault}
use Rattle.zq_words.specs.Command.{Command}
use Rattle.zq_words.specs.Heaps as named
use Rattle.zq_words.specs.declared.heaps.Heaps.{Heaps}
use Rattle.zq_words.specs.declared.heaps.Heaps.TheVariants.{All, Near, NoHeap, One}

-- the heaps that a call of the command holds, of K: the one of its member; the two that are drawn,
-- where one of them has a member of the key, or all; else all. A command that needs no heap holds
-- none, and leaves no note
abbrev pub AreHeapsFor : Heaps → Rule → ℕ → Command → ℕ → ℕ → List ℕ → List Book → Type 0
AreHeapsFor NoHeap rule K command w1 w2 heaps found = ⊥
AreHeapsFor (One heap) rule K command w1 w2 heaps found = heaps ≡ heap ∷ []
AreHeapsFor Near rule K command w1 w2 heaps found = ((heaps ≡ drawn K w1 w2) × HasNear rule command found) ⊎ (heaps ≡ range_with_len 0 K)
AreHeapsFor All rule K command w1 w2 heaps found = heaps ≡ range_with_len 0 K

-- what a peer of this vector lacks of a heap's book, as a call of this stamp begins with it
abbrev pub IsTold : ℕ → List ℕ → Result Since ReadFault → List Book → List (List Step) → Type 0
IsTold stamp vector result (b ∷ []) (steps ∷ []) =
    read_of (λ (since : Since) (book : Book). IsSince vector since (begun stamp book)) result b
    × (steps ≡ [])
IsTold stamp vector result books steps = ⊥

-- the operation was made among K heaps, and lies in its own
pub record IsOfHeaps (K : ℕ) (p : Placed) : Type 0 where
  pub heaps : p.heaps ≡ K
  pub placed : heap_of p.operation.key p.operation.member K ≡ p.operation.heap

-- the heap is one of as many, and of this rule
pub record IsLike (rule : Rule) (K : ℕ) (s : HeapImage) : Type 0 where
  pub heaps : s.heaps ≡ K
  pub ruled : s.rule ≡ rule

-- what a site of this rule, of K heaps and this number does at a stamp: what it was asked, the
-- heaps that it held, its answer, the books that it found there, and its steps in each. An
-- operation of another number of heaps, and a heap of another number or rule, is refused before any
-- heap is held, and leaves no note
abbrev pub Does : Rule → ℕ → ℕ → ℕ → Asked → List ℕ → Answer → List Book → List (List Step) → Type 0
Does rule K site stamp (ToRun command w1 w2) heaps (Replied reply) found steps =
    AreHeapsFor (named.heaps_of command K) rule K command w1 w2 heaps found
    × IsAnswered rule site stamp command reply found steps
Does rule K site stamp (ToRunEach calls) heaps (RepliedEach replies) found steps =
    (heaps ≡ range_with_len 0 K)
    × AreAnswered rule site stamp (map procedure calls) replies found steps
Does rule K site stamp (ToRunWatched watch calls) heaps (RepliedIf replies) found steps =
    (heaps ≡ range_with_len 0 K)
    × AreAnsweredIf rule site stamp watch (map procedure calls) replies found steps
Does rule K site stamp (ToTake op) heaps (Handed result) found steps =
    (heaps ≡ op.operation.heap ∷ []) × IsTaken stamp op result found steps × IsOfHeaps K op
Does rule K site stamp (ToTakeAll heap ops) heaps (HandedAll answer) found steps =
    (heaps ≡ heap ∷ []) × IsTakenAll stamp ops answer found steps
Does rule K site stamp (ToMerge other) heaps (Joined result) found steps = (heaps ≡ other.heap ∷ [])
    × IsMerged stamp other result found steps × IsLike rule K other
Does rule K site stamp (ToTakeOver other) heaps (TakenOver result) found steps =
    (heaps ≡ other.heap ∷ []) × IsTakenOver stamp other result found steps × IsLike rule K other
Does rule K site stamp (ToTell heap vector) heaps (Told result) found steps = (heaps ≡ heap ∷ [])
    × IsTold stamp vector result found steps
Does rule K site stamp (ToCopy heap) heaps (Copied result) found steps = (heaps ≡ heap ∷ [])
    × IsCopied result found steps
Does rule K site stamp (ToPortion heap spot limits) heaps (Portioned result) found steps =
    (heaps ≡ heap ∷ []) × IsPortioned spot limits result found steps
Does rule K site stamp (ToShow heap) heaps (Shown vector) found steps = (heaps ≡ heap ∷ [])
    × IsShown vector found steps
Does rule K site stamp (ToDrain heap vector most) heaps (Told result) found steps =
    (heaps ≡ heap ∷ []) × IsDrained stamp vector most result found steps
Does rule K site stamp asked heaps answer found steps = ⊥
