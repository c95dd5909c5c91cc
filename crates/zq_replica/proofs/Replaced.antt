-- A heap that came in pieces and took the place of a site's own.

use Rattle.std.proofs.Common.{Bool, List, None, Option, Some, ap, false, inl, inr, refl, subst, sym, true, zero, ℕ, ⊎_elim, ◌∙◌, ◌≡◌}
use Rattle.zq_links.specs.Pieces.{piece_bytes}
use Rattle.zq_links.specs.declared.frame.Frame.TheVariants as heard
use Rattle.zq_links.specs.declared.piece.Piece.{Piece}
use Rattle.zq_node.specs.declared.node.Node.{Node}
use Rattle.zq_replica.proofs.Asked.{asked_again, not_asked}
use Rattle.zq_replica.specs.Brought.{IsBrought, IsCompleted}
use Rattle.zq_replica.specs.Fence.{IsJudged}
use Rattle.zq_replica.specs.Gathered.{AreTried, HasReplaced, IsAdded, IsBegun, IsFinished, IsGatheringPiece, IsNextOf, IsSettled, IsWholeIn, WereStopped, is_awaited, is_whole}
use Rattle.zq_replica.specs.Nodes.{IsGiven, Shows}
use Rattle.zq_replica.specs.declared.gathering.Gathering.{Gathering}
use Rattle.zq_replica.specs.declared.replica.Replica.{Replica}
use Rattle.zq_shard.specs.Shard.{HeapImage}
use Rattle.zq_stage.specs.Piece.{IsNextPiece}
use Rattle.zq_transfer.specs.Transfer.{Received, after_part, begun_by}

-- it was exchanged
pub by_exchange : (done : Bool) (s t : HeapImage) (a b c : Node) → done ≡ true →
    AreTried done s t a b → IsSettled b c → HasReplaced s a c
by_exchange done s t a b c is tried settled =
    let w = subst (λ (x : Bool). AreTried x s t a b) is tried in record {
      before = a;
      asked = not_asked a;
      times = w.0;
      now = w.1;
      mid = w.2;
      tried = w.3;
      became = inl (b, w.4, settled);
    }

-- or merged
pub by_merge : (done : Bool) (s t : HeapImage) (a b c : Node) → done ≡ false →
    AreTried done s t a b → IsGiven (heard.State t) b c → HasReplaced s a c
by_merge done s t a b c is tried given =
    let w = subst (λ (x : Bool). AreTried x s t a b) is tried in record {
      before = a;
      asked = not_asked a;
      times = w.0;
      now = t;
      mid = b;
      tried = w.1;
      became = inr (inl given);
    }

-- or neither
pub by_neither : (s : HeapImage) (a b : Node) → WereStopped s a b → HasReplaced s a b
by_neither s a b w = record {
  before = a;
  asked = not_asked a;
  times = w.0;
  now = w.1;
  mid = w.2;
  tried = w.3;
  became = inr (inr w.4);
}

replaced_after : (s : HeapImage) (a b c : Node) → Shows a b → HasReplaced s b c → HasReplaced s a c
replaced_after s a b c first r = record {
  before = r.before;
  asked = asked_again a b r.before first r.asked;
  times = r.times;
  now = r.now;
  mid = r.mid;
  tried = r.tried;
  became = r.became;
}

-- the piece was the next one
pub added_next : (peer : ℕ) (p : Piece) (was : Replica) (g h : Gathering)
    (after : Option Gathering) → is_awaited peer p.part.heap was ≡ true →
    was.gathering ≡ Some g → after ≡ Some h → g.from ≡ peer → h.from ≡ g.from →
    IsNextPiece g.receiving.staged p.life p.number p.part →
    h.receiving ≡ after_part p g.receiving → IsAdded peer was p after
added_next peer p was g h after awaited before is from same next taken =
    (h, awaited, is, same ∙ from, subst (λ (o : Option Gathering). IsNextOf peer o p h.receiving) (sym before) (inr (from, next, taken)))

-- or it was the first one
begun_next : (peer : ℕ) (before : Option Gathering) (p : Piece) (r : Received) → p.number ≡ 0 →
    r ≡ begun_by p → IsNextOf peer before p r
begun_next peer None p r first is = (first, is)
begun_next peer (Some g) p r first is = inl (first, is)

pub added_first : (peer : ℕ) (p : Piece) (was : Replica) (after : Option Gathering) →
    is_awaited peer p.part.heap was ≡ true → IsBegun peer p after → IsAdded peer was p after
added_first peer p was after awaited b =
    (b.0, awaited, b.1, b.2, begun_next peer was.gathering p b.0.receiving b.3 b.4)

-- the piece was taken, and with it the heap was whole or not
pub completed_by : (peer : ℕ) (p : Piece) (was : Replica) (came left : Option Gathering)
    (a b : Node) → IsAdded peer was p came → IsFinished came left a b → IsCompleted peer was p a b
completed_by peer p was came left a b added (inl same) =
    inl (subst (λ (n : Node). Shows a n) (sym same.2) (not_asked a))
completed_by peer p was came left a b added (inr w) =
    let whole = subst (λ (g : Option Gathering). IsWholeIn g w.0) added.2 w.1 in
    inr (w.0, (added.0.receiving, added.1, added.4, whole.0, whole.1), w.3)

pub gathered_with : (peer : ℕ) (p : Piece) (was : Replica) (came left : Option Gathering)
    (a b : Node) → IsAdded peer was p came → IsFinished came left a b →
    IsGatheringPiece peer was p left
gathered_with peer p was came left a b added (inl same) =
    inr (inl ((added.0, added.1, same.1 ∙ added.2, added.3, added.4), ap is_whole same.1 ∙ same.0))
gathered_with peer p was came left a b added (inr w) =
    let whole = subst (λ (g : Option Gathering). IsWholeIn g w.0) added.2 w.1 in
    inr (inr (inl (w.0, (added.0.receiving, added.1, added.4, whole.0, whole.1), w.2)))

-- before that the site was judged by the piece, and is free
pub completed_after : (peer : ℕ) (told : ℕ → ℕ) (p : Piece) (a b c : Node) (was mid : Replica)
    (answer : Bool) → answer ≡ false → IsJudged peer told a b was mid answer → Shows a b →
    IsCompleted peer mid p b c → IsCompleted peer was p a c
completed_after peer told p a b c was mid answer is judged first completed =
    let w = subst (λ (x : Bool). IsJudged peer told a b was mid x) is judged in
    after_shows (subst (λ (r : Replica). IsCompleted peer r p b c) w.0 completed)
  where
    after_shows : IsCompleted peer was p b c → IsCompleted peer was p a c
    after_shows (inl shows) = inl (asked_again a b c first shows)
    after_shows (inr v) = inr (v.0, v.1, replaced_after v.0 a b c first v.2)

-- what a piece completes is what its bytes bring
pub brought_by_piece : (peer : ℕ) (was : Replica) (p : Piece) (bytes : List ℕ) (a b : Node) →
    bytes ≡ piece_bytes p → IsCompleted peer was p a b → IsBrought peer was bytes a b
brought_by_piece peer was p bytes a b of (inl shows) = inl shows
brought_by_piece peer was p bytes a b of (inr w) = inr (inr (p, of, w))
