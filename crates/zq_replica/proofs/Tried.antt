-- What comes of trying to exchange a heap, by what its parts come to.

use Rattle.std.proofs.Common.{Bool, [], false, inl, inr, subst, suc, sym, true, ℕ, ◌≡◌}
use Rattle.std.specs.Prelude.{Err, MatchResult, Ok, OnErr, OnOk, Result, ◌⊎◌}
use Rattle.zq_node.specs.Node.{IsSameHome}
use Rattle.zq_node.specs.Work.{HasWorked, WasStopped}
use Rattle.zq_node.specs.declared.faults.NodeFault.{NodeFault}
use Rattle.zq_node.specs.declared.node.Node.{Node}
use Rattle.zq_replica.proofs.Grown.{not_done}
use Rattle.zq_replica.specs.Gathered.{AreTried, AreTries, HasGrown, IsCame, IsIdle, IsSettled, IsStopped, IsTaken, IsTried, WereStopped}
use Rattle.zq_replica.specs.Nodes.{Shows}
use Rattle.zq_replica.specs.declared.exchanging.Exchange.{Exchange}
use Rattle.zq_replica.specs.declared.exchanging.Exchange.TheVariants.{Done, Lacks, Old}
use Rattle.zq_shard.specs.Shard.{HeapImage}

-- the heap grew, and then the exchange came to this
pub tried_by : (r : Result Exchange NodeFault) (s t u : HeapImage) (a b c : Node) →
    HasGrown s t a b →
    MatchResult r (λ came. IsCame came t u b c) (λ _. IsIdle b c) →
    MatchResult r (λ came. IsTried came s u a c) (λ _. IsStopped a c)
tried_by (Ok Done) s t u a b c grew over = (t, b, grew, over)
tried_by (Ok Lacks) s t u a b c grew came =
    (b, subst (λ (x : HeapImage). HasGrown s x a b) (sym came.0) grew, came.1)
tried_by (Ok Old) s t u a b c grew came =
    (b, subst (λ (x : HeapImage). HasGrown s x a b) (sym came.0) grew, came.1)
tried_by (Err e) s t u a b c grew idle = (b, grew.shows, idle)

-- the exchange was not tried
pub not_tried : (s t : HeapImage) (a b : Node) → HasGrown s t a b → IsTried Old s t a b
not_tried s t a b grew = (b, grew, not_done b)

-- by what came of trying once
pub is_done : (came : Exchange) (s t : HeapImage) (a b : Node) → came ≡ Done →
    IsTried came s t a b → IsTaken s a b
is_done came s t a b is tried = subst (λ (x : Exchange). IsTried x s t a b) is tried

pub is_old : (came : Exchange) (s t : HeapImage) (a b : Node) → came ≡ Old →
    IsTried came s t a b → (grew : Node) × HasGrown s t a grew × IsIdle grew b
is_old came s t a b is tried = subst (λ (x : Exchange). IsTried x s t a b) is tried

pub is_lacking : (came : Exchange) (s t : HeapImage) (a b : Node) → came ≡ Lacks →
    IsTried came s t a b → (grew : Node) × HasGrown s t a grew × IsIdle grew b
is_lacking came s t a b is tried = subst (λ (x : Exchange). IsTried x s t a b) is tried

-- one try more was made
pub one_more : (s t u : HeapImage) (a b c : Node) → (times : ℕ) × AreTries times s t a b →
    (grew : Node) × HasGrown t u b grew × IsIdle grew c → (times : ℕ) × AreTries times s u a c
one_more s t u a b c w more = (suc w.0, (t, b, more.0, w.1, more.1, more.2))

-- so the exchange was done, or given up, or stopped
pub done_after : (s t u : HeapImage) (a b c : Node) → (times : ℕ) × AreTries times s t a b →
    IsTaken t b c → AreTried true s u a c
done_after s t u a b c w taken = (w.0, t, b, w.1, taken)

pub old_after : (s t u : HeapImage) (a b c : Node) → (times : ℕ) × AreTries times s t a b →
    (grew : Node) × HasGrown t u b grew × IsIdle grew c → AreTried false s u a c
old_after s t u a b c w more = one_more s t u a b c w more

pub stopped_in : (s t : HeapImage) (a b c : Node) → (times : ℕ) × AreTries times s t a b →
    IsStopped b c → WereStopped s a c
stopped_in s t a b c w stopped = (w.0, t, b, w.1, stopped)

-- what was parked was tried, to its end or not, and the site was asked alone what it has
pub settled_by : (r : Result (Unit {0}) NodeFault) (a b c : Node) → IsSameHome a b →
    OnOk r (HasWorked [] a b) → OnErr r (WasStopped [] a b) → Shows b c → IsSettled a c
settled_by (Ok x) a b c home work stopped shows = record {
  after = b;
  home = home;
  tried = inl work;
  then_asked = shows;
}
settled_by (Err e) a b c home work stopped shows = record {
  after = b;
  home = home;
  tried = inr stopped;
  then_asked = shows;
}
