-- Asking a site what it has, one time after the other.

use Rattle.std.proofs.Common.{inl, inr, refl, ◌∙◌}
use Rattle.std.specs.Prelude.{Err, IfErr, List, Ok, OnOk, Result, ℕ}
use Rattle.zq_dots.specs.Placed.{Placed}
use Rattle.zq_links.specs.Batch.{IsOneOf}
use Rattle.zq_links.specs.Frame.{frame_of}
use Rattle.zq_links.specs.declared.frame.Frame as code
use Rattle.zq_node.specs.Batches.{HasHeardAll, WasStoppedIn}
use Rattle.zq_node.specs.declared.faults.NodeFault.{NodeFault}
use Rattle.zq_node.specs.declared.node.Node.{Node}
use Rattle.zq_replica.specs.Brought.{IsBrought}
use Rattle.zq_replica.specs.Nodes.{Heard, Hears, IsGiven, IsOpsOf, Shows}
use Rattle.zq_replica.specs.declared.replica.Replica.{Replica}

-- nothing was asked
pub not_asked : (a : Node) → Shows a a
not_asked a = record { home = refl; parked = refl; took_nothing = λ h. refl }

-- it was asked, and then asked again
pub asked_again : (a b c : Node) → Shows a b → Shows b c → Shows a c
asked_again a b c first then = record {
  home = then.home ∙ first.home;
  parked = then.parked ∙ first.parked;
  took_nothing = λ h. then.took_nothing h ∙ first.took_nothing h;
}

-- a frame was heard, and before and after that it was asked
pub heard_between : (frame : code.Frame) (a b h n : Node) → Shows a b → Hears frame b h → Shows h n
    → Heard frame a n
heard_between frame a b h n first heard then = record {
  before = b;
  asked = first;
  after = h;
  heard = heard;
  then_asked = then;
}

-- the operations of a frame were heard, all of them or as far as it came
pub ops_heard : (frame : code.Frame) (ops : List Placed) (old new : Node)
    (r : Result (Unit {0}) NodeFault) → IsOpsOf frame ops → OnOk r (HasHeardAll ops old new)
    → IfErr r (WasStoppedIn ops old new) → Hears frame old new
ops_heard frame ops old new (Ok done) of heard stopped = inr (inr (ops, of, inl heard))
ops_heard frame ops old new (Err why) of heard stopped = inr (inr (ops, of, inr (why, stopped)))

-- it was asked before a frame was heard
pub asked_before : (frame : code.Frame) (a b n : Node) → Shows a b → Heard frame b n
    → Heard frame a n
asked_before frame a b n first heard = record {
  before = heard.before;
  asked = asked_again a b heard.before first heard.asked;
  after = heard.after;
  heard = heard.heard;
  then_asked = heard.then_asked;
}

-- it was asked after a frame was heard
pub asked_after : (frame : code.Frame) (a b n : Node) → Heard frame a b → Shows b n
    → Heard frame a n
asked_after frame a b n heard then = record {
  before = heard.before;
  asked = heard.asked;
  after = heard.after;
  heard = heard.heard;
  then_asked = asked_again heard.after b n heard.then_asked then;
}

-- it was asked before it took what a frame brings
pub given_after : (frame : code.Frame) (a b n : Node) → Shows a b → IsGiven frame b n
    → IsGiven frame a n
given_after frame a b n first (inl shows) = inl (asked_again a b n first shows)
given_after frame a b n first (inr heard) = inr (asked_before frame a b n first heard)

-- what a frame brings is what its bytes bring
pub brought_by : (peer : ℕ) (was : Replica) (frame : code.Frame) (bytes : List ℕ)
    (old new : Node) → IsOneOf (frame_of frame) bytes → IsGiven frame old new →
    IsBrought peer was bytes old new
brought_by peer was frame bytes old new of (inl shows) = inl shows
brought_by peer was frame bytes old new of (inr heard) = inr (inl (frame, of, heard))
