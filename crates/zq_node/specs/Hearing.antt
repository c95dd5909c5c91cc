-- What hearing a frame does, and what is sent then.

use Rattle.std.specs.Prelude.{IfSome, List, MatchBool, None, Option, Some, [], if◌then◌else◌, length, map, option_to_list, slice_get, take, true, ℕ, ◌+◌, ◌++◌, ◌<◌, ◌∷◌, ◌≡◌, ◌≢◌, ◌≤◌, ◌⊎◌}
use Rattle.zq_dots.specs.Placed.{Placed}
use Rattle.zq_dots.specs.Rule.{rule_of}
use Rattle.zq_links.specs.Frame.{Frame, Have, OfHave, OfOps, OfState, frame_of, have_of}
use Rattle.zq_links.specs.declared.frame.Frame as code
use Rattle.zq_links.specs.declared.frame.Frame.TheVariants as heard
use Rattle.zq_journal.specs.declared.since.Since.{Since}
use Rattle.zq_journal.specs.declared.since.Since.TheVariants.{Ops, TooOld}
use Rattle.zq_model.specs.Rule.{Rule}
use Rattle.zq_model.specs.Sets.{IsIn, covers}
use Rattle.zq_node.specs.Calls.{AreCalled, Asked, Call, Copied, IsCalled, MadeNoStep, Merged, Saw}
use Rattle.zq_node.specs.Faults.{IsOwnFault}
use Rattle.zq_node.specs.Limits.{MOST_TOLD}
use Rattle.zq_node.specs.Node.{parked_of, pass_of, site_of}
use Rattle.zq_node.specs.Work.{AllWait, AreTurns, HasWorked, IsHeard, IsWork, WasShort, WasStopped, WasWorn}
use Rattle.zq_node.specs.declared.faults.NodeFault.{NodeFault}
use Rattle.zq_node.specs.declared.faults.NodeFault.TheVariants as fault
use Rattle.zq_node.specs.declared.node.Node.{Node}
use Rattle.zq_shard.specs.Shard.{HeapImage}
use Rattle.zq_spread.specs.Calls.{HasSeenBook, IsOfSite, heaps_of}
use Rattle.zq_spread.specs.declared.pass.Pass.{Pass}
use Rattle.zq_spread.specs.declared.site.Site.{Site}

-- ---- whether a frame is for this site

-- it is one of the site's heaps, among as many
abbrev pub IsHeapOf : Site → ℕ → ℕ → Type 0
IsHeapOf site heap heaps = (heaps ≡ heaps_of site) × (heap < heaps_of site)

-- it names a heap of the site, or operations that lie in such
abbrev pub IsForSite : Site → code.Frame → Type 0
IsForSite site (heard.Have h) = IsHeapOf site h.heap h.heaps
IsForSite site (heard.Ops ops) = (o : Placed) → IsIn o ops.items → IsOfSite site o
IsForSite site (heard.State s) = IsHeapOf site s.heap s.heaps

-- its rule is the site's; operations have none
abbrev pub HasSiteRule : Site → code.Frame → Type 0
HasSiteRule site (heard.Have h) = rule_of h.rule ≡ rule_of site.rule
HasSiteRule site (heard.Ops ops) = Unit {0}
HasSiteRule site (heard.State s) = s.rule ≡ rule_of site.rule

-- it is of one heap, and judged before anything is done
abbrev pub IsOfOneHeap : code.Frame → Type 0
IsOfOneHeap (heard.Have h) = Unit {0}
IsOfOneHeap (heard.Ops ops) = ⊥
IsOfOneHeap (heard.State s) = Unit {0}

-- why a frame of one heap is refused: WrongHeap where it is not for the site, WrongRule where it is
-- and its rule is another; else it is the site's own fault
abbrev pub IsRefusedFor : Site → code.Frame → NodeFault → Type 0
IsRefusedFor site frame fault.WrongHeap = IsForSite site frame → ⊥
IsRefusedFor site frame fault.WrongRule = IsForSite site frame × (HasSiteRule site frame → ⊥)
IsRefusedFor site frame fault.Worn = IsForSite site frame × HasSiteRule site frame
IsRefusedFor site frame fault.NoMemory = IsForSite site frame × HasSiteRule site frame

-- why operations are heard no further, by the one whose turn it is: WrongHeap where that is not the
-- site's, and else the site's own fault; and so it is after the last one
abbrev pub IsStopOf : Site → Option Placed → NodeFault → Type 0
IsStopOf site None why = IsOwnFault why
IsStopOf site (Some o) fault.WrongHeap = IsOfSite site o → ⊥
IsStopOf site (Some o) fault.WrongRule = ⊥
IsStopOf site (Some o) fault.Worn = IsOfSite site o
IsStopOf site (Some o) fault.NoMemory = IsOfSite site o

-- where operations are heard no further: all those before are the site's
pub record StopsAt (site : Site) (ops : List Placed) (why : NodeFault) : Type 0 where
  pub at : ℕ
  pub within : at ≤ length ops
  pub before : (o : Placed) → IsIn o (take at ops) → IsOfSite site o
  pub stop : IsStopOf site (slice_get ops at) why

-- why a frame was not heard to its end
abbrev pub IsFaultOf : Site → code.Frame → NodeFault → Type 0
IsFaultOf site (heard.Have h) why = IsRefusedFor site (heard.Have h) why
IsFaultOf site (heard.Ops ops) why = StopsAt site ops.items why
IsFaultOf site (heard.State s) why = IsRefusedFor site (heard.State s) why

-- why a heap of this number, among so many, with this rule is refused
abbrev pub IsNotFor : Site → ℕ → ℕ → Rule → NodeFault → Type 0
IsNotFor site heap heaps rule fault.WrongHeap = IsHeapOf site heap heaps → ⊥
IsNotFor site heap heaps rule fault.WrongRule = IsHeapOf site heap heaps
    × (rule ≢ rule_of site.rule)
IsNotFor site heap heaps rule fault.Worn = ⊥
IsNotFor site heap heaps rule fault.NoMemory = ⊥

-- ---- what is sent

-- by the site's answer to what a peer lacks: these operations, or the whole heap
abbrev pub IsSince : Site → Pass → Pass → ℕ → Since → Frame → Type 0
IsSince site before after heap (Ops ops) frame = (after ≡ before)
    × (frame ≡ OfOps (take MOST_TOLD ops.items))
IsSince site before after heap TooOld frame = (shard : HeapImage)
    × IsCalled site before after (Copied heap shard) × (frame ≡ OfState shard)

-- the site was asked what a peer of this vector lacks of the heap, and this frame tells it
pub record IsTold (site : Site) (before after : Pass) (heap : ℕ) (theirs : List ℕ)
    (frame : Frame) : Type 0 where
  pub answer : Since
  pub asked : Pass
  pub called : IsCalled site before asked (Asked heap theirs answer)
  pub told : IsSince site asked after heap answer frame

-- a peer that has all of the vector is told nothing, and the site is not asked; another is told
-- what it lacks
abbrev pub IsToldOf : Site → Pass → Pass → ℕ → List ℕ → List ℕ → Option Frame → Type 0
IsToldOf site before after heap theirs vector told =
    MatchBool (covers theirs vector) ((after ≡ before) × (told ≡ None))
    ((frame : Frame) × (told ≡ Some frame) × IsTold site before after heap theirs frame)

-- what the site has of one of its heaps
abbrev pub have_at : Site → ℕ → List ℕ → Have
have_at site heap vector =
    record { from = site.number; heap = heap; heaps = heaps_of site; rule = rule_of site.rule; vector = vector }

-- which is sent where it lacks something that the peer has
abbrev pub own_have : Site → ℕ → List ℕ → List ℕ → Option Frame
own_have site heap theirs vector =
    if covers vector theirs then None else Some (OfHave (have_at site heap vector))

-- the frames, each to this site
abbrev pub sent_to : ℕ → List Frame → List (ℕ × Frame)
sent_to to frames = map (λ f. (to, f)) frames

-- what is sent, apart from how the code has it
abbrev pub sent_of : List (ℕ × code.Frame) → List (ℕ × Frame)
sent_of sent = map (λ s. (s.0, frame_of s.1)) sent

-- the site showed its vector of the heap; then the peer is told what it lacks of that, and after it
-- the site's vector where it lacks some of the peer's, and nothing else is sent
pub record IsHaveHeard (site : Site) (h : Have) (before after : Pass)
    (sent : List (ℕ × Frame)) : Type 0 where
  pub vector : List ℕ
  pub shown : Pass
  pub saw : IsCalled site before shown (Saw h.heap vector)
  pub told : Option Frame
  pub told_is : IsToldOf site shown after h.heap h.vector vector told
  pub sent_is : sent ≡ sent_to h.from
      (option_to_list told ++ option_to_list (own_have site h.heap h.vector vector))

-- the node was handed these operations in turn, and then tried all that is parked: each of them is
-- known, parked or dropped, and those that are parked wait
pub record AreOpsHeard (ops : List Placed) (old new : Node) : Type 0 where
  pub work : HasWorked ops old new
  pub heard : Node
  pub turns : AreTurns ops old heard
  pub tried : HasWorked [] heard new
  pub each : (o : Placed) → IsIn o ops → IsHeard ops old new o
  pub wait : AllWait new

-- the heap was merged, so that the vector that the pass has seen covers its, and those that are
-- parked wait
pub record IsStateHeard (s : HeapImage) (old new : Node) : Type 0 where
  pub merged : Pass
  pub called : IsCalled (site_of old) (pass_of old) merged (Merged s)
  pub work : IsWork (site_of old) [] (parked_of old) (parked_of new) merged (pass_of new)
  pub covered : HasSeenBook (pass_of new) s.heap (λ b. covers b.state.vector s.image.vector ≡ true)
  pub wait : AllWait new

-- what hearing the frame does where it is heard to its end, and what is sent
abbrev pub HasHeard : code.Frame → Node → Node → List (ℕ × Frame) → Type 0
HasHeard (heard.Have h) old new sent = (parked_of new ≡ parked_of old)
    × IsHaveHeard (site_of old) (have_of h) (pass_of old) (pass_of new) sent
HasHeard (heard.Ops ops) old new sent = (sent ≡ []) × AreOpsHeard ops.items old new
HasHeard (heard.State s) old new sent = (sent ≡ []) × IsStateHeard s old new

-- the merge was refused, or what came after it
abbrev pub IsStateStopped : HeapImage → Node → Node → Type 0
IsStateStopped s old new =
    ((parked_of new ≡ parked_of old) × MadeNoStep (pass_of old) (pass_of new)) ⊎
    ((merged : Pass) × IsCalled (site_of old) (pass_of old) merged (Merged s) ×
    ((mid : Pass) × IsWork (site_of old) [] (parked_of old) (parked_of new) merged mid
    × MadeNoStep mid (pass_of new)))

-- the node was handed these operations in turn as far as the one at which it stopped, or it stopped
-- after the last one: what was taken or parked before stays, and one that is not the site's changes
-- nothing
pub record AreOpsStopped (ops : List Placed) (old new : Node) (why : NodeFault) : Type 0 where
  pub place : StopsAt (site_of old) ops why
  pub heard : Node
  pub turns : AreTurns (take place.at ops) old heard
  pub stopped : WasStopped (option_to_list (slice_get ops place.at)) heard new
  pub unheard : why ≡ fault.WrongHeap → new ≡ heard
  pub short : why ≡ fault.NoMemory → IfSome (slice_get ops place.at) (λ o. WasShort o heard new)
  pub worn : why ≡ fault.Worn → IfSome (slice_get ops place.at) (λ o. WasWorn o heard new)

-- what stands where it is not heard to its end
abbrev pub HasStopped : code.Frame → Node → Node → NodeFault → Type 0
HasStopped (heard.Have h) old new why = (parked_of new ≡ parked_of old)
    × MadeNoStep (pass_of old) (pass_of new)
HasStopped (heard.Ops ops) old new why = AreOpsStopped ops.items old new why
HasStopped (heard.State s) old new why = IsStateStopped s old new

-- ---- what is sent to each peer in turn

-- the vectors of the heaps from this one on were shown
abbrev pub shown_from : ℕ → List (List ℕ) → List Call
shown_from h [] = []
shown_from h (vector ∷ vectors) = Saw h vector ∷ shown_from (h + 1) vectors

abbrev pub haves_from : Site → ℕ → List (List ℕ) → List Frame
haves_from site h [] = []
haves_from site h (vector ∷ vectors) = OfHave (have_at site h vector)
    ∷ haves_from site (h + 1) vectors

-- the site showed the vector of each of its heaps, in rising order, and these frames say what it
-- has there
pub record AreHaves (site : Site) (before after : Pass) (frames : List Frame) : Type 0 where
  pub vectors : List (List ℕ)
  pub each : length vectors ≡ heaps_of site
  pub called : AreCalled site before after (shown_from 0 vectors)
  pub frames_are : frames ≡ haves_from site 0 vectors
