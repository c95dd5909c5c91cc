-- What a link thread does with what comes.

use Rattle.std.specs.Prelude.{Bool, Err, List, Ok, Result, [], flat_map, ℕ, ◌∷◌, ◌≡◌}
use Rattle.zq_links.specs.Answer.{Fails, IsOfMemory}
use Rattle.zq_links.specs.Frame.{Frame, frame_of}
use Rattle.zq_links.specs.Reading.{frame_at}
use Rattle.zq_links.specs.Spelling.{IsSpelled}
use Rattle.zq_links.specs.declared.frame.Frame as code
use Rattle.zq_node.specs.Calls.{MadeNoStep}
use Rattle.zq_node.specs.Faults.{IsOwnFault}
use Rattle.zq_node.specs.Hearing.{AreHaves, HasHeard, HasStopped, IsFaultOf, sent_to}
use Rattle.zq_node.specs.Node.{parked_of, pass_of, site_of}
use Rattle.zq_node.specs.declared.faults.NodeFault.{NodeFault}
use Rattle.zq_node.specs.declared.node.Node.{Node}
use Rattle.zq_links.specs.declared.message.Message.{Message}
use Rattle.zq_links.specs.declared.message.Message.TheVariants.{Frame as Framed, Stop, Tick}
use Rattle.zq_peers.specs.Carried.{AreCarried, Carriage}
use Rattle.zq_peers.specs.Witnesses.{IsReported, Telling}
use Rattle.zq_peers.specs.declared.unheard.Unheard.{Unheard}
use Rattle.zq_peers.specs.declared.unheard.Unheard.TheVariants.{Refused, Unread}

-- the frames, to each of these sites in turn
abbrev pub sent_to_each : List ℕ → List Frame → List (ℕ × Frame)
sent_to_each others frames = flat_map (λ to. sent_to to frames) others

-- The site showed what it has, a Have of each heap, and each of these sites was sent all of them.
-- Where the site did not answer, nothing was sent.
abbrev pub Tells : {C : Type 0} → Carriage Frame C → List ℕ → Node → Node → C → C →
    Result Bool NodeFault → Type 0
Tells sends others old new sender after (Ok whole) =
    (frames : List Frame) × AreHaves (site_of old) (pass_of old) (pass_of new) frames
    × (parked_of new ≡ parked_of old)
    × AreCarried sends sender after (sent_to_each others frames) whole
Tells sends others old new sender after (Err fault) =
    IsOwnFault fault × (parked_of new ≡ parked_of old) × MadeNoStep (pass_of old) (pass_of new)
    × (after ≡ sender)

-- The bytes are a frame that the node heard, and what came of it was sent, and nothing else. Where
-- they are no frame nothing changed; where the node refused it nothing was sent.
abbrev pub Hears : {C : Type 0} → Carriage Frame C → List ℕ → Node → Node → C → C →
    Result Bool Unheard → Type 0
Hears sends bytes old new sender after (Ok whole) =
    (frame : code.Frame) × IsSpelled (frame_of frame) bytes
    × ((sent : List (ℕ × Frame)) × HasHeard frame old new sent
    × AreCarried sends sender after sent whole)
Hears sends bytes old new sender after (Err (Unread fault)) =
    Fails (IsOfMemory bytes) fault (frame_at bytes) × (new ≡ old) × (after ≡ sender)
Hears sends bytes old new sender after (Err (Refused fault)) =
    (frame : code.Frame) × IsSpelled (frame_of frame) bytes × IsFaultOf (site_of old) frame fault
    × HasStopped frame old new fault × (after ≡ sender)

-- what a link thread works with: a node, what carries its frames, and who is told of those that it
-- drops
pub record End (C T : Type 0) : Type 0 where
  pub node : Node
  pub carrier : C
  pub witness : T

abbrev pub end_of : {C T : Type 0} → Node → C → T → End C T
end_of node carrier witness = record { node = node; carrier = carrier; witness = witness }

-- At a Tick the other sites were told what this one has. The bytes of a frame were heard, and of a
-- frame that was not heard the witness was told. At Stop nothing was done.
abbrev pub IsMove : {C T : Type 0} → Carriage Frame C → Telling T → List ℕ → End C T → End C T →
    Message → Type 0
IsMove sends tells others old new Tick =
    (new.witness ≡ old.witness)
    × ((result : Result Bool NodeFault)
    × Tells sends others old.node new.node old.carrier new.carrier result)
IsMove sends tells others old new (Framed from bytes) =
    (result : Result Bool Unheard)
    × Hears sends bytes.items old.node new.node old.carrier new.carrier result
    × IsReported tells old.witness from result new.witness
IsMove sends tells others old new Stop = new ≡ old

-- after this message a link thread goes on, whatever came of it
abbrev pub GoesOn : Message → Type 0
GoesOn Tick = Unit {0}
GoesOn (Framed from bytes) = Unit {0}
GoesOn Stop = ⊥

-- what these messages ask for was done, one after the other, and nothing else; the latest stands
-- first, and none is Stop
abbrev pub AreMoves : {C T : Type 0} → Carriage Frame C → Telling T → List ℕ → End C T → End C T →
    List Message → Type 0
AreMoves sends tells others old new [] = new ≡ old
AreMoves {C} {T} sends tells others old new (m ∷ messages) =
    GoesOn m × ((mid : End C T) × AreMoves sends tells others old mid messages
    × IsMove sends tells others mid new m)

-- these messages were taken, one after the other, and no others; the latest stands first
abbrev pub AreTaken : {I : Type 0} → (I → Message → I → Type 0) → I → I → List Message → Type 0
AreTaken gives old new [] = new ≡ old
AreTaken {I} gives old new (m ∷ messages) = (mid : I) × AreTaken gives old mid messages
    × gives mid m new
