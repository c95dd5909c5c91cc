-- What an outbox sends of all the frames that are put.
use Rattle.std.specs.Prelude.{◌≡◌, ℕ, ◌*◌, ◌<◌, ◌≤◌, if◌then◌else◌, List, [], ◌∷◌, ◌++◌, length, map, Option, Some, None}
use Rattle.zq_wire.specs.declared.topic.Topic.{Topic}
use Rattle.zq_wire.specs.Outbox.{Parcels, put_in, waits}
use Rattle.zq_wire.specs.Topic.{heap_of, same_topic}

-- a frame is put, or the one that waits first is taken, if one does
pub data Event : Type 0 where
  Put : (topic : Topic) (frame : List ℕ) → Event
  Taken : Event

abbrev pub rest_of : Parcels → Parcels
rest_of [] = []
rest_of (p ∷ parcels) = parcels

abbrev pub first_of : Parcels → Parcels
first_of [] = []
first_of (p ∷ parcels) = p ∷ []

-- what waits in the end
abbrev pub left_by : Parcels → List Event → Parcels
left_by parcels [] = parcels
left_by parcels (Put topic frame ∷ events) = left_by (put_in topic frame parcels) events
left_by parcels (Taken ∷ events) = left_by (rest_of parcels) events

-- what was taken, in this order
abbrev pub taken_by : Parcels → List Event → Parcels
taken_by parcels [] = []
taken_by parcels (Put topic frame ∷ events) = taken_by (put_in topic frame parcels) events
taken_by parcels (Taken ∷ events) = first_of parcels ++ taken_by (rest_of parcels) events

-- what was put
abbrev pub put_by : List Event → Parcels
put_by [] = []
put_by (Put topic frame ∷ events) = (topic, frame) ∷ put_by events
put_by (Taken ∷ events) = put_by events

-- the frames of a topic
abbrev pub frames_about : Topic → Parcels → List (List ℕ)
frames_about topic [] = []
frames_about topic (p ∷ parcels) = if same_topic p.0 topic then p.1
    ∷ frames_about topic parcels else frames_about topic parcels

-- the first are some of the second, in their order
pub data AreSome : List (List ℕ) → List (List ℕ) → Type 0 where
  Nothing : AreSome [] []
  Left : (frame : List ℕ) (some all : List (List ℕ)) → AreSome some all → AreSome some (frame ∷ all)
  Kept : (frame : List ℕ) (some all : List (List ℕ)) → AreSome some all →
      AreSome (frame ∷ some) (frame ∷ all)

abbrev pub or_last : List ℕ → List (List ℕ) → List ℕ
or_last frame [] = frame
or_last frame (next ∷ frames) = or_last next frames

-- the last of these, if there is one
abbrev pub last_of : List (List ℕ) → Option (List ℕ)
last_of [] = None
last_of (frame ∷ frames) = Some (or_last frame frames)

-- of a topic, what was taken and what waits
abbrev pub sent_about : Topic → List Event → List (List ℕ)
sent_about topic events = frames_about topic (taken_by [] events)
    ++ frames_about topic (left_by [] events)

-- each is of one of these heaps
abbrev pub AreBelow : ℕ → Parcels → Type 0
AreBelow heaps [] = Unit {0}
AreBelow heaps (p ∷ parcels) = (heap_of p.0 < heaps) × AreBelow heaps parcels

-- these are some of what was put, in its order
abbrev pub NoneIsInvented : Type 0
NoneIsInvented =
    (heaps : ℕ) (topic : Topic) (events : List Event) → AreBelow heaps (put_by events) →
    AreSome (sent_about topic events) (frames_about topic (put_by events))

-- and the newest is not lost
abbrev pub NewestIsLast : Type 0
NewestIsLast =
    (heaps : ℕ) (topic : Topic) (events : List Event) → AreBelow heaps (put_by events) →
    last_of (sent_about topic events) ≡ last_of (frames_about topic (put_by events))

-- At most two frames wait of each heap.
abbrev pub WaitFew : Type 0
WaitFew = (heaps : ℕ) (events : List Event) → AreBelow heaps (put_by events) →
    length (left_by [] events) ≤ 2 * heaps

-- the topics that wait
abbrev pub topics_of : Parcels → List Topic
topics_of parcels = map (λ p. p.0) parcels

-- A frame goes where the older one of its topic stood, or last: the topics that wait stay in their
-- order.
abbrev pub KeepsItsPlace : Type 0
KeepsItsPlace =
    (topic : Topic) (frame : List ℕ) (parcels : Parcels)
    → topics_of (put_in topic frame parcels)
    ≡ (if waits topic parcels then topics_of parcels else topics_of parcels ++ topic ∷ [])
