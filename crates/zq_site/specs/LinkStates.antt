-- The link to a peer, and what waits for it.

use Rattle.std.specs.Prelude.{Bool, List, None, Option, Some, [], false, if◌then◌else◌, is_some, nat_le, nat_lt, not, option_map, true, ℕ, ◌%◌, ◌&&◌, ◌+◌, ◌++◌, ◌==◌, ◌^◌, ◌∷◌, ◌≡◌, ◌⊎◌}
use Rattle.zq_links.specs.About.{topic_at}
use Rattle.zq_replica.specs.declared.protocol.Protocol.{Protocol}
use Rattle.zq_replica.specs.declared.protocol.Protocol.TheVariants.{Asking, Pushing, Streaming}
use Rattle.zq_site.specs.FrameQueues.{bytes_of, is_empty}
use Rattle.zq_site.specs.Heartbeat.{heartbeat}
use Rattle.zq_site.specs.declared.link_state.Connection.{Connection}
use Rattle.zq_site.specs.declared.link_state.LinkState.{LinkState}
use Rattle.zq_wire.specs.Outbox.{Parcels, Waiting, put_in}
use Rattle.zq_wire.specs.Topic.{heap_of}
use Rattle.zq_wire.specs.declared.topic.Topic.{Topic}

-- nothing waits any more
abbrev pub cleared : Waiting → Waiting
cleared outbox = record { heaps = outbox.heaps; parcels = [] }

-- nothing waits any more of any kind, and nothing is being written
abbrev pub cleared_all : {S : Type 0} → LinkState S → LinkState S
cleared_all state = record state { outbox = cleared state.outbox; queue = []; is_busy = false }

-- no link, and nothing waits
abbrev pub fresh : {S : Type 0} → ℕ → LinkState S
fresh heaps = record {
  outbox = record { heaps = heaps; parcels = [] };
  queue = [];
  is_busy = false;
  link = None;
  last = 0;
  over = false;
}

abbrev pub stream_of : {S : Type 0} → Connection S → S
stream_of up = up.stream

abbrev pub protocol_of : {S : Type 0} → Connection S → Protocol
protocol_of up = up.protocol

-- whether the link of this number is up
abbrev pub is_up : {S : Type 0} → ℕ → Option (Connection S) → Bool
is_up number None = false
is_up number (Some up) = up.number == number

-- the number of the next link, within 64 bits
abbrev pub next_number : {S : Type 0} → LinkState S → ℕ
next_number state = (state.last + 1) % 2 ^ 64

-- a link is up over this stream, with this protocol, in the place of an older one
abbrev pub raised : {S : Type 0} → S → Protocol → LinkState S → LinkState S
raised stream protocol state = record (cleared_all state) {
  link = Some (record { number = next_number state; protocol = protocol; stream = stream });
  last = next_number state;
}

-- the link of this number is down, and no other
abbrev pub lowered : {S : Type 0} → ℕ → LinkState S → LinkState S
lowered number state =
    if is_up number state.link then record (cleared_all state) { link = None } else state

-- what is taken to be written: where frames wait one behind the other all of them, and else the
-- one of a topic that waits first
abbrev pub IsTaken : {S : Type 0} → List (List ℕ) → LinkState S → LinkState S → Type 0
IsTaken frames old new =
    ((frames ≡ old.queue) × (new ≡ record old { queue = []; is_busy = true }))
    ⊎ ((old.queue ≡ []) × ((topic : Topic) × (frame : List ℕ) × (rest : Parcels)
    × (old.outbox.parcels ≡ (topic, frame) ∷ rest) × (frames ≡ frame ∷ [])
    × (new ≡ record old { outbox = record old.outbox { parcels = rest }; is_busy = true })))

-- a heartbeat is taken to be written, where a link is up, nothing waits and nothing is being written
abbrev pub IsHeartbeat : {S : Type 0} → List (List ℕ) → LinkState S → LinkState S → Type 0
IsHeartbeat frames old new =
    (frames ≡ heartbeat ∷ []) × (is_some old.link ≡ true) × (old.queue ≡ [])
    × (old.outbox.parcels ≡ []) × (old.is_busy ≡ false) × (new ≡ record old { is_busy = true })

-- The frames, which were taken so, go over the link that is up, by its number and its stream.
pub record IsTurn {S : Type 0} (Takes : List (List ℕ) → LinkState S → LinkState S →
    Type 0) (number : ℕ) (IsStream : S →
    Type 0) (frames : List (List ℕ)) (old new : LinkState S) : Type 0 where
  pub up : Connection S
  pub link : old.link ≡ Some up
  pub number_is : number ≡ up.number
  pub stream_is : IsStream up.stream
  pub frames_are : Takes frames old new

-- the site ends
abbrev pub halted : {S : Type 0} → LinkState S → LinkState S
halted state = record (cleared_all state) { link = None; over = true }

-- the frame waits, where there is a link and the site has the heap
abbrev pub put_on : {S : Type 0} → Topic → List ℕ → LinkState S → LinkState S
put_on topic frame state =
    if is_some state.link && nat_lt (heap_of topic) state.outbox.heaps
    then record state { outbox = record state.outbox { parcels = put_in topic frame state.outbox.parcels } }
    else state

-- whether the frame is a whole heap, which its first byte says
abbrev pub is_state : List ℕ → Bool
is_state [] = false
is_state (kind ∷ bytes) = kind == 3

-- so many bytes may wait before a frame, so that it is not dropped
abbrev pub most_before : List ℕ → ℕ
most_before frame = if is_state frame then 1048576 else 33554432

-- whether the frame is not dropped where these wait
abbrev pub is_let_in : List ℕ → List (List ℕ) → Bool
is_let_in frame queue = nat_le (bytes_of queue) (most_before frame)

-- the frame waits behind all others, where there is a link and not too much waits before it
abbrev pub append_to : {S : Type 0} → List ℕ → LinkState S → LinkState S
append_to frame state =
    if is_some state.link && is_let_in frame state.queue
    then record state { queue = state.queue ++ frame ∷ [] } else state

-- the frame, which is about this, waits where it is about something
abbrev pub put_about : {S : Type 0} → Option Topic → List ℕ → LinkState S → LinkState S
put_about None frame state = state
put_about (Some topic) frame state = put_on topic frame state

-- The frame waits as the link's protocol says: behind all others where the peer is pushed to, and
-- in the place of an older one of its topic where it asks.
abbrev pub sent_by : {S : Type 0} → Option Protocol → List ℕ → LinkState S → LinkState S
sent_by None frame state = state
sent_by (Some Pushing) frame state = append_to frame state
sent_by (Some Streaming) frame state = append_to frame state
sent_by (Some Asking) frame state = put_about (topic_at frame) frame state

abbrev pub sent : {S : Type 0} → List ℕ → LinkState S → LinkState S
sent frame state = sent_by (option_map protocol_of state.link) frame state

-- what was being written over the link of this number is written
abbrev pub written_on : {S : Type 0} → ℕ → LinkState S → LinkState S
written_on number state =
    if is_up number state.link then record state { is_busy = false } else state

-- whether a link is up for which nothing waits, and to which nothing is being written
abbrev pub has_room : {S : Type 0} → LinkState S → Bool
has_room state = is_some state.link && is_empty state.queue && not state.is_busy
