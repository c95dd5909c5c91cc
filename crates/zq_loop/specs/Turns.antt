-- The connections of a worker, each at a place of its own.
use Rattle.std.specs.Prelude.{◌≡◌, ℕ, List, None, Option, Some, slice_get}
use Rattle.zq_loop.specs.Attending.{AnyAsked, OwnRelation, attended, beside, on_pairs}
use Rattle.zq_loop.specs.Client.{IsServedAt}
use Rattle.zq_loop.specs.declared.client.Client.{Client}
use Rattle.zq_session.specs.Among.{Change}
use Rattle.zq_session.specs.Steps.{Does}

-- the connection is served at its socket, from this beginning on
abbrev pub IsServedFrom : {E C S : Type 0} → Does E → Change S → OwnRelation S C → E × S → S →
    Client E C → Type 0
IsServedFrom does others answers began now client =
    IsServedAt does (beside others) (on_pairs answers) began.0 (attended began.1 None)
    (attended now client.own) client.socket client.connection

-- Each connection is served at its socket, while all others are: from the socket and the state of
-- what answers with which that of its place began. It began with nothing of its own, and what it
-- has is what its own requests left.
abbrev pub AreServedAt : {E C S : Type 0} → Does E → Change S → OwnRelation S C →
    (ℕ → Option (E × S)) → S → List (Option (Client E C)) → Type 0
AreServedAt {E} {C} {S} does others answers begun now clients =
    (place : ℕ) (client : Client E C) → slice_get clients place ≡ Some (Some client) →
    (began : E × S) × (begun place ≡ Some began) × IsServedFrom does others answers began now client

-- to a connection all that requests do to what answers is what others may do
abbrev pub AreOthers : {S C : Type 0} → Change S → OwnRelation S C → Type 0
AreOthers {S} others answers = (old new : S) → AnyAsked answers old new → others old new
