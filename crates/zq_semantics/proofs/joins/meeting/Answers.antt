use Rattle.zq_model.proofs.JoinImages.{join-union, join_grouped, join_itself, join_turned}
use Rattle.zq_model.specs.Image.{image_of}
use Rattle.zq_semantics.proofs.KeptRuns.{closed_at, world_at, world_of_three, world_of_two}
use Rattle.zq_semantics.proofs.Meant.{covers_first, covers_second}
use Rattle.zq_semantics.specs.Events.{set_at}
use Rattle.zq_semantics.specs.Runs.{run}
use Rattle.zq_semantics.proofs.joins.meeting.Goals as goal

pub returns-clause-union : goal.returns-clause-union
returns-clause-union c rule K sites events is i site j other heap =
    join-union K (set_at (run rule K events) i site) (set_at (run rule K events) j other) heap (world_of_two rule K sites events is i site j other)
    (closed_at rule K sites events is i site) (closed_at rule K sites events is j other)

pub returns-clause-commutes : goal.returns-clause-commutes
returns-clause-commutes c rule K sites events is i site j other heap =
    join_turned K (set_at (run rule K events) i site) (set_at (run rule K events) j other) heap (world_of_two rule K sites events is i site j other)
    (closed_at rule K sites events is i site) (closed_at rule K sites events is j other)

pub returns-clause-groups : goal.returns-clause-groups
returns-clause-groups c rule K sites events is i site j other k third heap =
    join_grouped K (set_at (run rule K events) i site) (set_at (run rule K events) j other) (set_at (run rule K events) k third) heap
    (world_of_three rule K sites events is i site j other k third)
    (closed_at rule K sites events is i site) (closed_at rule K sites events is j other) (closed_at rule K sites events is k third)

pub returns-clause-once : goal.returns-clause-once
returns-clause-once c rule K sites events is moment site heap =
    join_itself K (set_at (run rule K events) moment site) heap (world_at rule K sites events is moment site) (closed_at rule K sites events is moment site)

pub returns-clause-covers_first : goal.returns-clause-covers_first
returns-clause-covers_first c rule K sites events is i site j other heap =
    covers_first (image_of (set_at (run rule K events) i site) heap) (image_of (set_at (run rule K events) j other) heap)

pub returns-clause-covers_second : goal.returns-clause-covers_second
returns-clause-covers_second c rule K sites events is i site j other heap =
    covers_second (image_of (set_at (run rule K events) i site) heap) (image_of (set_at (run rule K events) j other) heap)
