use Rattle.std.proofs.Common.{length}
use Rattle.mesh_sites.proofs.station.+seat_each.Given as goal

abbrev pub decreases-seat_each : goal.decreases-seat_each
decreases-seat_each l = length l.opened.now
