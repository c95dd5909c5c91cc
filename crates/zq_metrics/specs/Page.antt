-- All figures of a site in the text format of Prometheus.

use Rattle.std.specs.List.{flat_map}
use Rattle.std.specs.Prelude.{Bool, List, None, Option, Some, [], codes, false, length, slice_index, suc, true, zero, ℕ, ◌++◌}
use Rattle.zq_metrics.specs.Closings.{reason_at}
use Rattle.zq_metrics.specs.Commands.{label_at}
use Rattle.zq_metrics.specs.Lines.{both_ways, bucket, by_heap, by_peer, by_word, head, plain, sum_and_count}
use Rattle.zq_metrics.specs.Timing.{both, bound_text}
use Rattle.zq_metrics.specs.declared.counts.Counts.{Counts}
use Rattle.zq_metrics.specs.declared.figures.ClientFigures.{ClientFigures}
use Rattle.zq_metrics.specs.declared.figures.DiskFigures.{DiskFigures}
use Rattle.zq_metrics.specs.declared.figures.Figures.{Figures}
use Rattle.zq_metrics.specs.declared.figures.HeapFigures.{HeapFigures}
use Rattle.zq_metrics.specs.declared.figures.PeerFigures.{PeerFigures}
use Rattle.zq_metrics.specs.declared.figures.SiteFigures.{SiteFigures}
use Rattle.zq_metrics.specs.declared.figures.WalkFigures.{WalkFigures}
use Rattle.zq_metrics.specs.declared.metric.Metric.{Metric}
use Rattle.zq_metrics.specs.declared.metric.Metric.TheVariants as m
use Rattle.zq_metrics.specs.declared.timing.Durations.{Durations}

-- a metric that has one line
unfoldable pub one : Metric → ℕ → List ℕ
one metric value = head metric ++ plain metric value

abbrev pub number : Bool → ℕ
number true = 1
number false = 0

unfoldable pub state : SiteFigures → List ℕ
state site =
    head m.Build ++ by_word m.Build (codes "version") (codes "0.3.0") 1
    ++ one m.Uptime site.uptime ++ one m.Memory site.memory
    ++ one m.Ready (number site.is_ready) ++ one m.Full (number site.is_full)

-- the lines of the commands before a place
unfoldable pub commands_before : Metric → List ℕ → ℕ → List ℕ
commands_before metric values zero = []
commands_before metric values (suc place) =
    commands_before metric values place
    ++ by_word metric (codes "cmd") (label_at place) (slice_index values place)

unfoldable pub requests : Counts → List ℕ
requests counts =
    head m.Commands ++ commands_before m.Commands counts.answered 14
    ++ head m.Errors ++ commands_before m.Errors counts.errors 14

-- how many were counted at the places before one
unfoldable pub sum_before : List ℕ → ℕ → ℕ
sum_before buckets zero = 0
sum_before buckets (suc place) = both (sum_before buckets place) (slice_index buckets place)

-- the lines of the bounds before a place: each says how many took no longer
unfoldable pub buckets_before : Metric → List ℕ → ℕ → List ℕ
buckets_before metric buckets zero = []
buckets_before metric buckets (suc place) =
    buckets_before metric buckets place
    ++ bucket metric (bound_text place) (sum_before buckets (suc place))

-- how long things took, by bounds, and how many nanoseconds all took together
unfoldable pub histogram : Metric → List ℕ → ℕ → List ℕ
histogram metric buckets nanoseconds =
    head metric ++ buckets_before metric buckets 16
    ++ sum_and_count metric nanoseconds (sum_before buckets 16)

abbrev pub duration : Counts → List ℕ
duration counts = histogram m.Duration counts.buckets counts.nanoseconds

-- the lines of the reasons before a place
unfoldable pub closed_before : List ℕ → ℕ → List ℕ
closed_before values zero = []
closed_before values (suc place) =
    closed_before values place
    ++ by_word m.Closed (codes "reason") (reason_at place) (slice_index values place)

unfoldable pub clients : ClientFigures → List ℕ
clients figures =
    one m.Connections figures.open ++ one m.Accepted figures.accepted
    ++ one m.Refused figures.refused ++ head m.Closed ++ closed_before figures.closed 5

-- the lines of the heaps before a place
unfoldable pub heaps_before : Metric → List ℕ → ℕ → List ℕ
heaps_before metric values zero = []
heaps_before metric values (suc heap) =
    heaps_before metric values heap ++ by_heap metric heap (slice_index values heap)

abbrev pub each_heap : Metric → List ℕ → List ℕ
each_heap metric values = heaps_before metric values (length values)

unfoldable pub heaps : HeapFigures → List ℕ
heaps figures =
    head m.Made ++ each_heap m.Made figures.made.items
    ++ head m.Taken ++ each_heap m.Taken figures.taken.items
    ++ head m.VectorSum ++ each_heap m.VectorSum figures.sums.items

unfoldable pub walk : WalkFigures → List ℕ
walk figures =
    head m.Members ++ each_heap m.Members figures.members.items
    ++ head m.Keys ++ each_heap m.Keys figures.keys.items
    ++ head m.Bytes ++ each_heap m.Bytes figures.bytes.items
    ++ one m.WalkAge figures.age ++ one m.WalkDuration figures.took

-- before a walk has ended nothing stands there
abbrev pub last_walk : Option WalkFigures → List ℕ
last_walk None = []
last_walk (Some figures) = walk figures

unfoldable pub ups : List PeerFigures → List ℕ
ups peers = flat_map (λ (p : PeerFigures). by_peer m.LinkUp p.site (number p.is_up)) peers

unfoldable pub lags : List PeerFigures → List ℕ
lags peers = flat_map (λ (p : PeerFigures). by_peer m.LinkLag p.site p.lag) peers

unfoldable pub silences : List PeerFigures → List ℕ
silences peers = flat_map (λ (p : PeerFigures). by_peer m.LastFrame p.site p.silence) peers

unfoldable pub bytes : List PeerFigures → List ℕ
bytes peers =
    flat_map (λ (p : PeerFigures). both_ways m.LinkBytes p.site p.bytes_in p.bytes_out) peers

unfoldable pub frames : List PeerFigures → List ℕ
frames peers =
    flat_map (λ (p : PeerFigures). both_ways m.LinkFrames p.site p.frames_in p.frames_out) peers

unfoldable pub links : List PeerFigures → List ℕ
links peers =
    head m.LinkUp ++ ups peers ++ head m.LinkLag ++ lags peers
    ++ head m.LastFrame ++ silences peers ++ head m.LinkBytes ++ bytes peers
    ++ head m.LinkFrames ++ frames peers

unfoldable pub backlog : SiteFigures → List ℕ
backlog site =
    one m.BacklogBytes site.backlog_bytes ++ one m.BacklogOperations site.backlog_operations
    ++ one m.Parked site.parked ++ one m.Dropped site.dropped
    ++ one m.DroppedLines site.dropped_lines

abbrev pub syncs : Durations → List ℕ
syncs durations = histogram m.SyncDuration durations.buckets durations.nanoseconds

unfoldable pub disk : DiskFigures → List ℕ
disk figures =
    head m.Durable ++ each_heap m.Durable figures.durable.items
    ++ one m.DiskFull (number figures.is_full) ++ one m.LogBytes figures.log_bytes
    ++ one m.WrittenBytes figures.written_bytes ++ one m.Switches figures.switches
    ++ syncs figures.syncs

-- where the site keeps no log on disk nothing stands there
abbrev pub kept : Option DiskFigures → List ℕ
kept None = []
kept (Some figures) = disk figures

unfoldable pub service : Figures → List ℕ
service figures =
    state figures.site ++ requests figures.counts ++ duration figures.counts
    ++ clients figures.clients

unfoldable pub contents : Figures → List ℕ
contents figures = heaps figures.heaps ++ last_walk figures.walk ++ kept figures.disk

unfoldable pub replication : Figures → List ℕ
replication figures = links figures.peers.items ++ backlog figures.site

abbrev pub page : Figures → List ℕ
page figures = service figures ++ contents figures ++ replication figures
