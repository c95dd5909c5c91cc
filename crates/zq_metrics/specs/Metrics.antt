-- The metrics that are shown.

use Rattle.std.specs.Prelude.{List, codes, ℕ}
use Rattle.zq_metrics.specs.declared.metric.Metric.{Metric}
use Rattle.zq_metrics.specs.declared.metric.Metric.TheVariants as m
use Rattle.zq_metrics.specs.declared.metric.Sort.{Sort}
use Rattle.zq_metrics.specs.declared.metric.Sort.TheVariants.{Counter, Gauge, Histogram}

abbrev pub sort_word : Sort → List ℕ
sort_word Counter = codes "counter"
sort_word Gauge = codes "gauge"
sort_word Histogram = codes "histogram"

abbrev pub name_of : Metric → List ℕ
name_of m.Build = codes "zqueue_build_info"
name_of m.Uptime = codes "zqueue_uptime_seconds"
name_of m.Memory = codes "process_resident_memory_bytes"
name_of m.Ready = codes "zqueue_ready"
name_of m.Full = codes "zqueue_memory_full"
name_of m.Commands = codes "zqueue_commands_total"
name_of m.Errors = codes "zqueue_command_errors_total"
name_of m.Duration = codes "zqueue_request_duration_seconds"
name_of m.Connections = codes "zqueue_connections"
name_of m.Accepted = codes "zqueue_connections_accepted_total"
name_of m.Refused = codes "zqueue_connections_refused_total"
name_of m.Closed = codes "zqueue_connections_closed_total"
name_of m.Made = codes "zqueue_operations_made_total"
name_of m.Taken = codes "zqueue_operations_taken_total"
name_of m.VectorSum = codes "zqueue_vector_operations"
name_of m.Members = codes "zqueue_heap_members"
name_of m.Keys = codes "zqueue_heap_keys"
name_of m.Bytes = codes "zqueue_heap_bytes"
name_of m.WalkAge = codes "zqueue_heap_walk_age_seconds"
name_of m.WalkDuration = codes "zqueue_heap_walk_duration_seconds"
name_of m.Durable = codes "zqueue_operations_durable_total"
name_of m.DiskFull = codes "zqueue_disk_full"
name_of m.LogBytes = codes "zqueue_disk_log_bytes"
name_of m.WrittenBytes = codes "zqueue_disk_written_bytes_total"
name_of m.Switches = codes "zqueue_disk_switches_total"
name_of m.SyncDuration = codes "zqueue_disk_sync_duration_seconds"
name_of m.LinkUp = codes "zqueue_link_up"
name_of m.LinkLag = codes "zqueue_link_lag_operations"
name_of m.LastFrame = codes "zqueue_link_last_frame_seconds"
name_of m.LinkBytes = codes "zqueue_link_bytes_total"
name_of m.LinkFrames = codes "zqueue_link_frames_total"
name_of m.BacklogBytes = codes "zqueue_backlog_bytes"
name_of m.BacklogOperations = codes "zqueue_backlog_operations"
name_of m.Parked = codes "zqueue_parked_operations"
name_of m.Dropped = codes "zqueue_dropped_frames_total"
name_of m.DroppedLines = codes "zqueue_log_lines_dropped_total"

abbrev pub help_of : Metric → List ℕ
help_of m.Build = codes "The version of the program."
help_of m.Uptime = codes "Seconds since the site began."
help_of m.Memory = codes "Bytes of resident memory that the process has, 0 where that cannot be read."
help_of m.Ready = codes "Whether the site is ready."
help_of m.Full =
    codes "Whether the process has more memory than max_memory, so that commands that add are refused."
help_of m.Commands = codes "Requests that were answered."
help_of m.Errors = codes "Requests that were answered by an error."
help_of m.Duration =
    codes "Time from the turn of the loop in which a request was read to the end of its writes."
help_of m.Connections = codes "Connections of clients that are open."
help_of m.Accepted = codes "Connections of clients that were accepted."
help_of m.Refused =
    codes "Connections of clients that were refused, since there were as many as there may be."
help_of m.Closed = codes "Connections of clients that the site closed."
help_of m.Made = codes "Operations that the site made."
help_of m.Taken = codes "Operations of other sites that the site took."
help_of m.VectorSum = codes "Sum of the version vector: operations of all sites that the site has."
help_of m.Members = codes "Members that the heap had at the last walk over all heaps."
help_of m.Keys = codes "Keys that the heap had at the last walk over all heaps."
help_of m.Bytes =
    codes "Bytes of the names of keys and members that the heap had at the last walk over all heaps."
help_of m.WalkAge = codes "Seconds since the last walk over all heaps ended."
help_of m.WalkDuration = codes "Seconds that the last walk over all heaps took."
help_of m.Durable = codes "Operations that the site made and that are on the disk."
help_of m.DiskFull = codes "Whether the disk is full, so that commands that write are refused."
help_of m.LogBytes =
    codes "Bytes of the log on disk, without escapes and the zeros ahead of its end."
help_of m.WrittenBytes =
    codes "Bytes written to the log on disk and to files that take its place, without escapes and zeros."
help_of m.Switches = codes "Files that took the place of the log on disk."
help_of m.SyncDuration =
    codes "Time of each sync of the log on disk, or of the file that takes its place, with the write before it."
help_of m.LinkUp = codes "Whether the link to the peer is up."
help_of m.LinkLag = codes "Operations that the site has and the peer has not said to have."
help_of m.LastFrame = codes "Seconds since the last frame of the peer, or since the site began."
help_of m.LinkBytes = codes "Bytes of frames over links to the peer."
help_of m.LinkFrames = codes "Frames over links to the peer."
help_of m.BacklogBytes = codes "Bytes of operations that are kept for peers."
help_of m.BacklogOperations = codes "Operations that are kept for peers."
help_of m.Parked = codes "Operations that wait for earlier ones of their site."
help_of m.Dropped = codes "Frames of peers that were not taken."
help_of m.DroppedLines = codes "Lines of the log that found no room and were not written."

abbrev pub sort_of : Metric → Sort
sort_of m.Build = Gauge
sort_of m.Uptime = Gauge
sort_of m.Memory = Gauge
sort_of m.Ready = Gauge
sort_of m.Full = Gauge
sort_of m.Commands = Counter
sort_of m.Errors = Counter
sort_of m.Duration = Histogram
sort_of m.Connections = Gauge
sort_of m.Accepted = Counter
sort_of m.Refused = Counter
sort_of m.Closed = Counter
sort_of m.Made = Counter
sort_of m.Taken = Counter
sort_of m.VectorSum = Gauge
sort_of m.Members = Gauge
sort_of m.Keys = Gauge
sort_of m.Bytes = Gauge
sort_of m.WalkAge = Gauge
sort_of m.WalkDuration = Gauge
sort_of m.Durable = Counter
sort_of m.DiskFull = Gauge
sort_of m.LogBytes = Gauge
sort_of m.WrittenBytes = Counter
sort_of m.Switches = Counter
sort_of m.SyncDuration = Histogram
sort_of m.LinkUp = Gauge
sort_of m.LinkLag = Gauge
sort_of m.LastFrame = Gauge
sort_of m.LinkBytes = Counter
sort_of m.LinkFrames = Counter
sort_of m.BacklogBytes = Gauge
sort_of m.BacklogOperations = Gauge
sort_of m.Parked = Gauge
sort_of m.Dropped = Counter
sort_of m.DroppedLines = Counter
