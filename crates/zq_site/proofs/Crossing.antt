-- What the threads of a site's links share may go to each of them.
use denote.Param.Send.{IsSend, IsSync, sendable}
use denote.Ref.{NamedLft}
use Rattle.std.proofs.Crossing.{crosses}
use Rattle.std.specs.contracts.net.socket_addr.SocketAddr as SocketAddr
use Rattle.zq_serve.specs.contracts.fault.Cause as Cause
use Rattle.zq_serve.specs.contracts.fault.ServeFault as ServeFault
use Rattle.zq_site.specs.contracts.begun.Begun as Begun
use Rattle.zq_site.specs.contracts.ending.Ending as Ending
use Rattle.zq_site.specs.contracts.ending.Stage as Stage
use Rattle.zq_site.specs.contracts.front.Front as Front
use Rattle.zq_site.specs.contracts.meters.Meters as Meters
use Rattle.zq_site.specs.contracts.traffic.Traffic as Traffic
use Rattle.zq_site.specs.contracts.peer_link.PeerLink as PeerLink
use Rattle.zq_site.specs.contracts.post.Post as Post
use Rattle.zq_site.specs.contracts.shared.Shared as Shared
use Rattle.zq_metrics.proofs.Crossing.{counters_sync}
use Rattle.zq_admin.proofs.Crossing.{found_send}
use Rattle.zq_peers.proofs.Crossing.{mailbox_sync}
use Rattle.zq_replica.specs.contracts.logs.Logs as Logs
use Rattle.zq_serve.proofs.Crossing.{admission_sync, commits_sync, desk_sync, gate_sync}
use Rattle.zq_settings.specs.contracts.values.SiteSettings as SiteSettings
use Rattle.zq_site.specs.contracts.hiring.Hiring as Hiring
use Rattle.zq_site.specs.contracts.sizes.Sizes as Sizes
use Rattle.zq_site.specs.contracts.sizes.SizesFound as SizesFound
use Rattle.zq_site.specs.contracts.survey.Survey as Survey
use Rattle.zq_store.specs.contracts.kept.Kept as Kept
use Rattle.zq_store.specs.contracts.started.Started as Started

traffic_sync : IsSync Traffic.the_row
traffic_sync = search (sendable, crosses) depth 100 fits 100000

link_sync : IsSync PeerLink.the_row
link_sync = search (traffic_sync, sendable, crosses) depth 100 fits 100000

kept_send : IsSend Kept.the_row
kept_send = search (sendable, crosses) depth 100 fits 100000

meters_sync : IsSync Meters.the_row
meters_sync = search (counters_sync, kept_send, sendable, crosses) depth 100 fits 100000

post_sync : IsSync Post.the_row
post_sync = search (sendable, crosses) depth 100 fits 100000

logs_sync : IsSync Logs.the_row
logs_sync = search (sendable, crosses) depth 100 fits 100000

hiring_sync : IsSync Hiring.the_row
hiring_sync = search (sendable, crosses) depth 100 fits 100000

address_send : IsSend SocketAddr.the_row
address_send = search (sendable, crosses) depth 100 fits 100000

cause_send : IsSend Cause.the_row
cause_send = search (address_send, sendable, crosses) depth 100 fits 100000

fault_send : IsSend ServeFault.the_row
fault_send = search (cause_send, sendable, crosses) depth 100 fits 100000

stage_send : IsSend Stage.the_row
stage_send = search (fault_send, sendable, crosses) depth 100 fits 100000

pub ending_sync : IsSync Ending.the_row
ending_sync = search (stage_send, sendable, crosses) depth 100 fits 100000

started_send : IsSend Started.the_row
started_send = search (sendable, crosses) depth 100 fits 100000

begun_sync : IsSync Begun.the_row
begun_sync = search (started_send, fault_send, sendable, crosses) depth 100 fits 100000

survey_sync : IsSync Survey.the_row
survey_sync = search (found_send, sendable, crosses) depth 100 fits 100000

sizes_found_send : IsSend SizesFound.the_row
sizes_found_send = search (sendable, crosses) depth 100 fits 100000

sizes_sync : IsSync Sizes.the_row
sizes_sync = search (sizes_found_send, sendable, crosses) depth 100 fits 100000

front_sync : IsSync Front.the_row
front_sync = search (survey_sync, sizes_sync, sendable, crosses) depth 100 fits 100000

settings_sync : IsSync SiteSettings.the_row
settings_sync = search (address_send, sendable, crosses) depth 100 fits 100000

pub shared_send : (κ : NamedLft) → IsSend (Shared.the_row κ)
shared_send κ = search (settings_sync, begun_sync, commits_sync, link_sync, post_sync, logs_sync, hiring_sync, ending_sync, front_sync, meters_sync, admission_sync, desk_sync, gate_sync, mailbox_sync, sendable, crosses) depth 60 fits 100000
