-- A worker, an acceptor and a linker may go to another thread, and so may what names mailboxes, a
-- gate and what stands before replies.
use denote.Param.Send.{IsSend, IsSync, sendable}
use denote.Ref.{NamedLft}
use Rattle.std.proofs.Crossing.{crosses}
use Rattle.zq_loop.proofs.Crossing.{acceptor_send, port_sync, poller_send}
use Rattle.zq_metrics.proofs.Crossing.{counters_sync}
use Rattle.zq_peers.proofs.Crossing.{mailbox_sync}
use Rattle.zq_peers.specs.contracts.attending.Link as Link
use Rattle.zq_serve.specs.contracts.admission.Admission as Admission
use Rattle.zq_serve.specs.contracts.client_acceptor.ClientAcceptor as ClientAcceptor
use Rattle.zq_serve.specs.contracts.commits.Commits as Commits
use Rattle.zq_serve.specs.contracts.desk.Desk as Desk
use Rattle.zq_serve.specs.contracts.durable.Durable as Durable
use Rattle.zq_serve.specs.contracts.gate.Gate as Gate
use Rattle.zq_serve.specs.contracts.inboxes.Inboxes as Inboxes
use Rattle.zq_serve.specs.contracts.linker.Linker as Linker
use Rattle.zq_serve.specs.contracts.worker.Worker as Worker
use Rattle.zq_session.specs.contracts.site_pass.SitePass as SitePass
use Rattle.zq_spread.proofs.Crossing.{pass_field_send, site_sync}

own_send : (κ : NamedLft) → IsSend (SitePass.the_row κ)
own_send κ = search (site_sync, pass_field_send, sendable, crosses) depth 30 fits 50000

pub worker_send : (κ₁ κ₂ : NamedLft) → IsSend (Worker.the_row κ₁ κ₂)
worker_send κ₁ κ₂ = search (own_send, port_sync, poller_send, sendable, crosses) depth 30 fits 50000

pub client_acceptor_send : (κ : NamedLft) → IsSend (ClientAcceptor.the_row κ)
client_acceptor_send κ = search (site_sync, port_sync, acceptor_send, sendable, crosses) depth 30 fits 50000

link_sync : IsSync Link.the_row
link_sync = search (sendable, crosses) depth 30

pub linker_send : (κ₁ κ₂ : NamedLft) → IsSend (Linker.the_row κ₁ κ₂)
linker_send κ₁ κ₂ = search (own_send, link_sync, sendable, crosses) depth 30 fits 50000

pub gate_sync : IsSync Gate.the_row
gate_sync = search (sendable, crosses) depth 30

pub admission_sync : IsSync Admission.the_row
admission_sync = search (sendable, crosses) depth 30

pub desk_sync : IsSync Desk.the_row
desk_sync = search (sendable, crosses) depth 30

pub commits_sync : IsSync Commits.the_row
commits_sync = search (sendable, crosses) depth 30

pub durable_send : (κ : NamedLft) → IsSend (Durable.the_row κ)
durable_send κ = search (mailbox_sync, commits_sync, sendable, crosses) depth 30 fits 50000

pub inboxes_send : (κ : NamedLft) → IsSend (Inboxes.the_row κ)
inboxes_send κ = search (mailbox_sync, gate_sync, admission_sync, counters_sync, desk_sync, durable_send, sendable, crosses) depth 30 fits 50000
