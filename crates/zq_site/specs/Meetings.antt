-- How peers are met.

use Rattle.std.specs.Prelude.{if◌then◌else◌, nat_lt, ℕ}
use Rattle.zq_replica.specs.declared.protocol.Protocol.{Protocol}
use Rattle.zq_replica.specs.declared.protocol.Protocol.TheVariants.{Asking, Pushing, Streaming}
use Rattle.zq_site.specs.declared.link_serving.Met.{Met}
use Rattle.zq_site.specs.declared.link_serving.Met.TheVariants.{Heard, Old, Silent, Unreached}
use Rattle.zq_wire.specs.declared.form.Form.{Form}
use Rattle.zq_wire.specs.declared.form.Form.TheVariants as form

-- in which form a peer is greeted that was met so before
abbrev pub next_form : Met → Form
next_form Heard = form.New
next_form Silent = form.New
next_form Unreached = form.New
next_form Old = form.Old

-- what goes over a link of this version: from 2 on it is pushed, and from 3 on a heap goes in pieces
abbrev pub protocol_for : ℕ → Protocol
protocol_for version = if nat_lt version 2 then Asking
    else (if nat_lt version 3 then Pushing else Streaming)
