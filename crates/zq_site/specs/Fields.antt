-- The pairs that a report gives to the log.

use Rattle.log.specs.Kv.{Pair, add_pair, append_known}
use Rattle.std.specs.Net.Text.{socket_text}
use Rattle.std.specs.Prelude.{List, None, Option, Some, [], codes, decimal, ℕ}
use Rattle.std.specs.declared.net.socket_addr.SocketAddr.{SocketAddr}
use Rattle.zq_site.specs.Words.{words_of_why}
use Rattle.zq_site.specs.declared.report.Report.{Report}
use Rattle.zq_site.specs.declared.report.RunName.{RunName}
use Rattle.zq_site.specs.declared.why.Why.{Why}

-- a pair of this key, where there is a value; which text it has may not be known
abbrev pub field : {T : Type 0} → List ℕ → (T → Option (List ℕ)) → Option T → Option (List Pair)
field key text None = Some []
field key text (Some value) = add_pair (Some []) key (text value)

abbrev pub number_text : ℕ → Option (List ℕ)
number_text number = Some (decimal number)

abbrev pub address_text : SocketAddr → Option (List ℕ)
address_text address = Some (socket_text address)

abbrev pub why_text : Why → Option (List ℕ)
why_text why = Some (words_of_why why)

-- which digits name a run is not said here
abbrev pub run_text : RunName → Option (List ℕ)
run_text run = None

-- of whom it is
abbrev pub peer_pairs : Report → Option (List Pair)
peer_pairs report = append_known (field (codes "peer") number_text report.peer)
    (field (codes "address") address_text report.address)

-- of which link, and why
abbrev pub link_pairs : Report → Option (List Pair)
link_pairs report = append_known (field (codes "version") number_text report.version)
    (append_known (field (codes "run") run_text report.run)
    (field (codes "reason") why_text report.reason))

-- what is counted
abbrev pub count_pairs : Report → Option (List Pair)
count_pairs report = append_known (field (codes "heap") number_text report.heap)
    (append_known (field (codes "known") number_text report.known)
    (field (codes "made") number_text report.made))

-- how it stands with the log on disk
abbrev pub disk_pairs : Report → Option (List Pair)
disk_pairs report = append_known (field (codes "start") number_text report.start)
    (append_known (field (codes "bytes") number_text report.bytes)
    (append_known (field (codes "was") number_text report.was)
    (append_known (field (codes "records") number_text report.records)
    (field (codes "milliseconds") number_text report.milliseconds))))

-- where the site listens
abbrev pub place_pairs : Report → Option (List Pair)
place_pairs report = append_known (field (codes "clients") address_text report.clients)
    (append_known (field (codes "links") address_text report.links)
    (field (codes "admin") address_text report.admin))

-- all of them: of each field that is none there is no pair
abbrev pub pairs_of : Report → Option (List Pair)
pairs_of report = append_known (peer_pairs report)
    (append_known (link_pairs report)
    (append_known (count_pairs report) (append_known (disk_pairs report) (place_pairs report))))
