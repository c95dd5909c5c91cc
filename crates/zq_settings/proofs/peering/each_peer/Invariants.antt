use Rattle.std.proofs.Common.{◌≡◌, drop, vec_len}
use Rattle.toml.specs.View.{items_view}
use Rattle.zq_settings.specs.Settings.{each}
use Rattle.zq_settings.specs.Site.{peer_of}
use Rattle.zq_settings.proofs.Seen.{after}
use Rattle.zq_settings.proofs.peering.each_peer.Given as goal

abbrev pub invariant-loop-entry : goal.invariant-loop-entry
invariant-loop-entry l = record {
  read : each (peer_of l.own l.secured) (items_view l.entries) ≡ after l.peers.items (each (peer_of l.own l.secured) (items_view (drop l.entry-index l.entries)));
  len : vec_len l.peers ≡ l.entry-index;
}
