use Rattle.std.proofs.Common.{◌≡◌, drop, vec_len}
use Rattle.toml.specs.View.{items_view}
use Rattle.zq_settings.specs.Settings.{each, port_of}
use Rattle.zq_settings.proofs.Seen.{after}
use Rattle.zq_settings.proofs.entries.each_port.Given as goal

abbrev pub invariant-loop-entry : goal.invariant-loop-entry
invariant-loop-entry l = record {
  read : each port_of (items_view l.entries) ≡ after l.ports.items (each port_of (items_view (drop l.entry-index l.entries)));
  len : vec_len l.ports ≡ l.entry-index;
}
