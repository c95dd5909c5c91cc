use Rattle.std.specs.Int.{to_be_bytes, w64}
use Rattle.std.specs.Prelude.{flat_map, take, vec_len, ◌*◌, ◌++◌, ◌+◌, ◌≡◌, ◌≤◌}
use Rattle.std.specs.Vec.{vec_capacity}
use Rattle.zq_wire.proofs.greeting.write_counters.Given as goal

abbrev pub invariant-loop-counter : goal.invariant-loop-counter
invariant-loop-counter l = record {
  written : l.out.items ≡ l.initial.out.items ++ flat_map (to_be_bytes w64) (take l.counter-index l.counters);
  long : vec_len l.out ≡ vec_len l.initial.out + 8 * l.counter-index;
  room : vec_capacity l.initial.out ≤ vec_capacity l.out;
}
