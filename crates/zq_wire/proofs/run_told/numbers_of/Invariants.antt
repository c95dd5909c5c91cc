use Rattle.std.specs.Prelude.{length, take, ◌++◌, ◌-◌, ◌≡◌}
use Rattle.zq_wire.proofs.run_told.numbers_of.Given as goal
use Rattle.zq_wire.specs.Told.{numbers}

abbrev pub invariant-loop-index : goal.invariant-loop-index
invariant-loop-index l = record {
  goes : numbers 16 l.bytes ≡ take l.index l.numbers ++ numbers (16 - l.index) l.rest;
  long : length l.numbers ≡ 16;
}
