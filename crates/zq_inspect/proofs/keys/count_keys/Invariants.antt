use Rattle.std.proofs.Common.{None, drop, map, ◌+◌, ◌≡◌, ◌≤◌}
use Rattle.std.specs.Option.{option_copied}
use Rattle.zq_inspect.specs.Keys.{key_of, keys_from}
use Rattle.zq_inspect.proofs.keys.count_keys.Given as goal

abbrev pub invariant-loop-row : goal.invariant-loop-row
invariant-loop-row l = (l.keys ≤ l.row-index)
    × (l.keys + keys_from (option_copied l.last) (map key_of (drop l.row-index l.rows))
    ≡ keys_from None (map key_of l.rows))
