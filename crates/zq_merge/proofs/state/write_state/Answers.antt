use Rattle.std.proofs.Common.{ap, arith, length, map, rules, ◌<◌, ◌^◌, ◌∙◌, ◌≡◌}
use Rattle.std.proofs.lemmas.List.{length-map}
use Rattle.zq_merge.proofs.AgainStates.{state_again, writable_rows, written_whole}
use Rattle.zq_merge.specs.State.{IsState, state_at, state_spelling}
use Rattle.zq_merge.specs.declared.version.Version.TheVariants.{Three}
use Rattle.zq_shard.specs.Listed.{lent_row}
use Rattle.zq_merge.proofs.state.write_state.Goals as goal

pub write_keys-requires : goal.write_keys-requires
write_keys-requires c =
    writable_rows c.args.shard.now (map lent_row c.deref.result.now) c.in_ok-rows.ensures.kept (ap (map lent_row) c.deref.ensures.value ∙ c.in_ok-rows.ensures.rows)

pub returns-clause-written : goal.returns-clause-written
returns-clause-written c =
    written_whole c.args.shard.now (map lent_row c.deref.result.now) c.new-out.result.items c.write_fields.new.out.items c.write_keys.new.out.items c.new-out.ensures.items (ap (map lent_row) c.deref.ensures.value ∙ c.in_ok-rows.ensures.rows) c.in_ok-write_fields.ensures c.in_ok-write_keys.ensures

pub returns-clause-again : goal.returns-clause-again
returns-clause-again c =
    let s = c.args.shard.now in
    let items = c.in_ok-rows.rows.items in
    let written : c.write_keys.new.out.items ≡ state_spelling Three s = written_whole s (map lent_row c.deref.result.now) c.new-out.result.items c.write_fields.new.out.items c.write_keys.new.out.items c.new-out.ensures.items (ap (map lent_row) c.deref.ensures.value ∙ c.in_ok-rows.ensures.rows) c.in_ok-write_fields.ensures c.in_ok-write_keys.ensures in
    let size : length items < 2 ^ 64 = search rules in
    let same = ap length c.in_ok-rows.ensures.rows in
    let made = length-map items lent_row in
    let sound : IsState s = record { kept = c.in_ok-rows.ensures.kept; few = omega arith } in
    ap state_at written ∙ state_again Three s sound (tt, tt)
