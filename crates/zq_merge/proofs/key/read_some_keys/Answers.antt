use Rattle.std.proofs.Common.{arith, inl, inr, option_map, subst, sym, None, Some, [], ◌+◌, ◌++◌, ◌∷◌}
use Rattle.std.proofs.lemmas.Result.{err_from_is_err_and}
use Rattle.zq_merge.proofs.BuiltStates.{AreKeysTo, built_keys, built_none, keys_fail, keys_none, keys_step}
use Rattle.zq_merge.proofs.RefusedMembers.{keys_refused}
use Rattle.zq_merge.proofs.Repeated.{read_done}
use Rattle.zq_merge.specs.Built.{keys_of, members_since}
use Rattle.zq_merge.specs.Fields.{later_key_at}
use Rattle.zq_merge.specs.Framed.{frame_of}
use Rattle.zq_merge.specs.Keys.{KeyRows}
use Rattle.zq_merge.specs.Spelling.{key_bytes}
use Rattle.zq_merge.proofs.key.read_some_keys.Goals as goal

pub loop-number-init : goal.loop-number-init
loop-number-init c =
    let frame = frame_of c.args.frame.now in
    let s = c.args.shard.now in
    let all = c.args.bytes.now.now in
    let none = built_keys frame [] s (built_none frame s c.requires.empty) in
    subst (λ ks. AreKeysTo c.args.version c.args.whole frame c.args.count 0 all all None ks s) (sym none) (keys_none c.args.version c.args.whole frame c.args.count all s c.requires.empty)

pub returns-in_err-key-clause-exact : goal.returns-in_err-key-clause-exact
returns-in_err-key-clause-exact c =
    let p = err_from_is_err_and c.from_residual.result c.from_residual.ensures.1 in
    rw (p.1, p.2) (elim c.in_err-key.ensures.exact [
      | inl none ↦ inl none
      | inr e ↦ inr (keys_fail c.args.version c.args.whole (frame_of c.args.frame.now) c.args.count c.loop-number._number c.args.bytes.now.now c.loop-number.bytes.now (option_map (λ b. b.now) c.loop-number.before) (keys_of c.loop-number.shard) c.loop-number.shard c.in_err-key.field-0.0 (omega arith) e c.loop-number.invariant)
    ])

pub loop-number-preserved : goal.loop-number-preserved
loop-number-preserved c =
    let frame = frame_of c.args.frame.now in
    let all = c.args.bytes.now.now in
    let old = c.loop-number.shard in
    let new = c.read_key.new.shard in
    let rest = c.read_key.new.bytes.now in
    let k : KeyRows = record { key = c.in_ok-key.key.now; members = members_since old new } in
    let keys = keys_of old ++ k ∷ [] in
    let step = keys_step c.args.version c.args.whole frame c.args.count c.loop-number._number all c.loop-number.bytes.now rest (option_map (λ b. b.now) c.loop-number.before) (keys_of old) k old new (omega arith) c.in_ok-key.ensures.exact c.in_ok-key.ensures.found c.in_ok-key.ensures.built c.loop-number.invariant in
    subst (λ ks. AreKeysTo c.args.version c.args.whole frame c.args.count (c.loop-number._number + 1) all rest (Some c.in_ok-key.key.now) ks new) (sym (built_keys frame keys new c.in_ok-key.ensures.built)) step

pub returns-clause-exact : goal.returns-clause-exact
returns-clause-exact c =
    read_done (later_key_at c.args.version c.args.whole (frame_of c.args.frame.now)) (key_bytes c.args.version) c.args.count c.loop-number._number c.args.bytes.now.now c.loop-number.bytes.now (keys_of c.loop-number.shard) (omega arith) c.loop-number.invariant.read

pub returns-in_err-key-clause-memory : goal.returns-in_err-key-clause-memory
returns-in_err-key-clause-memory c =
    let p = err_from_is_err_and c.from_residual.result c.from_residual.ensures.1 in
    rw (p.1, p.2) (λ none. keys_refused c.args.version c.args.whole (frame_of c.args.frame.now) c.args.count c.loop-number._number c.args.bytes.now.now c.loop-number.bytes.now (option_map (λ b. b.now) c.loop-number.before) (keys_of c.loop-number.shard) c.loop-number.shard (omega arith) (c.in_err-key.ensures.memory none) c.loop-number.invariant)
