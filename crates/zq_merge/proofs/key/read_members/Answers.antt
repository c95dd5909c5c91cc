use Rattle.std.proofs.Common.{arith, inl, inr, option_map, subst, sym, None, []}
use Rattle.std.proofs.lemmas.Result.{err_from_is_err_and}
use Rattle.zq_merge.proofs.BuiltStates.{AreMembersTo, bounded_at, members_built, members_fail, members_none, members_pushed, read_sound, since_are, with_key}
use Rattle.zq_merge.proofs.RefusedMembers.{member_in, members_refused}
use Rattle.zq_merge.proofs.Repeated.{read_done}
use Rattle.zq_merge.specs.Built.{keys_of, members_since}
use Rattle.zq_merge.specs.Fields.{later_member_at}
use Rattle.zq_merge.specs.Framed.{frame_of, member_read}
use Rattle.zq_merge.specs.Keys.{row_in}
use Rattle.zq_merge.specs.Spelling.{member_bytes}
use Rattle.zq_merge.proofs.key.read_members.Goals as goal

pub returns-in_err-member-clause-exact : goal.returns-in_err-member-clause-exact
returns-in_err-member-clause-exact c =
    let p = err_from_is_err_and c.from_residual.result c.from_residual.ensures.1 in
    rw (p.1, p.2) (elim c.in_err-member.ensures.exact [
      | inl none ↦ inl none
      | inr e ↦ inr (members_fail c.args.version c.args.whole (frame_of c.args.frame.now) (keys_of c.args.shard.now) c.args.key.now c.args.count c.loop-number._number c.args.bytes.now.now c.loop-number.bytes.now (option_map (λ b. b.now) c.loop-number.before) (members_since c.args.shard.now c.loop-number.shard) c.loop-number.shard c.in_err-member.field-0.0 (omega arith) e c.loop-number.invariant)
    ])

pub push_row-requires-clause-bounded : goal.push_row-requires-clause-bounded
push_row-requires-clause-bounded c =
    let m = c.in_ok-member.ensures in
    let frame = frame_of c.args.frame.now in
    let sound = read_sound frame c.args.key.now c.in_ok-member.member.now c.in_ok-member.entry c.requires.key m.short m.placed m.wide m.full m.bounded in
    bounded_at frame (with_key (keys_of c.args.shard.now) c.args.key.now (members_since c.args.shard.now c.loop-number.shard)) c.loop-number.shard (row_in c.args.key.now (member_read (c.in_ok-member.member, c.in_ok-member.entry))) c.loop-number.invariant.is sound

pub loop-number-preserved : goal.loop-number-preserved
loop-number-preserved c =
    let m = c.in_ok-member.ensures in
    let pushed = c.in_ok-push_row.ensures in
    let frame = frame_of c.args.frame.now in
    let sound = read_sound frame c.args.key.now c.in_ok-member.member.now c.in_ok-member.entry c.requires.key m.short m.placed m.wide m.full m.bounded in
    members_pushed c.args.version c.args.whole frame (keys_of c.args.shard.now) c.args.key.now c.args.count c.loop-number._number c.args.bytes.now.now c.loop-number.bytes.now c.read_member.new.bytes.now (option_map (λ b. b.now) c.loop-number.before) (member_read (c.in_ok-member.member, c.in_ok-member.entry)) c.args.shard.now c.loop-number.shard c.push_row.new.self c.requires.built (omega arith) m.exact m.found m.after sound c.loop-number.invariant pushed.heap pushed.heaps pushed.rule pushed.rows

pub returns-clause-exact : goal.returns-clause-exact
returns-clause-exact c =
    read_done (later_member_at c.args.version c.args.whole (frame_of c.args.frame.now) c.args.key.now) (member_bytes c.args.version) c.args.count c.loop-number._number c.args.bytes.now.now c.loop-number.bytes.now (members_since c.args.shard.now c.loop-number.shard) (omega arith) c.loop-number.invariant.read

pub returns-clause-built : goal.returns-clause-built
returns-clause-built c =
    let some = c.requires.some in
    members_built c.args.version c.args.whole (frame_of c.args.frame.now) (keys_of c.args.shard.now) c.args.key.now c.args.count c.loop-number._number c.args.bytes.now.now c.loop-number.bytes.now (option_map (λ b. b.now) c.loop-number.before) (members_since c.args.shard.now c.loop-number.shard) c.loop-number.shard (omega arith) c.loop-number.invariant

pub loop-number-init : goal.loop-number-init
loop-number-init c =
    let frame = frame_of c.args.frame.now in
    let s = c.args.shard.now in
    let all = c.args.bytes.now.now in
    let none = members_none c.args.version c.args.whole frame (keys_of s) c.args.key.now c.args.count all s c.requires.built c.requires.after in
    subst (λ ms. AreMembersTo c.args.version c.args.whole frame (keys_of s) c.args.key.now c.args.count 0 all all None ms s)
    (sym (since_are frame (keys_of s) c.args.key.now [] s s c.requires.built none.are none.is)) none

pub returns-in_err-push_row-clause-memory : goal.returns-in_err-push_row-clause-memory
returns-in_err-push_row-clause-memory c =
    let p = err_from_is_err_and c.from_residual-in_err-push_row.result c.from_residual-in_err-push_row.ensures.1 in
    let frame = frame_of c.args.frame.now in
    let last = option_map (λ b. b.now) c.loop-number.before in
    let m = member_read (c.in_ok-member.member, c.in_ok-member.entry) in
    let here = member_in c.args.version c.args.whole frame c.args.key.now last c.loop-number.bytes.now c.read_member.new.bytes.now m c.in_ok-member.ensures.exact in
    rw (p.1, p.2) (λ none. members_refused c.args.version c.args.whole frame (keys_of c.args.shard.now) c.args.key.now c.args.count c.loop-number._number c.args.bytes.now.now c.loop-number.bytes.now last (members_since c.args.shard.now c.loop-number.shard) c.loop-number.shard (omega arith) here c.loop-number.invariant)

pub returns-in_err-member-clause-memory : goal.returns-in_err-member-clause-memory
returns-in_err-member-clause-memory c =
    let p = err_from_is_err_and c.from_residual.result c.from_residual.ensures.1 in
    rw (p.1, p.2) (λ none. members_refused c.args.version c.args.whole (frame_of c.args.frame.now) (keys_of c.args.shard.now) c.args.key.now c.args.count c.loop-number._number c.args.bytes.now.now c.loop-number.bytes.now (option_map (λ b. b.now) c.loop-number.before) (members_since c.args.shard.now c.loop-number.shard) c.loop-number.shard (omega arith) (c.in_err-member.ensures.memory none) c.loop-number.invariant)
