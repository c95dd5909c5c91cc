use Rattle.std.proofs.Common.{arith, sym, ◌∙◌}
use Rattle.zq_commands.proofs.CountedKeys.{count_more, count_stays}
use Rattle.zq_commands.proofs.WordsAt.{word_at}
use Rattle.zq_commands.specs.Lending.{queues_in}
use Rattle.zq_semantics.specs.Plan.{is_there}
use Rattle.zq_words.specs.Words.{views}
use Rattle.zq_commands.proofs.keys_there.read_keys.Goals as goal
use Rattle.zq_commands.proofs.keys_there.read_keys.Goals.{then-has_members, else-has_members}

pub loop-key-preserved : goal.loop-key-preserved
loop-key-preserved g c =
    let words = c.args.keys.now in
    let i = c.loop-key.key-index in
    let queues = queues_in (g.B.Books.lent c.args.books.now) in
    let at = word_at words i c.key-item.result c.deref.result.now c.loop-key-test.true c.key-item.is c.deref.ensures.value in
    elim c.if-has_members.branch [
      | then-has_members w ↦ (
          let more = count_more (λ key. is_there (queues key)) (views words) i c.deref.result.now at (sym c.has_members.ensures ∙ w.if-has_members.true) in
          record {
            count = omega (arith, more, w.count-is, c.loop-key.invariant.count);
            few = omega (arith, w.count-is, c.loop-key.invariant.few);
          })
      | else-has_members w ↦ (
          let same = count_stays (λ key. is_there (queues key)) (views words) i c.deref.result.now at (sym c.has_members.ensures ∙ w.if-has_members.false) in
          record {
            count = omega (arith, same, w.count-is, c.loop-key.invariant.count);
            few = omega (arith, w.count-is, c.loop-key.invariant.few);
          })
    ]
