use Rattle.std.proofs.Common.{arith, length, true, ◌≡◌}
use Rattle.std.proofs.lemmas.List.{take_all}
use Rattle.zq_batch.proofs.Batches.{each_written, next_in, next_written, none_written}
use Rattle.zq_fields.proofs.Written.{kept_more}
use Rattle.zq_batch.proofs.views.write_each.Goals as goal

pub loop-number-init : goal.loop-number-init
loop-number-init c = record {
  written = none_written c.args.out.now.items;
  next = tt;
  kept = take_all (length c.args.out.now.items) c.args.out.now.items (omega arith);
}

pub returns-then-not-branch-clause-other : goal.returns-then-not-branch-clause-other
returns-then-not-branch-clause-other c = λ are.
    (let holds : c.in_ok-write_op.field-0 ≡ true = c.in_ok-write_op.ensures.other (next_in c.args.views.now c.index-views-number.result c.loop-number.number (omega arith) c.index-views-number.is are) in cc)

pub loop-number-preserved : goal.loop-number-preserved
loop-number-preserved c =
    let holds : c.in_ok-write_op.field-0 ≡ true = cc in
    record {
      written = each_written c.args.out.now.items c.loop-number.out.items c.write_op.new.out.items c.args.views.now c.index-views-number.result c.loop-number.number (omega arith) c.index-views-number.is c.loop-number.invariant.written (c.in_ok-write_op.ensures.written holds);
      next = next_written c.args.views.now c.index-views-number.result c.loop-number.number (omega arith) c.index-views-number.is c.loop-number.invariant.next (c.in_ok-write_op.ensures.next holds);
      kept = kept_more c.args.out.now.items c.loop-number.out.items c.write_op.new.out.items c.loop-number.invariant.kept c.write_op.ensures.kept;
    }
