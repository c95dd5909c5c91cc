use Rattle.std.proofs.Common.{ap, arith, get_or, length, ◌∙◌}
use Rattle.std.proofs.lemmas.List.{take_all}
use Rattle.zq_batch.proofs.Risen.{written_more, written_none}
use Rattle.zq_fields.proofs.Written.{kept_more}
use Rattle.zq_batch.proofs.changes.write_changes.Goals as goal

pub loop-number-init : goal.loop-number-init
loop-number-init c = record {
  written = written_none c.args.out.now.items c.args.known.now c.args.seen.now;
  kept = take_all (length c.args.out.now.items) c.args.out.now.items (omega arith);
}

pub loop-number-preserved : goal.loop-number-preserved
loop-number-preserved c = record {
  written = written_more c.args.out.now.items c.loop-number.out.items c.write_change.new.out.items c.args.known.now c.args.seen.now c.loop-number.number c.get.result c.get-in-loop-number.result (c.get.ensures.counter ∙ ap (λ t. get_or c.args.known.now t 0) c.site_of-site.ensures) (c.get-in-loop-number.ensures.counter ∙ ap (λ t. get_or c.args.seen.now t 0) c.site_of-site.ensures) c.loop-number.invariant.written c.in_ok-write_change.ensures.written;
  kept = kept_more c.args.out.now.items c.loop-number.out.items c.write_change.new.out.items c.loop-number.invariant.kept c.write_change.ensures.kept;
}
