use Rattle.std.proofs.Common.{ap, arith, get_or, ◌∙◌}
use Rattle.zq_dots.proofs.Counters.{sites_is}
use Rattle.zq_fields.proofs.Written.{entries_written, kept_more}
use Rattle.zq_fields.proofs.sparse.write_entries.Goals as goal

pub loop-number-preserved : goal.loop-number-preserved
loop-number-preserved c =
    let wide = c.requires.wide in
    record {
      written = entries_written c.args.out.now.items c.loop-number.out.items c.write_entry.new.out.items c.args.vector.now c.loop-number.number c.get.result (omega (arith, sites_is)) (c.get.ensures.counter ∙ ap (λ t. get_or c.args.vector.now t 0) c.site_of.ensures) c.loop-number.invariant.written c.in_ok-write_entry.ensures.written;
      kept = kept_more c.args.out.now.items c.loop-number.out.items c.write_entry.new.out.items c.loop-number.invariant.kept c.write_entry.ensures.kept;
    }
