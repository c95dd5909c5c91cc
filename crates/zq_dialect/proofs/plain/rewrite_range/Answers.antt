use Rattle.std.proofs.lemmas.Result.{err_from_is_err_and}
use Rattle.zq_dialect.proofs.Others.{range_other, range_stays}
use Rattle.zq_words.specs.Words.{views}
use Rattle.zq_dialect.proofs.plain.rewrite_range.Goals as goal

pub returns-in_err-make_range : goal.returns-in_err-make_range
returns-in_err-make_range c =
    let p = err_from_is_err_and c.from_residual.result c.from_residual.ensures.1 in
    rw (p.1, p.2) (range_other c.args.name.now c.args.key.now c.args.first.now c.args.second.now c.args.ends (views c.args.others.now) c.has_new_end.result c.has_new_end.ensures c.if-has_new_end.true)

pub returns-else-has_new_end : goal.returns-else-has_new_end
returns-else-has_new_end c =
    range_stays c.args.name.now c.args.key.now c.args.first.now c.args.second.now c.args.ends (views c.args.others.now) c.has_new_end.result c.has_new_end.ensures c.if-has_new_end.false
