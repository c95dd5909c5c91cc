use Rattle.std.proofs.lemmas.Result.{err_from_is_err_and}
use Rattle.zq_dialect.proofs.Others.{zadd_other, zadd_stays}
use Rattle.zq_dialect.proofs.plain.rewrite_zadd.Goals as goal

pub returns-else-has_new_score : goal.returns-else-has_new_score
returns-else-has_new_score c =
    zadd_stays c.args.name.now c.args.words.now c.split_at.result.1.now c.count_before_scores.result c.has_new_score.result c.count_before_scores.ensures.count c.split_at.ensures.back
    c.has_new_score.ensures c.if-has_new_score.false

pub returns-in_err-make_pairs : goal.returns-in_err-make_pairs
returns-in_err-make_pairs c =
    let p = err_from_is_err_and c.from_residual.result c.from_residual.ensures.1 in
    rw (p.1, p.2) (zadd_other c.args.name.now c.args.words.now c.split_at.result.1.now c.count_before_scores.result c.has_new_score.result c.count_before_scores.ensures.count
    c.split_at.ensures.back c.has_new_score.ensures c.if-has_new_score.true)
