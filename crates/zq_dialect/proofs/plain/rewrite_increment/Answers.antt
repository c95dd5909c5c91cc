use Rattle.std.proofs.Common.{is_some, true, ◌≡◌}
use Rattle.std.proofs.lemmas.Result.{err_from_is_err_and}
use Rattle.zq_dialect.proofs.Others.{increment_other}
use Rattle.zq_dialect.specs.Spelled.{new_score}
use Rattle.zq_words.specs.Words.{views}
use Rattle.zq_dialect.proofs.plain.rewrite_increment.Goals as goal

pub returns-in_err-make_increment : goal.returns-in_err-make_increment
returns-in_err-make_increment c =
    let p = err_from_is_err_and c.from_residual.result c.from_residual.ensures.1 in
    let some : is_some (new_score c.args.increment.now) ≡ true = cc (c.find_score.ensures, c.is_some.ensures, c.if-is_some.true) in
    rw (p.1, p.2) (increment_other c.args.name.now c.args.key.now c.args.increment.now (views c.args.others.now) some)
