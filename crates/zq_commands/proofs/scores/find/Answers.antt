use Rattle.std.proofs.Common.{sym, ◌∙◌}
use Rattle.zq_commands.proofs.Widths.{score_wide}
use Rattle.zq_model.proofs.Read.{in_place, read_score}
use Rattle.zq_posheap.proofs.Lists.{there_is}
use Rattle.zq_commands.proofs.scores.find.Goals as goal

pub returns-clause-score : goal.returns-clause-score
returns-clause-score g c =
    let lent = g.B.Books.lent c.args.books.now in
    let place = c.home-place.result in
    let book = there_is lent.books place c.home-place.ensures.inside in
    c.score-score.ensures book.0 book.1
    ∙ sym (read_score lent.rule lent.heaps lent.books c.args.key.now c.args.member.now book.0 c.requires.lent.books (in_place lent.books place book.0 book.1) (c.home-place.ensures.home book.0 book.1))

pub returns-clause-wide : goal.returns-clause-wide
returns-clause-wide g c =
    let lent = g.B.Books.lent c.args.books.now in
    let place = c.home-place.result in
    let book = there_is lent.books place c.home-place.ensures.inside in
    score_wide lent.rule lent.heaps lent.books c.args.key.now c.args.member.now book.0 c.requires.lent.books (in_place lent.books place book.0 book.1) c.score-score.result (c.score-score.ensures book.0 book.1)
