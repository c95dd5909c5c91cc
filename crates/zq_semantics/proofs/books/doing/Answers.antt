use Rattle.std.proofs.Common.{ap, subst, sym}
use Rattle.zq_semantics.proofs.InRange.{moves_sound}
use Rattle.zq_semantics.proofs.KeptRuns.{short_over}
use Rattle.zq_semantics.proofs.MovedBooks.{all_stand, done_part, done_whole, others_stay, some_stand, why_some}
use Rattle.zq_semantics.specs.Books.{AreBooksOf}
use Rattle.zq_semantics.specs.Doing.{Done}
use Rattle.zq_semantics.specs.Reading.{queues_over}
use Rattle.zq_semantics.proofs.books.doing.Goals as goal

pub returns-clause-sound : goal.returns-clause-sound
returns-clause-sound c rule K S heaps command world short limits = moves_sound command (queues_over rule S heaps) limits (short_over rule K S heaps world short)

pub returns-clause-whole : goal.returns-clause-whole
returns-clause-whole c rule K site stamp plan cut st books new heaps below world closed sound are unworn is =
    let stands = all_stand rule K site stamp heaps below plan.moves st books new world closed sound are unworn is in
    let done = done_whole K site stamp plan cut st stands.0 in
    (subst (λ (d : Done). AreBooksOf rule K d.now site new) (sym done) stands.1, ap (λ (d : Done). d.reply) done)

pub returns-clause-part : goal.returns-clause-part
returns-clause-part c rule K site stamp k plan cut st books new heaps below world closed sound are unworn few is why =
    let stands = some_stand rule K site stamp heaps below k plan.moves st books new world closed sound are unworn few is why in
    let done = done_part K site stamp plan cut st k stands.0 (why_some site k plan.moves new why) in
    (subst (λ (d : Done). AreBooksOf rule K d.now site new) (sym done) stands.1, ap (λ (d : Done). d.reply) done)

pub returns-clause-others : goal.returns-clause-others
returns-clause-others c rule K site stamp other moves st books apart are = others_stay rule K site stamp other moves st books apart are
