use Rattle.std.proofs.Common.{All, List, arith, ap, length, refl, subst, sym, ◌∙◌}
use Rattle.zq_commands.proofs.Dropped.{ends_dropped, why_found}
use Rattle.zq_commands.proofs.FoundPairs.{cut_first, homes_found, short_found, within_range}
use Rattle.zq_commands.specs.Dropping.{DropsEach}
use Rattle.zq_commands.specs.Lending.{HasBook, queues_in}
use Rattle.zq_commands.specs.Running.{part}
use Rattle.zq_semantics.specs.Plan.{count_in_turn, zrem_part}
use Rattle.zq_semantics.specs.Procedures.{members_of, takes_found}
use Rattle.zq_semantics.specs.Ranges.{ranged}
use Rattle.zq_semantics.specs.Replies.{bytes_of, count_reply}
use Rattle.zq_semantics.specs.Run.{Memory, cut_error}
use Rattle.zq_words.specs.Limits.{IsShort}
use Rattle.zq_words.specs.Words.{Word, views}
use Rattle.zq_commands.proofs.remove_range.remove_range.Goals as goal

pub drop_each-requires-clause-homes : goal.drop_each-requires-clause-homes
drop_each-requires-clause-homes g c =
    let lent = g.B.Books.lent c.args.books.now in
    let key = c.args.key.now in
    subst (λ (words : List Word). All (λ member. HasBook key member lent) words) (sym (ap views c.deref.ensures.value ∙ c.in-Ok.ensures.members))
    (homes_found lent c.requires.lent key (ranged c.args.range.now (queues_in lent key)) (within_range lent c.requires.lent key c.args.range.now))

pub drop_each-requires-clause-members : goal.drop_each-requires-clause-members
drop_each-requires-clause-members g c =
    let lent = g.B.Books.lent c.args.books.now in
    let key = c.args.key.now in
    subst (λ (words : List Word). All IsShort words) (sym (ap views c.deref.ensures.value ∙ c.in-Ok.ensures.members))
    (short_found lent c.requires.lent key (ranged c.args.range.now (queues_in lent key)) (within_range lent c.requires.lent key c.args.range.now))

pub returns-in-Ok-clause-ran : goal.returns-in-Ok-clause-ran
returns-in-Ok-clause-ran g c =
    let old = g.B.Books.lent c.args.books.now in
    let new = g.B.Books.lent c.drop_each.new.books in
    let key = c.args.key.now in
    let site = c.args.call.now.site in
    let stamp = c.args.call.now.stamp in
    let words = members_of (ranged c.args.range.now (queues_in old key)) in
    let drops = subst (λ (ws : List Word). DropsEach site stamp key ws old new c.drop_each.result) (ap views c.deref.ensures.value ∙ c.in-Ok.ensures.members) c.drop_each.ensures.dropped in
    ends_dropped site stamp (takes_found (length (queues_in old key))) key words old new c.drop_each.result drops
    (count_reply (count_in_turn (zrem_part key) words (queues_in old))) (λ k. cut_error k) _ _ (λ next want why. why_found site (length (queues_in old key)) next new.books want why)
    (λ none left. c.answer_dropped.ensures.whole none ∙ ap (λ n. bytes_of (count_reply n)) left.1) c.answer_dropped.ensures.part c.answer_dropped.ensures.short

pub returns-in-Err-clause-ran : goal.returns-in-Err-clause-ran
returns-in-Err-clause-ran g c =
    let lent = g.B.Books.lent c.args.books.now in
    let key = c.args.key.now in
    let why = cut_first c.args.call.now.site key lent c.requires.lent (ranged c.args.range.now (queues_in lent key)) (within_range lent c.requires.lent key c.args.range.now) (length (queues_in lent key)) c.in-Err.ensures.some in
    part 0 Memory (omega arith) refl why c.of_cut.ensures.bytes (λ e. c.of_cut.ensures.short refl)
