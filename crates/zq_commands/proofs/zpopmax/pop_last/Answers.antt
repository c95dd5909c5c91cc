use Rattle.std.proofs.Common.{All, List, arith, ap, refl, subst, sym, true, ◌∙◌}
use Rattle.std.proofs.lemmas.Option.{none-some, same_Some}
use Rattle.zq_commands.proofs.Dropped.{ends_dropped, why_copied}
use Rattle.zq_commands.proofs.FoundPairs.{copied_first, homes_found, short_found, within_last}
use Rattle.zq_commands.proofs.Popped.{shown_bytes}
use Rattle.zq_commands.specs.Arrays.{array_bytes}
use Rattle.zq_commands.specs.Dropping.{DropsEach}
use Rattle.zq_commands.specs.Lending.{HasBook, queues_in}
use Rattle.zq_commands.specs.Running.{part}
use Rattle.zq_commands.specs.Stopped.{want_of}
use Rattle.zq_semantics.specs.Procedures.{cut_pairs, last_pairs, members_of}
use Rattle.zq_semantics.specs.Replies.{bytes_of, pairs_reply}
use Rattle.zq_semantics.specs.Run.{ForCopies, Memory}
use Rattle.zq_words.specs.Limits.{IsShort}
use Rattle.zq_words.specs.Words.{Word, views}
use Rattle.zq_commands.proofs.zpopmax.pop_last.Goals as goal

pub drop_each-dropped-requires-clause-homes : goal.drop_each-dropped-requires-clause-homes
drop_each-dropped-requires-clause-homes g c =
    let lent = g.B.Books.lent c.args.books.now in
    let key = c.args.key.now in
    subst (λ (words : List Word). All (λ member. HasBook key member lent) words) (sym (ap views c.deref.ensures.value ∙ c.in-Ok.ensures.members))
    (homes_found lent c.requires.lent key (last_pairs c.args.count (queues_in lent key)) (within_last lent c.requires.lent key c.args.count))

pub drop_each-dropped-requires-clause-members : goal.drop_each-dropped-requires-clause-members
drop_each-dropped-requires-clause-members g c =
    let lent = g.B.Books.lent c.args.books.now in
    let key = c.args.key.now in
    subst (λ (words : List Word). All IsShort words) (sym (ap views c.deref.ensures.value ∙ c.in-Ok.ensures.members))
    (short_found lent c.requires.lent key (last_pairs c.args.count (queues_in lent key)) (within_last lent c.requires.lent key c.args.count))

pub returns-in-Err-clause-ran : goal.returns-in-Err-clause-ran
returns-in-Err-clause-ran g c =
    let lent = g.B.Books.lent c.args.books.now in
    let key = c.args.key.now in
    let why = copied_first c.args.call.now.site key lent c.requires.lent (last_pairs c.args.count (queues_in lent key)) (within_last lent c.requires.lent key c.args.count) c.in-Err.ensures.some in
    part 0 Memory (omega arith) refl why c.of_cut.ensures.bytes (λ e. c.of_cut.ensures.short refl)

pub returns-in-None-clause-ran : goal.returns-in-None-clause-ran
returns-in-None-clause-ran g c =
    let old = g.B.Books.lent c.args.books.now in
    let new = g.B.Books.lent c.drop_each-dropped.new.books in
    let key = c.args.key.now in
    let site = c.args.call.now.site in
    let stamp = c.args.call.now.stamp in
    let pairs = last_pairs c.args.count (queues_in old key) in
    let words = members_of pairs in
    let drops = subst (λ (ws : List Word). DropsEach site stamp key ws old new c.drop_each-dropped.result) (ap views c.deref.ensures.value ∙ c.in-Ok.ensures.members) c.drop_each-dropped.ensures.dropped in
    ends_dropped site stamp ForCopies key words old new c.drop_each-dropped.result drops (pairs_reply true pairs) (cut_pairs pairs) _ _ (λ next want why. why_copied site next new.books want why)
    (λ none left. c.array_reply.ensures.bytes ∙ ap array_bytes c.in-Ok.ensures.parts ∙ shown_bytes pairs)
    (λ cut some. absurd (none-some cut (sym c.in-None.is ∙ some))) (λ cut some. absurd (none-some cut (sym c.in-None.is ∙ some)))

pub returns-in-Some-clause-ran : goal.returns-in-Some-clause-ran
returns-in-Some-clause-ran g c =
    let old = g.B.Books.lent c.args.books.now in
    let new = g.B.Books.lent c.drop_each-dropped.new.books in
    let key = c.args.key.now in
    let site = c.args.call.now.site in
    let stamp = c.args.call.now.stamp in
    let pairs = last_pairs c.args.count (queues_in old key) in
    let words = members_of pairs in
    let done = c.drop_each-dropped.result.done in
    let drops = subst (λ (ws : List Word). DropsEach site stamp key ws old new c.drop_each-dropped.result) (ap views c.deref.ensures.value ∙ c.in-Ok.ensures.members) c.drop_each-dropped.ensures.dropped in
    ends_dropped site stamp ForCopies key words old new c.drop_each-dropped.result drops (pairs_reply true pairs) (cut_pairs pairs) _ _ (λ next want why. why_copied site next new.books want why)
    (λ none left. absurd (none-some c.in-Some.cut (sym none ∙ c.in-Some.is)))
    (λ cut some. c.cut_parts.ensures.bytes pairs c.in-Ok.ensures.parts ∙ ap (λ k. bytes_of (cut_pairs pairs done (want_of k))) (same_Some c.in-Some.cut cut (sym c.in-Some.is ∙ some)))
    (λ cut some memory. c.is_memory.ensures (ap want_of (same_Some c.in-Some.cut cut (sym c.in-Some.is ∙ some)) ∙ memory))
