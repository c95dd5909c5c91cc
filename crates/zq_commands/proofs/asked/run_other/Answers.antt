use Rattle.std.proofs.Common.{arith, map, refl, subst, sym, true, ◌≡◌}
use Rattle.std.proofs.lemmas.Int.{to_z-of_z}
use Rattle.zq_commands.proofs.RanPlans.{ends_shorter, reading_ran}
use Rattle.zq_commands.specs.Calls.{EndsProcedure, HasCallBooks}
use Rattle.zq_commands.specs.Lending.{queues_in}
use Rattle.zq_commands.specs.Running.{EndsOver, whole}
use Rattle.zq_model.specs.Moves.{score_in}
use Rattle.zq_resp.specs.Reply.{reply_bytes}
use Rattle.zq_semantics.specs.Procedures as pops
use Rattle.zq_semantics.specs.Procedures.{procedure}
use Rattle.zq_semantics.specs.Ranges.{from_zero}
use Rattle.zq_semantics.specs.Replies.{Scores}
use Rattle.zq_semantics.specs.Run.{ForCopies, cut_error}
use Rattle.zq_words.specs.Calls.{IsCallWithinLimits, call_shown}
use Rattle.zq_words.specs.Words.{views}
use Rattle.zq_words.specs.declared.site_call.SiteCall.{SiteCall}
use Rattle.zq_commands.proofs.asked.run_other.Goals as goal

pub read_scores-requires-clause-homes : goal.read_scores-requires-clause-homes
read_scores-requires-clause-homes g c = subst (λ (asked : SiteCall). HasCallBooks (call_shown asked) (g.B.Books.lent c.args.books.now)) c.in-Scores.is c.requires.homes

pub read_scores-requires-clause-key : goal.read_scores-requires-clause-key
read_scores-requires-clause-key g c = (subst (λ (asked : SiteCall). IsCallWithinLimits (call_shown asked)) c.in-Scores.is c.requires.limits).0

pub returns-in-Scores-clause-told : goal.returns-in-Scores-clause-told
returns-in-Scores-clause-told g c =
    let lent = g.B.Books.lent c.args.books.now in
    subst (λ (asked : SiteCall). EndsProcedure c.args.call.now.site c.args.call.now.stamp (procedure (call_shown asked)) lent lent (reply_bytes (g.O.Outcome.reply c.read_scores.result)) (g.O.Outcome.is_short c.read_scores.result)) (sym c.in-Scores.is)
    (reading_ran c.args.call.now.site c.args.call.now.stamp true 0 (Scores (map (score_in (queues_in lent c.in-Scores.key.now)) (views c.in-Scores.members.now))) (λ k. cut_error k) lent _ _ refl c.read_scores.ensures.read)

pub returns-in-Exist-clause-told : goal.returns-in-Exist-clause-told
returns-in-Exist-clause-told g c =
    let lent = g.B.Books.lent c.args.books.now in
    subst (λ (asked : SiteCall). EndsProcedure c.args.call.now.site c.args.call.now.stamp (procedure (call_shown asked)) lent lent (reply_bytes (g.O.Outcome.reply c.read_keys.result)) (g.O.Outcome.is_short c.read_keys.result)) (sym c.in-Exist.is)
    (whole refl c.read_keys.ensures.bytes)

pub returns-in-TypeOf-clause-told : goal.returns-in-TypeOf-clause-told
returns-in-TypeOf-clause-told g c =
    let lent = g.B.Books.lent c.args.books.now in
    subst (λ (asked : SiteCall). EndsProcedure c.args.call.now.site c.args.call.now.stamp (procedure (call_shown asked)) lent lent (reply_bytes (g.O.Outcome.reply c.read_type.result)) (g.O.Outcome.is_short c.read_type.result)) (sym c.in-TypeOf.is)
    (whole refl c.read_type.ensures.bytes)

pub pop_last-requires-clause-key : goal.pop_last-requires-clause-key
pop_last-requires-clause-key g c = (subst (λ (asked : SiteCall). IsCallWithinLimits (call_shown asked)) c.in-PopLast.is c.requires.limits).0

pub returns-in-PopLast-clause-told : goal.returns-in-PopLast-clause-told
returns-in-PopLast-clause-told g c =
    let old = g.B.Books.lent c.args.books.now in
    let new = g.B.Books.lent c.pop_last.new.books in
    let key = c.in-PopLast.key.now in
    let ran = c.pop_last.result in
    let out = c.of_ran.result in
    let same : c.from_zero.result ≡ from_zero c.in-PopLast.count = grind (arith, to_z-of_z, c.from_zero.ensures.value) in
    subst (λ (asked : SiteCall). EndsProcedure c.args.call.now.site c.args.call.now.stamp (procedure (call_shown asked)) old new (reply_bytes (g.O.Outcome.reply out)) (g.O.Outcome.is_short out)) (sym c.in-PopLast.is)
    (ends_shorter c.args.call.now.site c.args.call.now.stamp _ _ _ _ _ ran.reply _ ran.is_short _ c.of_ran.ensures.reply c.of_ran.ensures.short
    (subst (λ n. EndsOver c.args.call.now.site c.args.call.now.stamp ForCopies ((pops.pop_last key n).plan (queues_in old)) ((pops.pop_last key n).cut (queues_in old)) old new (reply_bytes ran.reply) ran.is_short) same c.pop_last.ensures.ran))

pub remove_range-requires-clause-key : goal.remove_range-requires-clause-key
remove_range-requires-clause-key g c = (subst (λ (asked : SiteCall). IsCallWithinLimits (call_shown asked)) c.in-RemoveRange.is c.requires.limits).0

pub returns-in-RemoveRange-clause-told : goal.returns-in-RemoveRange-clause-told
returns-in-RemoveRange-clause-told g c =
    subst (λ (asked : SiteCall). EndsProcedure c.args.call.now.site c.args.call.now.stamp (procedure (call_shown asked)) (g.B.Books.lent c.args.books.now) (g.B.Books.lent c.remove_range.new.books) (reply_bytes (g.O.Outcome.reply c.remove_range.result)) (g.O.Outcome.is_short c.remove_range.result)) (sym c.in-RemoveRange.is)
    c.remove_range.ensures.ran

pub pop_leftmost-requires-clause-keys : goal.pop_leftmost-requires-clause-keys
pop_leftmost-requires-clause-keys g c = (subst (λ (asked : SiteCall). IsCallWithinLimits (call_shown asked)) c.in-PopLeftmost.is c.requires.limits).0

pub returns-in-PopLeftmost-clause-told : goal.returns-in-PopLeftmost-clause-told
returns-in-PopLeftmost-clause-told g c =
    subst (λ (asked : SiteCall). EndsProcedure c.args.call.now.site c.args.call.now.stamp (procedure (call_shown asked)) (g.B.Books.lent c.args.books.now) (g.B.Books.lent c.pop_leftmost.new.books) (reply_bytes (g.O.Outcome.reply c.pop_leftmost.result)) (g.O.Outcome.is_short c.pop_leftmost.result)) (sym c.in-PopLeftmost.is)
    c.pop_leftmost.ensures.ran
