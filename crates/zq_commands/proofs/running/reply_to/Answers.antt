use Rattle.std.proofs.Common.{All, map, rules, subst, sym, true, ◌≡◌}
use Rattle.zq_commands.proofs.RanPlans.{ran_read}
use Rattle.zq_commands.specs.Commands.{HasBooks, IsRunOver, is_reading}
use Rattle.zq_commands.specs.Lending.{HasBook, queues_in}
use Rattle.zq_commands.specs.Running.{EndsOver}
use Rattle.zq_semantics.specs.Plan as plan
use Rattle.zq_semantics.specs.Run.{ForMoves, cut_error}
use Rattle.zq_resp.specs.Reply.{reply_bytes}
use Rattle.zq_words.specs.Shown.{pair_shown, shown}
use Rattle.zq_commands.proofs.running.reply_to.Goals as goal

pub put_pairs-requires-clause-homes : goal.put_pairs-requires-clause-homes
put_pairs-requires-clause-homes g c =
    subst (λ pairs. All (λ pair. HasBook c.in-Zadd.key.now pair.1 (g.B.Books.lent c.args.books.now)) (map pair_shown pairs)) (sym c.as_slice.ensures)
    (subst (λ kind. HasBooks (shown kind) (g.B.Books.lent c.args.books.now)) c.in-Zadd.is c.requires.homes)

pub raise_if-requires-clause-home : goal.raise_if-requires-clause-home
raise_if-requires-clause-home g c = subst (λ kind. HasBooks (shown kind) (g.B.Books.lent c.args.books.now)) c.in-ZaddIncr.is c.requires.homes

pub raise-requires-clause-home : goal.raise-requires-clause-home
raise-requires-clause-home g c = subst (λ kind. HasBooks (shown kind) (g.B.Books.lent c.args.books.now)) c.in-Zincrby.is c.requires.homes

pub drop_members-requires-clause-homes : goal.drop_members-requires-clause-homes
drop_members-requires-clause-homes g c = subst (λ kind. HasBooks (shown kind) (g.B.Books.lent c.args.books.now)) c.in-Zrem.is c.requires.homes

pub returns-in-Zadd-clause-ran : goal.returns-in-Zadd-clause-ran
returns-in-Zadd-clause-ran g c =
    let old = g.B.Books.lent c.args.books.now in
    let new = g.B.Books.lent c.put_pairs.new.books in
    subst (λ kind. IsRunOver c.args.call.now.site c.args.call.now.stamp (shown kind) old new (reply_bytes (g.O.Outcome.reply c.put_pairs.result)) (g.O.Outcome.is_short c.put_pairs.result)) (sym c.in-Zadd.is)
    (subst (λ pairs. EndsOver c.args.call.now.site c.args.call.now.stamp ForMoves (plan.in_turn (plan.zadd_part c.in-Zadd.key.now c.in-Zadd.flags) (map pair_shown pairs) (queues_in old)) cut_error old new (reply_bytes (g.O.Outcome.reply c.put_pairs.result)) (g.O.Outcome.is_short c.put_pairs.result))
    c.as_slice.ensures c.put_pairs.ensures.ran)

pub returns-in-ZaddIncr-clause-ran : goal.returns-in-ZaddIncr-clause-ran
returns-in-ZaddIncr-clause-ran g c =
    subst (λ kind. IsRunOver c.args.call.now.site c.args.call.now.stamp (shown kind) (g.B.Books.lent c.args.books.now) (g.B.Books.lent c.raise_if.new.books) (reply_bytes (g.O.Outcome.reply c.raise_if.result)) (g.O.Outcome.is_short c.raise_if.result)) (sym c.in-ZaddIncr.is)
    c.raise_if.ensures.ran

pub returns-in-Zincrby-clause-ran : goal.returns-in-Zincrby-clause-ran
returns-in-Zincrby-clause-ran g c =
    subst (λ kind. IsRunOver c.args.call.now.site c.args.call.now.stamp (shown kind) (g.B.Books.lent c.args.books.now) (g.B.Books.lent c.raise.new.books) (reply_bytes (g.O.Outcome.reply c.raise.result)) (g.O.Outcome.is_short c.raise.result)) (sym c.in-Zincrby.is)
    c.raise.ensures.ran

pub returns-in-Zrem-clause-ran : goal.returns-in-Zrem-clause-ran
returns-in-Zrem-clause-ran g c =
    subst (λ kind. IsRunOver c.args.call.now.site c.args.call.now.stamp (shown kind) (g.B.Books.lent c.args.books.now) (g.B.Books.lent c.drop_members.new.books) (reply_bytes (g.O.Outcome.reply c.drop_members.result)) (g.O.Outcome.is_short c.drop_members.result)) (sym c.in-Zrem.is)
    c.drop_members.ensures.ran

pub returns-in-Del-clause-ran : goal.returns-in-Del-clause-ran
returns-in-Del-clause-ran g c =
    subst (λ kind. IsRunOver c.args.call.now.site c.args.call.now.stamp (shown kind) (g.B.Books.lent c.args.books.now) (g.B.Books.lent c.clear_keys.new.books) (reply_bytes (g.O.Outcome.reply c.clear_keys.result)) (g.O.Outcome.is_short c.clear_keys.result)) (sym c.in-Del.is)
    c.clear_keys.ensures.ran

pub returns-in_default-clause-ran : goal.returns-in_default-clause-ran
returns-in_default-clause-ran g c =
    let reads : is_reading (shown c.args.kind.now) ≡ true = search rules in
    let lent = g.B.Books.lent c.args.books.now in
    ran_read c.args.call.now.site c.args.call.now.stamp (shown c.args.kind.now) lent _ _ reads c.read.ensures.read
