use Rattle.std.proofs.Common.{ap, flat_map, map, sym, true, ◌∙◌}
use Rattle.zq_commands.proofs.Ended.{none_of}
use Rattle.zq_commands.proofs.OnOk.{on_err_of}
use Rattle.zq_commands.specs.Lending.{queues_in}
use Rattle.zq_resp.specs.Reply.{bulk, reply_bytes}
use Rattle.zq_semantics.specs.Procedures.{last_pairs, members_of}
use Rattle.zq_semantics.specs.Replies.{parts_of_pair}
use Rattle.zq_words.specs.Words.{views}
use Rattle.zq_commands.proofs.zpopmax.copy_last.Goals as goal

pub returns-then-has_last-clause-some : goal.returns-then-has_last-clause-some
returns-then-has_last-clause-some g c = on_err_of c.copy_pairs.result (sym c.has_last.ensures ∙ c.if-has_last.true)

pub returns-clause-members : goal.returns-clause-members
returns-clause-members g c =
    let pairs = last_pairs c.args.count (queues_in (g.B.Books.lent c.args.books.now) c.args.key.now) in
    ap views c.new.ensures.items ∙ ap members_of (sym (none_of pairs (sym c.has_last.ensures ∙ c.if-has_last.false)))

pub returns-clause-parts : goal.returns-clause-parts
returns-clause-parts g c =
    let pairs = last_pairs c.args.count (queues_in (g.B.Books.lent c.args.books.now) c.args.key.now) in
    ap (map reply_bytes) c.new-2.ensures.items ∙ ap (λ ps. map bulk (flat_map (parts_of_pair true) ps)) (sym (none_of pairs (sym c.has_last.ensures ∙ c.if-has_last.false)))
