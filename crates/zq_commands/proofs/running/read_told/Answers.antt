use Rattle.std.proofs.Common.{subst, sym, true, ◌≡◌}
use Rattle.zq_commands.proofs.RanPlans.{read_whole}
use Rattle.zq_commands.specs.Commands.{HasBooks, is_reading}
use Rattle.zq_commands.specs.Lending.{queues_in}
use Rattle.zq_semantics.specs.Plan.{plan_of}
use Rattle.zq_semantics.specs.Replies.{bytes_of}
use Rattle.zq_resp.specs.Reply.{reply_bytes}
use Rattle.zq_words.specs.Command.{Command}
use Rattle.zq_words.specs.Shown.{shown}
use Rattle.zq_commands.proofs.running.read_told.Goals as goal

pub read-requires-clause-homes : goal.read-requires-clause-homes
read-requires-clause-homes g c = subst (λ command. HasBooks command (g.B.Books.lent c.args.books.now)) (sym c.kind.ensures.kind) c.requires.homes

pub read-requires-clause-reads : goal.read-requires-clause-reads
read-requires-clause-reads g c = subst (λ command. is_reading command ≡ true) (sym c.kind.ensures.kind) c.requires.reads

pub returns-clause-read : goal.returns-clause-read
returns-clause-read g c = λ whole.
    let read : reply_bytes c.read.result.reply ≡ bytes_of (plan_of (shown c.kind.result.now) (queues_in (g.B.Books.lent c.args.books.now))).reply
    = read_whole _ _ _ _ c.read.ensures.read whole in
    subst (λ (command : Command). reply_bytes c.read.result.reply ≡ bytes_of (plan_of command (queues_in (g.B.Books.lent c.args.books.now))).reply) c.kind.ensures.kind read
