use Rattle.std.proofs.Common.{ap, refl, subst, sym, ◌∙◌}
use Rattle.std.specs.Option.{option_copied}
use Rattle.std.specs.Prelude.{List, length, map, ◌++◌, ◌≡◌}
use Rattle.zq_resp.specs.Reply.{reply_bytes}
use Rattle.zq_resp.specs.declared.reply.Reply.{Reply}
use Rattle.zq_session.proofs.Together.{come_ran}
use Rattle.zq_session.proofs.transacting.CallingTransacts.transact.Goals as goal
use Rattle.zq_session.specs.Places.{ArePlacesOf}
use Rattle.zq_session.specs.Transacting.{calls_in, woven}

pub returns-in-Ok-ask_all-clause-transacted : goal.returns-in-Ok-ask_all-clause-transacted
returns-in-Ok-ask_all-clause-transacted g c =
    let queue = c.args.queue.now in
    let program = c.in-Ok.ensures in
    let replies = c.ask_all.new.replies.items in
    let own = c.args.self.now.commands.own.now in
    let put = λ (number : length (calls_in queue) ≡ length replies).
    c.weave.ensures.woven queue (subst (λ places. ArePlacesOf places queue) (sym c.deref-in-Ok-ask_all.ensures.value) program.placed) number
    ∙ ap (λ (had : List Reply). map reply_bytes had ++ woven queue (map reply_bytes replies)) program.none in (
      refl,
      record {
        site = c.ask_all.ensures.site;
        comes = come_ran own.site.now queue (option_copied c.args.watched) c.in-Ok.program.calls.items own.pass c.ask_all.new.self.own.now.pass program.called
            c.deref.result.now c.new-replies.result.items replies c.weave.new.room.items c.deref.ensures.value c.new-replies.ensures.items c.in-Ok-ask_all.ensures.asked put;
        draws = c.ask_all.ensures.draws;
      },
    )
