use Rattle.std.proofs.Common.{ap, arith, length, ◌∙◌}
use Rattle.std.proofs.lemmas.List.{length_push}
use Rattle.std.specs.Prelude.{map}
use Rattle.zq_commands.proofs.CutPairs.{writable_more}
use Rattle.zq_resp.specs.Reply.{reply_bytes}
use Rattle.zq_session.proofs.Woven.{woven_begun, woven_more, woven_whole}
use Rattle.zq_session.proofs.transacting.weave.Goals as goal

pub loop-place-preserved : goal.loop-place-preserved
loop-place-preserved c =
    let at = c.loop-place in
    let put = c.push_reserved.ensures.items in
    let long = ap length put ∙ length_push at.room.items c.reply_at-reply.result in
    record {
      room = omega (arith, long, at.invariant.room, c.push_reserved.ensures.capacity);
      count = c.reply_at-reply.ensures.count;
      woven = λ all left. woven_more c.args.places.now at.place-index _ _ _ at.room.items _ c.reply_at-reply.result all c.loop-place-test.true c.reply_at-reply.ensures.reply put (at.invariant.woven all left);
      writable = λ had came.
          let were = at.invariant.writable had came in
          let are = c.reply_at-reply.ensures.writable were.1 in
          (writable_more at.room.items _ c.reply_at-reply.result put are.0 were.0, are.1);
    }

pub returns-clause-woven : goal.returns-clause-woven
returns-clause-woven c = λ queue placed called.
    woven_whole c.args.places.now c.loop-place.place-index _ _ _ c.loop-place-test.false
    (c.loop-place.invariant.woven _ (woven_begun c.args.places.now queue _ c.args.replies.items (map reply_bytes c.args.room.now.items) c.into_iter-left.ensures.rest placed called))
