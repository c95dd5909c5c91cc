use Rattle.std.proofs.Common.{Err, Ok, [], ap, append_assoc, subst, sym, ◌++◌, ◌≡◌, ◌∙◌}
use Rattle.zq_wire.proofs.Known.{consumes_join}
use Rattle.zq_wire.proofs.Paid.{heard_on, looked, turned_away, welcomed}
use Rattle.zq_wire.proofs.link.hear_peer.Goals as goal
use Rattle.zq_wire.specs.Links.{Hears, IsWelcomed}
use Rattle.zq_wire.specs.Opened.{opening_of}
use Rattle.zq_wire.specs.declared.link.Opened.{Opened}
use Rattle.zq_wire.specs.declared.link.Unopened.{Unopened}

pub returns-in-Err : goal.returns-in-Err
returns-in-Err g c =
    let (piece, read, split) = c.loop.invariant.read in
    let opens : opening_of c.args.side.now c.args.said.now c.loop.heard.items ≡ Err c.in-Err.refusal =
    sym (c.hear_opening.ensures ∙ ap (opening_of c.args.side.now c.args.said.now) c.deref.ensures.value) ∙ c.in-Err.is in
    subst (λ (why : Unopened). Hears c.args.side.now c.args.said.now c.args.heard.items (g.R.Read.remaining c.args.reader.now) (g.R.Read.remaining c.loop.reader)
    (g.W.Write.contents c.args.writer.now) (g.W.Write.contents c.loop.writer) (Err why)) (sym c.reason_of.ensures)
    (turned_away c.args.side.now c.args.said.now c.loop.heard.items (g.W.Write.contents c.args.writer.now) (g.W.Write.contents c.loop.writer) (g.R.Read.remaining c.args.reader.now)
    (g.R.Read.remaining c.loop.reader) c.args.heard.items piece c.in-Err.refusal read split opens)

pub returns-in-Welcome : goal.returns-in-Welcome
returns-in-Welcome g c =
    let held = g.W.Write.contents c.args.writer.now in
    let now = g.W.Write.contents c.write_owed.new.writer in
    let (piece, read, split) = c.loop.invariant.read in
    let settled =
    looked c.args.side.now c.args.said.now (g.W.Write.contents c.args.writer.now) (g.W.Write.contents c.loop.writer) (g.W.Write.contents c.write_owed.new.writer) c.loop.heard.items c.deref.result.now
    c.loop.owed c.in_ok-owed.owed c.hear_opening.result c.in-Ok.opening c.answer_of.result c.loop.invariant.owed c.deref.ensures.value c.hear_opening.ensures c.in-Ok.is c.answer_of.ensures
    c.in_ok-owed.ensures.paid in
    let opens : opening_of c.args.side.now c.args.said.now c.loop.heard.items ≡ Ok c.in-Ok.opening =
    sym (c.hear_opening.ensures ∙ ap (opening_of c.args.side.now c.args.said.now) c.deref.ensures.value) ∙ c.in-Ok.is in
    let opened : Opened = record { peer = c.in-Welcome.peer; version = c.in-Welcome.version; run = c.in-Welcome.run'; first = c.in_ok-first.first } in (
      piece,
      read,
      subst (λ text. IsWelcomed c.args.side.now c.args.said.now text (g.W.Write.contents c.args.writer.now) (g.W.Write.contents c.write_owed.new.writer) [] opened) split
          (welcomed c.args.side.now c.args.said.now (g.W.Write.contents c.args.writer.now) (g.W.Write.contents c.write_owed.new.writer) c.loop.heard.items c.deref-in-Welcome.result.now c.in_ok-owed.owed
          c.in-Ok.opening c.in-Welcome.peer c.in-Welcome.version c.in-Welcome.run' c.in-Welcome.answer c.in-Welcome.used opened opens c.in-Welcome.is settled
          (λ _. c.in-Welcome.peer) (λ _. c.in-Welcome.version) (λ _. c.in-Welcome.run') c.in_ok-first.ensures.first c.deref-in-Welcome.ensures.value),
    )

pub loop-preserved : goal.loop-preserved
loop-preserved g c =
    let (piece, read, split) = c.loop.invariant.read in
    let (more, read_more, longer) = c.in_ok-read_some.ensures.read in
    let settled =
    looked c.args.side.now c.args.said.now (g.W.Write.contents c.args.writer.now) (g.W.Write.contents c.loop.writer) (g.W.Write.contents c.write_owed.new.writer) c.loop.heard.items c.deref.result.now
    c.loop.owed c.in_ok-owed.owed c.hear_opening.result c.in-Ok.opening c.answer_of.result c.loop.invariant.owed c.deref.ensures.value c.hear_opening.ensures c.in-Ok.is c.answer_of.ensures
    c.in_ok-owed.ensures.paid in
    record {
      read = (piece ++ more, consumes_join _ _ _ piece more read read_more, longer ∙ (ap (λ front. front ++ more) split ∙ append_assoc c.args.heard.items piece more));
      owed =
          heard_on c.args.side.now c.args.said.now (g.W.Write.contents c.args.writer.now) (g.W.Write.contents c.write_owed.new.writer) c.loop.heard.items more c.read_some.new.heard.items c.in_ok-owed.owed
          c.in-Ok.opening c.in_default.not-Welcome settled longer;
    }
