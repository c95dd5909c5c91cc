use Rattle.std.proofs.Common.{ap, subst, sym, ◌++◌, ◌≡◌, ◌∙◌}
use Rattle.std.specs.Io.KnownBytes.{Appends}
use Rattle.zq_wire.proofs.Paid.{greeted}
use Rattle.zq_wire.proofs.link.greet.Goals as goal
use Rattle.zq_wire.specs.Said.{said_by}

pub returns : goal.returns
returns g c =
    let is : c.deref-2.result.now ≡ said_by c.args.side.now =
    c.deref-2.ensures.value ∙ (c.in_ok-write_greeting.ensures.written ∙ ap (λ bytes. bytes ++ said_by c.args.side.now) c.new-said.ensures.items) in
    let same : c.deref.result.now ≡ c.deref-2.result.now = c.deref.ensures.value ∙ sym c.deref-2.ensures.value in
    greeted c.args.side.now c.deref-2.result.now c.args.heard.items _ _ (g.W.Write.contents c.args.writer.now) (g.W.Write.contents c.write_all.new.self) _ c.hear_peer.result is
    (subst (Appends (g.W.Write.contents c.args.writer.now) (g.W.Write.contents c.write_all.new.self)) same c.in_ok-write_all.ensures.bytes) c.hear_peer.ensures
