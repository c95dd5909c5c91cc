-- proofs/worker/Worker/close_all/Answers.antt
use Rattle.mio.specs.declared.net.stream.TcpStream.{TcpStream}
use Rattle.std.proofs.Common.{◌+◌, ◌<◌, ◌≤◌, List, None, Option, ap, arith, length, subst, sym, ◌∙◌, ℕ}
use Rattle.std.proofs.lemmas.Grind.{common_steps}
use Rattle.std.proofs.lemmas.List.{length-set}
use Rattle.zq_loop.proofs.Living.{cleared-all, cleared-more, rests-join}
use Rattle.zq_loop.proofs.worker.Worker.close_all.Goals as goal
use Rattle.zq_loop.specs.Life.{IsAt}
use Rattle.zq_loop.specs.declared.client.Client.{Client}

pub loop-place-preserved : goal.loop-place-preserved
loop-place-preserved g c =
    let old = c.loop-place.self.clients.items in
    let at = c.loop-place.place in
    let gone = c.remove.ensures.gone in
    let none = subst (λ (items : List (Option (Client TcpStream g.row.C.Denot))). (k : ℕ) → k < at + 1 → (client : Client TcpStream g.row.C.Denot) → IsAt items k client → ⊥) (sym gone) (cleared-more old at c.loop-place.invariant.2) in
    (rests-join _ _ _ c.loop-place.invariant.0 c.remove.ensures.rests, ap length gone ∙ (length-set old at None ∙ c.loop-place.invariant.1), none)

pub returns-clause-none : goal.returns-clause-none
returns-clause-none g c =
    let within : length c.loop-place.self.clients.items ≤ c.loop-place.place = grind (arith, common_steps) in
    cleared-all c.loop-place.self.clients.items c.loop-place.place within c.loop-place.invariant.2
