use Rattle.std.proofs.Common.{All, Bool, [], ap, arith, length, subst, sym, true, ◌++◌, ◌∙◌, ◌∷◌, ◌≡◌}
use Rattle.std.proofs.lemmas.List.{length-append}
use Rattle.std.proofs.lemmas.List.Elements.{All-push}
use Rattle.std.specs.Bool.{if◌then◌else◌}
use Rattle.std.specs.Result.{is_ok}
use Rattle.zq_serve.proofs.ports.open_ports.Goals as goal
use Rattle.zq_serve.specs.Ports.{IsOpen}

pub loop-port-preserved : goal.loop-port-preserved
loop-port-preserved g c =
    let had = c.loop-port.opened.items in
    let one = c.in_ok-one.one in
    let is_open = IsOpen c.args.workers in
    let ok : is_ok c.push.result ≡ true = sym c.map_err.ensures.variant ∙ ap is_ok c.in_ok-map_err.was in
    let pushed : c.push.new.self.items ≡ had ++ one ∷ [] = c.push.ensures.items ∙ ap (λ (b : Bool). if b then had ++ one ∷ [] else had) ok in
    (omega (arith, ap length pushed, length-append had (one ∷ []), c.loop-port.invariant.0), subst (All is_open) (sym pushed) (All-push is_open had one c.loop-port.invariant.1 c.in_ok-one.ensures))
