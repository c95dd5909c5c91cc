use Rattle.std.proofs.Common.{List, Option, ap, arith, map, take, ℕ, ◌∙◌, ◌≡◌}
use Rattle.std.proofs.lemmas.List.{take_all}
use Rattle.zq_follow.specs.Routes.{Reach, asked_by, chosen}
use Rattle.zq_follow.proofs.relays.asks.Goals as goal

pub returns-clause-asked : goal.returns-clause-asked
returns-clause-asked c =
    let reaches = c.args.reaches.now in
    let whole : take c.loop-peer.peer-index reaches ≡ reaches = take_all c.loop-peer.peer-index reaches (omega arith) in
    let asked : List (Option ℕ) → List Reach → List Reach = λ choices rs. map (λ (r : Reach). let x : Reach = (r.0, asked_by c.args.own c.args.linked.now choices r.0) in x) rs in
    c.loop-peer.invariant ∙ (ap (λ choices. asked choices (take c.loop-peer.peer-index reaches)) c.choose-chosen.ensures ∙ ap (λ rs. asked (chosen reaches) rs) whole)
