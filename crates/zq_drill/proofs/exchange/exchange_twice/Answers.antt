use Rattle.std.proofs.Common.{length, subst, ◌≡◌, ◌∙◌}
use Rattle.std.proofs.lemmas.Result.{on_ok_weaker}
use Rattle.zq_drill.proofs.Meetings.{meetings_append}
use Rattle.zq_drill.proofs.exchange.exchange_twice.Goals as goal
use Rattle.zq_drill.specs.Meetings.{AreMeetings, round, to_each}
use Rattle.zq_drill.specs.SiteHandles.{places_of}

pub returns-clause-exchanged : goal.returns-clause-exchanged
returns-clause-exchanged g c =
    let before = places_of c.args.handles.now in
    let mid = places_of c.exchange_all.new.handles in
    let after = places_of c.exchange_all-2.new.handles in
    let again : length c.exchange_all.new.handles ≡ 3 = c.exchange_all.ensures.len ∙ c.requires in
    let first : AreMeetings round before mid = subst (λ n. AreMeetings (to_each n n) before mid) c.requires c.in_ok-exchange_all.ensures.exchanged in
    on_ok_weaker c.exchange_all-2.result (λ second. meetings_append round round before mid after first (subst (λ n. AreMeetings (to_each n n) mid after) again second)) c.exchange_all-2.ensures.exchanged
