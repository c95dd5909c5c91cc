use Rattle.std.proofs.Common.{ap, sym, ◌∙◌}
use Rattle.std.proofs.lemmas.Int.{to_z-of_z}
use Rattle.std.specs.Int.{w128}
use Rattle.std.specs.List.{position}
use Rattle.std.specs.Ordering.{is_lt}
use Rattle.std.specs.Prelude.{Some, count_by, ℤ}
use Rattle.zq_model.specs.Meaning.{scored_cmp}
use Rattle.zq_queue.proofs.Ranks.{entry_rank, no_rank}
use Rattle.zq_queue.specs.Listed.{is_of_member, listed}
use Rattle.zq_queue.proofs.queue.Queue.rank.Goals as goal

pub returns-in_err-score : goal.returns-in_err-score
returns-in_err-score c =
    let m = c.args.member.now in
    let its = c.self.inside.members in
    c.from_residual.ensures ∙ sym (no_rank its.rule its.entries m (sym c.score.ensures.score ∙ c.in_err-score.was))
    ∙ ap (λ q. position (is_of_member m) (listed q.rule q.entries)) c.self.view_is

pub returns : goal.returns
returns c =
    let m = c.args.member.now in
    let its = c.self.inside.members in
    let x = c.in_ok-score.score in
    ap (λ n. Some n) (c.count_before.ensures
    ∙ ap (λ (y : ℤ). count_by (λ z. is_lt (scored_cmp z (y, m))) (listed its.rule its.entries)) (to_z-of_z w128 x c.in_ok-score.ensures.fits))
    ∙ entry_rank its.rule its.entries c.score.ensures.kept m x (sym c.score.ensures.score ∙ c.in_ok-score.was)
    ∙ ap (λ q. position (is_of_member m) (listed q.rule q.entries)) c.self.view_is
