use Rattle.std.proofs.Common.{◌≡◌, Some, [], false, ap, sym, ◌∙◌}
use Rattle.zq_resp.specs.Partial.{text_so_far}
use Rattle.zq_resp.specs.Stream.{is_inside}
use Rattle.zq_resp.specs.Suspended.{views}
use Rattle.zq_resp.specs.Unfinished.{kept}
use Rattle.zq_resp.proofs.Shorts.{none_kept}
use Rattle.zq_resp.proofs.Streams.{fed_one}
use Rattle.zq_resp.proofs.reader.Reader.next_request.Goals as goal

pub returns-in-Ok-Some-clause-fed : goal.returns-in-Ok-Some-clause-fed
returns-in-Ok-Some-clause-fed c =
    let had = text_so_far c.in-Some.unfinished.partial in
    let outside : is_inside (Some had) ≡ false = cc in
    let none = none_kept had outside in
    let kept_is : kept c.self.inside.unfinished ≡ Some [] = ap kept c.in-Some.is ∙ ap Some none in
    let before : c.args.self.now ≡ Some [] = sym c.self.view_is ∙ kept_is in
    rw (before, kept_is, c.request_of.ensures) (fed_one [] c.args.piece.now (views c.in-Ok-Some.words) c.in-Ok-Some.taken (rw c.in-Ok-Some.field-0-is at c.in-Ok-Some.ensures.read))
