use Rattle.std.proofs.Common.{◌++◌, ap, sym, ◌∙◌}
use Rattle.zq_resp.specs.Unfinished.{kept}
use Rattle.zq_resp.specs.Stream.{handed}
use Rattle.zq_resp.proofs.Limits.{stands_part}
use Rattle.zq_resp.proofs.reader.Reader.feed.Goals as goal

pub returns-in-Ok : goal.returns-in-Ok
returns-in-Ok c =
    let had = sym c.self.view_is ∙ ap kept (sym c.in-Some.ensures.value) in
    let gives = c.in-Ok.ensures in
    rw had (
      gives.0,
      record { reaches = gives.2; partial = stands_part c.in-Ok.unfinished gives.1 },
      gives.3 ∙ ap (λ before. before ++ handed gives.0) c.new-requests.ensures.items,
    )
