use Rattle.std.proofs.lemmas.Result.{MatchResult-weaker}
use Rattle.log.proofs.VisitLemmas.{FoldsTo-append_known}
use Rattle.zq_site.proofs.report.ReportSource.visit.Goals as goal

-- the five visits in a row are a visit of all pairs
pub returns : goal.returns
returns g c =
    MatchResult-weaker c.visit_places.result c.visit_places.ensures
    (λ _ places. FoldsTo-append_known _ _ _ _ _ _ c.in_ok-visit_peer.ensures
    (FoldsTo-append_known _ _ _ _ _ _ c.in_ok-visit_link.ensures
    (FoldsTo-append_known _ _ _ _ _ _ c.in_ok-visit_counts.ensures
    (FoldsTo-append_known _ _ _ _ _ _ c.in_ok-visit_disk.ensures places)))) (λ _ h. h)
