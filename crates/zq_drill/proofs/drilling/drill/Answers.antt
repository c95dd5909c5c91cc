use Rattle.std.proofs.Common.{ap, length, ◌≡◌, ◌∙◌}
use Rattle.std.proofs.lemmas.List.{take_at}
use Rattle.std.specs.Io.KnownBytes.{Appends}
use Rattle.std.specs.Prelude.{Bool, List, [], ◌∷◌}
use Rattle.zq_drill.proofs.Opened.{three_posts}
use Rattle.zq_drill.proofs.Outcomes.{outcome}
use Rattle.zq_drill.proofs.drilling.drill.Goals as goal
use Rattle.zq_drill.specs.SiteHandles.{numbers_of, places_of}
use Rattle.zq_drill.specs.Report.{report}
use Rattle.zq_model.specs.Meaning.{Scored}

pub finish-requires : goal.finish-requires
finish-requires g c =
    let numbers : numbers_of (places_of c.deref_mut.result.now) ≡ 0 ∷ 1 ∷ 2 ∷ [] = ap (λ handles. numbers_of (places_of handles)) c.deref_mut.ensures.value ∙ c.in_ok-callers.ensures in
    let same = c.deref_mut-2.ensures.value ∙ take_at c.exchange_twice.new.handles _ c.in_ok-callers.field-0.last.len (c.exchange_twice.ensures.len ∙ c.deref_mut.ensures.len) in
    ap length same ∙ (c.exchange_twice.ensures.len ∙ three_posts c.deref_mut.result.now numbers)

pub returns : goal.returns
returns g c =
    let numbers : numbers_of (places_of c.deref_mut.result.now) ≡ 0 ∷ 1 ∷ 2 ∷ [] = ap (λ handles. numbers_of (places_of handles)) c.deref_mut.ensures.value ∙ c.in_ok-callers.ensures in
    let same = c.deref_mut-2.ensures.value ∙ take_at c.exchange_twice.new.handles _ c.in_ok-callers.field-0.last.len (c.exchange_twice.ensures.len ∙ c.deref_mut.ensures.len) in
    let three = c.exchange_twice.ensures.len ∙ three_posts c.deref_mut.result.now numbers in
    let writes = λ (lists : List (List Scored)) (equal : Bool). Appends (g.W.Write.contents c.args.out.now) (g.W.Write.contents c.finish.new.out) (report lists equal) in
    outcome c.finish.result c.deref_mut.result.now c.exchange_twice.new.handles c.deref_mut-2.result.now writes numbers three c.in_ok-exchange_twice.ensures.exchanged same c.finish.ensures
