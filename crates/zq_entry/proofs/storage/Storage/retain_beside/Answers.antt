use Rattle.std.proofs.Common.{ap, rules, sym, tests, ◌∙◌}
use Rattle.std.proofs.lemmas.Fn.{filter_same}
use Rattle.std.specs.List.{filter}
use Rattle.zq_entry.specs.Changes.{stays}
use Rattle.zq_entry.specs.Storage.{listed}
use Rattle.zq_entry.proofs.storage.Storage.retain_beside.Goals as goal

pub returns : goal.returns
returns c =
    let keep = stays c.args.dot.now.site c.args.seen.now in
    filter_same _ keep _ (λ x b f' k. search (rules, tests)) _ _ c.retain.ensures.filtered ∙ ap (λ held. filter keep (listed held)) (sym c.in-Many.is)
