use Rattle.std.proofs.Common.{ap, rules, sym, tests, ◌∙◌}
use Rattle.std.proofs.lemmas.Fn.{filter_same}
use Rattle.std.specs.List.{filter}
use Rattle.zq_entry.specs.Changes.{is_unseen}
use Rattle.zq_entry.specs.Storage.{listed}
use Rattle.zq_entry.proofs.storage.Storage.retain_unseen.Goals as goal

pub returns-in-Many : goal.returns-in-Many
returns-in-Many c =
    filter_same _ (is_unseen c.args.seen.now) _ (λ x b f' k. search (rules, tests)) _ _ c.retain.ensures.filtered ∙ ap (λ held. filter (is_unseen c.args.seen.now) (listed held)) (sym c.in-Many.is)
