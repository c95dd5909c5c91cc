use Rattle.std.proofs.Common.{ap, sym, ◌∙◌}
use Rattle.std.proofs.lemmas.Option.{slice_get-map}
use Rattle.std.specs.Prelude.{Some, option_map}
use Rattle.indexmap.specs.IndexMap.{get_by}
use Rattle.zq_posheap.specs.Order.{same_key}
use Rattle.zq_posheap.proofs.guess.is_at.Goals as goal

pub returns-in-Some-clause-there : goal.returns-in-Some-clause-there
returns-in-Some-clause-there g c is =
    let es = c.args.names.now.entries in
    let same = sym c.as_slice.ensures ∙ c.is_same.ensures.0 is in
    slice_get-map (λ e. e.0) es c.args.index ∙ ap (option_map (λ e. e.0)) (sym c.in-Some.ensures.entry) ∙ ap (λ k. Some k) same

pub returns-in-Some-clause-value : goal.returns-in-Some-clause-value
returns-in-Some-clause-value g c is =
    let es = c.args.names.now.entries in
    let same = sym c.as_slice.ensures ∙ c.is_same.ensures.0 is in
    slice_get-map (λ e. e.1) es c.args.index ∙ ap (option_map (λ e. e.1)) (sym c.in-Some.ensures.entry) ∙ sym c.in-Some.ensures.value
    ∙ ap (λ k. get_by (same_key k) c.args.names.now) same
