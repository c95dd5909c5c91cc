use Rattle.std.proofs.Common.{ap, sym, ◌∙◌}
use Rattle.std.proofs.lemmas.Option.{slice_get-map}
use Rattle.std.specs.Prelude.{option_map}
use Rattle.zq_posheap.proofs.guess.Guess.get.Goals as goal

pub returns : goal.returns
returns g c =
    let es = c.args.names.now.entries in
    ap (option_map (λ e. e.1)) c.in_ok-value.ensures.entry ∙ sym (slice_get-map (λ e. e.1) es c.in_ok-index.index) ∙ c.in_ok-index.ensures.value
