use Rattle.std.proofs.Common.{ap, sym, ◌∙◌}
use Rattle.zq_client.proofs.FirstOptions.{entry_first, name_first, rest_of}
use Rattle.zq_client.proofs.options.read_option.Goals as goal
use Rattle.zq_client.specs.Options.{options_from, with_entry, with_name}
use Rattle.zq_client.specs.OptionsRead.{shown}
use Rattle.zq_words.specs.Words.{views}

pub returns-then-begins_with_auth-clause-step : goal.returns-then-begins_with_auth-clause-step
returns-then-begins_with_auth-clause-step c =
    let asks = shown c.args.options in
    let words = c.args.words.now in
    let user = c.deref.result.now in
    let text = c.deref-then-begins_with_auth.result.now in
    entry_first asks words c.index-words-1.result c.index-words-2.result user text (sym c.if-begins_with_auth.ensures.value) c.index-words-1.is c.index-words-2.is c.deref.ensures.value c.deref-then-begins_with_auth.ensures.value
    ∙ ap (λ ws. options_from (with_entry asks user text) (views ws)) (sym (rest_of words 3))

pub returns-then-begins_with_name-clause-step : goal.returns-then-begins_with_name-clause-step
returns-then-begins_with_name-clause-step c =
    let asks = shown c.args.options in
    let words = c.args.words.now in
    let name = c.deref-then-begins_with_name.result.now in
    name_first asks words c.index-words-1-then-begins_with_name.result name (sym c.if-begins_with_auth.ensures.value) (sym c.if-begins_with_name.ensures.value) c.index-words-1-then-begins_with_name.is c.deref-then-begins_with_name.ensures.value
    ∙ ap (λ ws. options_from (with_name asks name) (views ws)) (sym (rest_of words 2))
