use Rattle.std.proofs.Common.{refl, ◌∷◌, ◌++◌, All, take, sym, ap, subst, ◌∙◌, arith}
use Rattle.std.specs.List.{flat_map}
use Rattle.std.proofs.lemmas.List.{length-take, length-drop, take_rest}
use Rattle.std.proofs.lemmas.List.Elements.{All-push}
use Rattle.std.proofs.lemmas.Result.{err_from_is_err_and}
use Rattle.zq_resp.specs.Request.{IsWord}
use Rattle.zq_resp.specs.Spelling.{number_line, word_text}
use Rattle.zq_resp.specs.Suspended.{views}
use Rattle.zq_resp.proofs.Memory.{short_count_stands}
use Rattle.zq_resp.proofs.Shorts.{cut_found, one_more}
use Rattle.zq_resp.proofs.reader.short.short_request.Goals as goal

pub loop-done-preserved : goal.loop-done-preserved
loop-done-preserved c =
    let bytes = c.args.bytes.now in
    let at = c.loop-done.at in
    let head = 42 ∷ number_line c.in-Some.count in
    let word = c.in-Some-short_word.word.now in
    let taken = c.in-Some-short_word.taken in
    let found = take c.loop-done.done (views c.loop-done.words) in
    let put = c.in_ok-put_word.ensures.put in
    let is = rw (take_rest bytes at) at c.in-Some-short_word.ensures.word in
    record {
      within = let taken = simp (length-take, length-drop) at c.in-Some-short_word.ensures.taken.1 in omega arith;
      begun = omega arith;
      small = omega (arith, c.in-Some-short_word.ensures.few);
      few = omega arith;
      there = omega (arith, c.in_ok-put_word.ensures.longer);
      each = subst (λ words. All IsWord words) (sym put) (All-push IsWord found word c.loop-done.invariant.each c.in-Some-short_word.ensures.small);
      spelled = one_more bytes head word at taken found c.loop-done.invariant.spelled is ∙ ap (λ words. head ++ flat_map word_text words) (sym put);
    }

pub returns-in_err-words-in-None-clause-memory : goal.returns-in_err-words-in-None-clause-memory
returns-in_err-words-in-None-clause-memory c =
    let exit = err_from_is_err_and c.from_residual.result c.from_residual.ensures.1 in
    rw (exit.1, exit.2) (refl, short_count_stands c.args.bytes.now c.in-Some.count (omega arith) c.in-Some.ensures.digit c.in-Some.ensures.line)

pub returns-in_err-put_word-clause-memory : goal.returns-in_err-put_word-clause-memory
returns-in_err-put_word-clause-memory c =
    let exit = err_from_is_err_and c.from_residual-in_err-put_word.result c.from_residual-in_err-put_word.ensures.1 in
    rw (exit.1, exit.2) (
      c.in_err-put_word.ensures.memory,
      short_count_stands c.args.bytes.now c.in-Some.count (omega arith) c.in-Some.ensures.digit c.in-Some.ensures.line,
    )

pub returns-clause-words : goal.returns-clause-words
returns-clause-words c =
    let kept = c.loop-done.invariant in
    (cut_found c.args.bytes.now c.in-Some.count c.loop-done.at c.loop-done.done c.loop-done.words c.truncate.new.self (omega arith) c.in-Some.ensures.digit kept.there kept.small kept.each kept.spelled c.truncate.ensures.items).0

pub returns-clause-read : goal.returns-clause-read
returns-clause-read c =
    let kept = c.loop-done.invariant in
    (cut_found c.args.bytes.now c.in-Some.count c.loop-done.at c.loop-done.done c.loop-done.words c.truncate.new.self (omega arith) c.in-Some.ensures.digit kept.there kept.small kept.each kept.spelled c.truncate.ensures.items).1
