use Rattle.std.proofs.Common.{[], ◌∷◌, ◌++◌, ◌≡◌, Some, false, ap, sym, ◌∙◌, append_assoc}
use Rattle.std.proofs.lemmas.List.{take_rest}
use Rattle.std.proofs.lemmas.List.Elements.{filter-append}
use Rattle.std.proofs.lemmas.Result.{err_from_is_err_and}
use Rattle.zq_resp.specs.Suspended.{views}
use Rattle.zq_resp.specs.Partial.{text_so_far}
use Rattle.zq_resp.specs.Stream.{handed, has_words, is_inside}
use Rattle.zq_resp.proofs.Memory.{refused_at}
use Rattle.zq_resp.proofs.Shorts.{none_kept}
use Rattle.zq_resp.proofs.Streams.{reaches_one}
use Rattle.zq_resp.proofs.reader.unfinished.read_on.Goals as goal

pub loop-rest-preserved : goal.loop-rest-preserved
loop-rest-preserved c =
    let rest = c.loop-rest.rest.now in
    let words = views c.in-Whole.words in
    let reads = c.loop-rest.invariant.reads in
    let step = rw c.in-Whole.is at c.in_ok-progress.ensures.step in
    let given = c.args.requests.now.items in
    record {
      stands = c.new.ensures.stands;
      reads = (
        reads.0 ++ words ∷ [],
        rw (c.new.ensures.begun, take_rest rest c.in_ok-progress.taken) (reaches_one _ _ _ reads.0 words reads.1 step.1),
        c.in_ok-hand_out-in-Whole.ensures.ok
            ∙ (ap (λ items. items ++ handed (words ∷ [])) reads.2
            ∙ (append_assoc given (handed reads.0) (handed (words ∷ []))
            ∙ ap (λ more. given ++ more) (sym (filter-append has_words reads.0 (words ∷ []))))),
      );
    }

pub loop-rest-preserved-in-Some : goal.loop-rest-preserved-in-Some
loop-rest-preserved-in-Some c =
    let rest = c.loop-rest.rest.now in
    let words = views c.in-Some.short in
    let reads = c.loop-rest.invariant.reads in
    let outside : is_inside (Some (text_so_far c.loop-rest.unfinished.partial)) ≡ false = cc in
    let none = none_kept (text_so_far c.loop-rest.unfinished.partial) outside in
    let got = rw c.in-Some.is at c.in_ok-short.ensures.read in
    let given = c.args.requests.now.items in
    record {
      stands = c.loop-rest.invariant.stands;
      reads = (
        reads.0 ++ words ∷ [],
        rw (none, take_rest rest c.in-Some.taken) (reaches_one _ _ _ reads.0 words (rw none at reads.1) got),
        c.in_ok-hand_out.ensures.ok
            ∙ (ap (λ items. items ++ handed (words ∷ [])) reads.2
            ∙ (append_assoc given (handed reads.0) (handed (words ∷ []))
            ∙ ap (λ more. given ++ more) (sym (filter-append has_words reads.0 (words ∷ []))))),
      );
    }

pub returns-in_err-hand_out : goal.returns-in_err-hand_out
returns-in_err-hand_out c =
    let exit = err_from_is_err_and c.from_residual-in_err-hand_out.result c.from_residual-in_err-hand_out.ensures.1 in
    let reads = c.loop-rest.invariant.reads in
    let outside : is_inside (Some (text_so_far c.loop-rest.unfinished.partial)) ≡ false = cc in
    let none = none_kept (text_so_far c.loop-rest.unfinished.partial) outside in
    let got = rw c.in-Some.is at c.in_ok-short.ensures.read in
    let refused = c.in_err-hand_out.ensures in
    rw (exit.1, exit.2) (
      handed reads.0,
      refused_at c.in_err-hand_out.field-0.0 _ c.loop-rest.rest.now _ reads.0 (views c.in-Some.short) (rw none at reads.1) got refused.memory.0 refused.memory.1,
      refused.err ∙ reads.2,
    )

pub returns-in_err-hand_out-in-Whole : goal.returns-in_err-hand_out-in-Whole
returns-in_err-hand_out-in-Whole c =
    let exit = err_from_is_err_and c.from_residual-in_err-hand_out-in-Whole.result c.from_residual-in_err-hand_out-in-Whole.ensures.1 in
    let reads = c.loop-rest.invariant.reads in
    let step = rw c.in-Whole.is at c.in_ok-progress.ensures.step in
    let refused = c.in_err-hand_out-in-Whole.ensures in
    rw (exit.1, exit.2) (
      handed reads.0,
      refused_at c.in_err-hand_out-in-Whole.field-0.0 _ _ _ reads.0 (views c.in-Whole.words) reads.1 step.1 refused.memory.0 refused.memory.1,
      refused.err ∙ reads.2,
    )
