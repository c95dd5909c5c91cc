use Rattle.std.proofs.Common.{◌+◌, ◌-◌, ◌∷◌, [], ◌∙◌, ◌≡◌, ◌++◌, length, get_or, take, ap, sym, arith}
use Rattle.std.proofs.Math.Seq.{take-length}
use Rattle.std.proofs.lemmas.List.{length-take, take_more}
use Rattle.zq_resp.proofs.Words.{cut_begins, rest_breaks, rest_of_none, sized_ends}
use Rattle.zq_resp.proofs.reader.word.body.Goals as goal

pub returns-then-bytes-size-clause-step : goal.returns-then-bytes-size-clause-step
returns-then-bytes-size-clause-step c =
    let bytes = c.args.bytes.now in
    let is : c.in_ok-begun.begun.value.items ≡ bytes = ap (λ b. b.items) c.in_ok-begun.ensures.ok ∙ c.in_ok-copy_from_slice.ensures in
    ((omega (arith, ap length is), omega arith), rw (take-length bytes) (cut_begins c.in_ok-begun.begun c.args.size bytes is (omega arith)))

pub returns-then-bytes-size-ne13-clause-step : goal.returns-then-bytes-size-ne13-clause-step
returns-then-bytes-size-ne13-clause-step c = λ more.
    let size = c.args.size in
    let bytes = c.args.bytes.now in
    let whole : size - 0 ≡ size = omega arith in
    rest_of_none size (bytes ++ more)
    ∙ rest_breaks [] size bytes more (omega arith) (λ is. c.if-bytes-size-ne13.true (ap (λ n. get_or bytes n 0) (sym whole) ∙ is))

pub returns-clause-step : goal.returns-clause-step
returns-clause-step c =
    let size = c.args.size in
    let bytes = c.args.bytes.now in
    let word = c.in_ok-word.word in
    let is : word.items ≡ take size bytes = c.in_ok-word.ensures.items in
    let full : length word.items ≡ size = ap length is ∙ simp length-take (omega arith) in
    let ends : take (size + 1) bytes ≡ word.items ++ 13 ∷ [] = take_more bytes size 0 (omega arith) ∙ (ap (λ b. take size bytes ++ b ∷ []) (omega arith) ∙ ap (λ front. front ++ 13 ∷ []) (sym is)) in
    (omega (arith, full), sized_ends word size (take (size + 1) bytes) full ends)
