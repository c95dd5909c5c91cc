use Rattle.std.proofs.Common.{◌≤◌, ◌+◌, ◌-◌, ◌∷◌, [], ◌∙◌, ◌≡◌, ◌++◌, length, get_or, take, ap, arith}
use Rattle.std.proofs.Math.Seq.{take-length}
use Rattle.std.proofs.lemmas.List.{length-append, length-take, take_more}
use Rattle.std.specs.Box.{with_value}
use Rattle.zq_resp.proofs.Words.{cut_ends, cut_grows, rest_breaks}
use Rattle.zq_resp.proofs.reader.word.fill.Goals as goal

pub returns-then-bytes-missing-clause-step : goal.returns-then-bytes-missing-clause-step
returns-then-bytes-missing-clause-step c =
    let begun = c.args.begun in
    let grown = with_value begun c.extend_from_slice.new.self in
    let bytes = c.args.bytes.now in
    let has : c.len.result ≡ length begun.value.items = c.len.ensures.value ∙ ap (λ b. length b.items) c.deref.ensures in
    let grows : grown.value.items ≡ begun.value.items ++ bytes = c.in_ok-extend_from_slice.ensures.ok ∙ ap (λ b. b.items ++ bytes) c.deref_mut.ensures.value in
    let fits : length bytes ≤ c.args.size - length begun.value.items = omega (arith, has, c.if-bytes-missing.true) in (
      (omega (arith, length-append begun.value.items bytes, ap length grows, fits, c.requires.is.0), c.requires.is.1),
      rw (take-length bytes) (cut_grows begun grown c.args.size bytes grows fits),
    )

pub returns-then-bytes-missing-ne13-clause-step : goal.returns-then-bytes-missing-ne13-clause-step
returns-then-bytes-missing-ne13-clause-step c = λ more.
    let begun = c.args.begun in
    let bytes = c.args.bytes.now in
    let has : c.len.result ≡ length begun.value.items = c.len.ensures.value ∙ ap (λ b. length b.items) c.deref.ensures in
    rest_breaks begun.value.items c.args.size bytes more (omega (arith, has))
    (λ is. c.if-bytes-missing-ne13.true (ap (λ n. get_or bytes (c.args.size - n) 0) has ∙ is))

pub returns-clause-step : goal.returns-clause-step
returns-clause-step c =
    let begun = c.args.begun in
    let bytes = c.args.bytes.now in
    let missing = c.args.size - c.len.result in
    let part = take missing bytes in
    let has : c.len.result ≡ length begun.value.items = c.len.ensures.value ∙ ap (λ b. length b.items) c.deref.ensures in
    let front : c.as_slice.result.now ≡ begun.value.items = c.as_slice.ensures ∙ ap (λ b. b.items) c.deref-2.ensures in
    let full : length part ≡ c.args.size - length begun.value.items = simp length-take (omega (arith, has)) in
    let is : c.in_ok-word.word.items ≡ begun.value.items ++ part = c.in_ok-word.ensures ∙ ap (λ front. front ++ part) front in (
      omega (arith, length-append begun.value.items part, ap length is, full),
      cut_ends begun c.in_ok-word.word c.args.size part (take (missing + 1) bytes) is (omega arith) full
          (take_more bytes missing 0 (omega arith) ∙ ap (λ b. part ++ b ∷ []) (omega arith)),
    )
