use Rattle.std.proofs.Common.{[], ap, arith, length, refl, sum_by, ℕ, ◌+◌, ◌++◌, ◌-◌, ◌<◌, ◌^◌, ◌∙◌, ◌∷◌, ◌≡◌}
use Rattle.std.proofs.lemmas.List.Sums.{sum_by-append, sum_by-cons}
use Rattle.zq_backlog.proofs.Chunked.{AreChunkedAs, text_written}
use Rattle.zq_backlog.specs.TextsView.{end_of, texts_of}
use Rattle.zq_backlog.specs.Written.{spelling}
use Rattle.zq_backlog.specs.declared.texts.Texts.TheInside.{Inside}
use Rattle.zq_backlog.proofs.texts.Texts.write.Goals as goal

pub invariant_of-self-2 : goal.invariant_of-self-2
invariant_of-self-2 c =
    let t = c.self.inside in
    let text = spelling c.args.op.now in
    let new : Inside = record { alloc = t.alloc; older = t.older; newest = record { first = t.newest.first; texts = c.push.new.self }; first = t.first; bytes = t.bytes + (c.bytes.result - c.bytes-had.result) } in
    let pushed : c.push.new.self ≡ t.newest.texts ++ text ∷ [] = c.in_ok-push.ensures.pushed in
    let sum : c.bytes.result ≡ sum_by (length {A = ℕ}) (t.newest.texts ++ text ∷ []) = c.bytes.ensures.sum ∙ ap (sum_by (length {A = ℕ})) pushed in
    let both = sum_by-append (length {A = ℕ}) t.newest.texts (text ∷ []) in
    let one = sum_by-cons (length {A = ℕ}) text [] in
    let more : c.bytes.result - c.bytes-had.result ≡ length text = omega (arith, sum, both, one, c.bytes-had.ensures.sum) in
    let few : end_of t + 1 < 2 ^ 63 = omega (arith, c.if-end.false, c.end.ensures) in
    let small : t.bytes + length text < 2 ^ 63 = omega (arith, c.in_ok-push.ensures.bounded, c.self.invariant.small) in
    let written : AreChunkedAs new (texts_of t ++ text ∷ []) = text_written t new text c.self.invariant few small refl refl pushed refl (omega (arith, more)) in
    written.are

pub returns-clause-pushed : goal.returns-clause-pushed
returns-clause-pushed c =
    let t = c.self.inside in
    let text = spelling c.args.op.now in
    let new : Inside = record { alloc = t.alloc; older = t.older; newest = record { first = t.newest.first; texts = c.push.new.self }; first = t.first; bytes = t.bytes + (c.bytes.result - c.bytes-had.result) } in
    let pushed : c.push.new.self ≡ t.newest.texts ++ text ∷ [] = c.in_ok-push.ensures.pushed in
    let sum : c.bytes.result ≡ sum_by (length {A = ℕ}) (t.newest.texts ++ text ∷ []) = c.bytes.ensures.sum ∙ ap (sum_by (length {A = ℕ})) pushed in
    let both = sum_by-append (length {A = ℕ}) t.newest.texts (text ∷ []) in
    let one = sum_by-cons (length {A = ℕ}) text [] in
    let more : c.bytes.result - c.bytes-had.result ≡ length text = omega (arith, sum, both, one, c.bytes-had.ensures.sum) in
    let few : end_of t + 1 < 2 ^ 63 = omega (arith, c.if-end.false, c.end.ensures) in
    let small : t.bytes + length text < 2 ^ 63 = omega (arith, c.in_ok-push.ensures.bounded, c.self.invariant.small) in
    let written : AreChunkedAs new (texts_of t ++ text ∷ []) = text_written t new text c.self.invariant few small refl refl pushed refl (omega (arith, more)) in
    written.is ∙ ap (λ ts. ts ++ text ∷ []) c.self.view_is
