use Rattle.std.proofs.Common.{[], ap, arith, length, refl, ◌∙◌, ◌∷◌, ◌+◌, ◌++◌, ◌≡◌}
use Rattle.zq_backlog.proofs.Chunked.{AreChunkedAs, chunk_begun, chunks_anew}
use Rattle.zq_backlog.specs.TextsView.{end_of, texts_of}
use Rattle.zq_backlog.specs.declared.chunk.Chunk.{Chunk}
use Rattle.zq_backlog.specs.declared.texts.Texts.TheInside.{Inside}
use Rattle.zq_backlog.proofs.texts.Texts.begin_chunk.Goals as goal

pub invariant_of-self-then-self-end : goal.invariant_of-self-then-self-end
invariant_of-self-then-self-end c =
    let t = c.self.inside in
    let new : Inside = record { alloc = t.alloc; older = c.push_back_reserved.new.self; newest = c.replace-last.new.dest; first = t.first; bytes = t.bytes } in
    let last : Chunk = record { first = c.replace-last.result.first; texts = c.shrink.new.self } in
    let own : last ≡ t.newest = λ i. record { first = (c.replace-last.ensures.value i).first; texts = (c.shrink.ensures ∙ ap (λ (d : Chunk). d.texts) c.replace-last.ensures.value) i } in
    let older : new.older.items ≡ t.older.items ++ last ∷ [] = c.push_back_reserved.ensures.items ∙ ap (λ cs. cs ++ last ∷ []) c.in_ok-reserve.ensures.items in
    let begun : AreChunkedAs new (texts_of t) = chunk_begun t new last c.self.invariant own older (ap (λ (d : Chunk). d.first) c.replace-last.ensures.after ∙ c.end.ensures) (ap (λ (d : Chunk). d.texts) c.replace-last.ensures.after ∙ c.in_ok-with_room.ensures) refl refl in
    begun.are

pub returns-then-self-end : goal.returns-then-self-end
returns-then-self-end c =
    let t = c.self.inside in
    let new : Inside = record { alloc = t.alloc; older = c.push_back_reserved.new.self; newest = c.replace-last.new.dest; first = t.first; bytes = t.bytes } in
    let last : Chunk = record { first = c.replace-last.result.first; texts = c.shrink.new.self } in
    let own : last ≡ t.newest = λ i. record { first = (c.replace-last.ensures.value i).first; texts = (c.shrink.ensures ∙ ap (λ (d : Chunk). d.texts) c.replace-last.ensures.value) i } in
    let older : new.older.items ≡ t.older.items ++ last ∷ [] = c.push_back_reserved.ensures.items ∙ ap (λ cs. cs ++ last ∷ []) c.in_ok-reserve.ensures.items in
    let begun : AreChunkedAs new (texts_of t) = chunk_begun t new last c.self.invariant own older (ap (λ (d : Chunk). d.first) c.replace-last.ensures.after ∙ c.end.ensures) (ap (λ (d : Chunk). d.texts) c.replace-last.ensures.after ∙ c.in_ok-with_room.ensures) refl refl in
    begun.is ∙ c.self.view_is

pub invariant_of-self-else-self-end : goal.invariant_of-self-else-self-end
invariant_of-self-else-self-end c =
    let t = c.self.inside in
    let new : Inside = record { alloc = t.alloc; older = c.clear.new.self; newest = c.replace-last.new.dest; first = t.first; bytes = t.bytes } in
    let value = c.replace-last.ensures.value in
    let end : c.end-2.result ≡ end_of t = c.end-2.ensures ∙ ap (λ (d : Chunk). d.first + length d.texts) value in
    let anew : AreChunkedAs new (texts_of t) = chunks_anew t new c.self.invariant (omega (arith, end, c.if-self-end.false)) c.clear.ensures.items (ap (λ (d : Chunk). d.first) c.replace-last.ensures.after ∙ c.end.ensures) (ap (λ (d : Chunk). d.texts) c.replace-last.ensures.after ∙ c.in_ok-with_room.ensures) refl refl in
    anew.are

pub returns-else-self-end : goal.returns-else-self-end
returns-else-self-end c =
    let t = c.self.inside in
    let new : Inside = record { alloc = t.alloc; older = c.clear.new.self; newest = c.replace-last.new.dest; first = t.first; bytes = t.bytes } in
    let value = c.replace-last.ensures.value in
    let end : c.end-2.result ≡ end_of t = c.end-2.ensures ∙ ap (λ (d : Chunk). d.first + length d.texts) value in
    let anew : AreChunkedAs new (texts_of t) = chunks_anew t new c.self.invariant (omega (arith, end, c.if-self-end.false)) c.clear.ensures.items (ap (λ (d : Chunk). d.first) c.replace-last.ensures.after ∙ c.end.ensures) (ap (λ (d : Chunk). d.texts) c.replace-last.ensures.after ∙ c.in_ok-with_room.ensures) refl refl in
    anew.is ∙ c.self.view_is
