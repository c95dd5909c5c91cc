use Rattle.std.proofs.Common.{arith, length, refl, ◌<◌, ◌∙◌}
use Rattle.zq_backlog.proofs.Chunked.{AreChunkedAs, chunk_gone, oldest_end}
use Rattle.zq_backlog.specs.TextsView.{texts_of}
use Rattle.zq_backlog.specs.declared.texts.Texts.TheInside.{Inside}
use Rattle.zq_backlog.proofs.texts.Texts.drop_chunk.Goals as goal

pub end-requires : goal.end-requires
end-requires c =
    let t = c.self.inside in
    let some : 0 < length t.older.items = omega (arith, c.in-Some.ensures.variant.0 refl, t.older.ok.0) in
    omega (arith, oldest_end t c.in-Some.oldest.now c.self.invariant some c.in-Some.ensures.lookup, c.self.invariant.few)

pub invariant_of-self : goal.invariant_of-self
invariant_of-self c =
    let t = c.self.inside in
    let new : Inside = record { alloc = t.alloc; older = c.pop_front.new.self; newest = t.newest; first = t.first; bytes = t.bytes } in
    let some : 0 < length t.older.items = omega (arith, c.in-Some.ensures.variant.0 refl, t.older.ok.0) in
    let gone : AreChunkedAs new (texts_of t) = chunk_gone t new c.in-Some.oldest.now c.self.invariant some c.in-Some.ensures.lookup (omega (arith, c.end.ensures, c.if-end-self.true)) c.pop_front.ensures.rest refl refl refl in
    gone.are

pub returns-then-end-self : goal.returns-then-end-self
returns-then-end-self c =
    let t = c.self.inside in
    let new : Inside = record { alloc = t.alloc; older = c.pop_front.new.self; newest = t.newest; first = t.first; bytes = t.bytes } in
    let some : 0 < length t.older.items = omega (arith, c.in-Some.ensures.variant.0 refl, t.older.ok.0) in
    let gone : AreChunkedAs new (texts_of t) = chunk_gone t new c.in-Some.oldest.now c.self.invariant some c.in-Some.ensures.lookup (omega (arith, c.end.ensures, c.if-end-self.true)) c.pop_front.ensures.rest refl refl refl in
    gone.is ∙ c.self.view_is
