use Rattle.std.proofs.Common.{[], ap, arith, subst, sym, map, ◌++◌, ◌∙◌, ◌∷◌, ◌≡◌}
use Rattle.std.proofs.lemmas.List.{length-append, map-append}
use Rattle.std.proofs.lemmas.List.Elements.{All-append, All-cons, All-nil}
use Rattle.std.specs.Prelude.{All}
use Rattle.zq_links.specs.Frame.{IsWritable, OfHave, frame_of}
use Rattle.zq_node.proofs.Called.{no_step_on, shown_no_step}
use Rattle.zq_node.proofs.Drains.{shown_took_nothing, worn_took_nothing}
use Rattle.zq_node.proofs.Haves.{haves_next, shown_next}
use Rattle.zq_node.proofs.Nodes.{home_site}
use Rattle.zq_node.proofs.node.Node.haves.Goals as goal
use Rattle.zq_node.specs.Hearing.{have_at, haves_from}
use Rattle.zq_spread.specs.Calls.{heaps_of}

pub vector-requires-clause-heap : goal.vector-requires-clause-heap
vector-requires-clause-heap g c =
    let same = ap heaps_of (home_site c.args.self.now c.loop-heap.self c.loop-heap.invariant.1) in
    omega (arith, c.loop-heap-test.true, c.requires.node.home.heaps, same)

pub returns-in_err-reserve-clause-no_step : goal.returns-in_err-reserve-clause-no_step
returns-in_err-reserve-clause-no_step g c =
    no_step_on c.args.self.now.pass c.loop-heap.self.pass c.vector.new.pass c.loop-heap.invariant.5 (shown_no_step c.in_ok-vector.vector c.loop-heap.self.pass c.vector.new.pass c.loop-heap.heap c.in_ok-vector.ensures.called)

pub returns-in_err-vector-clause-took_nothing : goal.returns-in_err-vector-clause-took_nothing
returns-in_err-vector-clause-took_nothing g c = λ h.
    worn_took_nothing c.loop-heap.self.pass c.vector.new.pass c.loop-heap.heap c.in_err-vector.ensures.refused h ∙ c.loop-heap.invariant.6 h

pub returns-in_err-reserve-clause-took_nothing : goal.returns-in_err-reserve-clause-took_nothing
returns-in_err-reserve-clause-took_nothing g c = λ h.
    shown_took_nothing c.in_ok-vector.vector c.loop-heap.self.pass c.vector.new.pass c.loop-heap.heap c.in_ok-vector.ensures.called h ∙ c.loop-heap.invariant.6 h

pub loop-heap-preserved : goal.loop-heap-preserved
loop-heap-preserved g c =
    let old = c.args.self.now in
    let before = c.loop-heap.self in
    let is = c.loop-heap.invariant in
    let site = old.home.site.now in
    let vectors = is.3.0 in
    let v = c.in_ok-vector.vector in
    let count = is.3.1 in
    let longer = length-append vectors (v ∷ []) in
    let frame : frame_of c.have.result ≡ OfHave (have_at site c.loop-heap.heap v) = c.have.ensures.have ∙ ap (λ s. OfHave (have_at s c.loop-heap.heap v)) (home_site old before is.1) in
    let items : c.push_reserved.new.self.items ≡ c.loop-heap.frames.items ++ c.have.result ∷ [] = c.push_reserved.ensures.items ∙ ap (λ l. l ++ c.have.result ∷ []) c.in_ok-reserve.ensures.items in
    let frames : map frame_of c.push_reserved.new.self.items ≡ haves_from site 0 (vectors ++ v ∷ []) =
    ap (map frame_of) items ∙ map-append frame_of c.loop-heap.frames.items (c.have.result ∷ []) ∙ haves_next site c.loop-heap.heap vectors v (map frame_of c.loop-heap.frames.items) (frame_of c.have.result) count is.3.3 frame in
    let writable : All IsWritable c.push_reserved.new.self.items = subst (All IsWritable) (sym items) (All-append IsWritable c.loop-heap.frames.items (c.have.result ∷ []) is.4 (All-cons IsWritable c.have.result [] c.have.ensures.writable (All-nil IsWritable))) in (
      record { home = is.0.home; pass = c.in_ok-vector.ensures.pass; parked = is.0.parked },
      is.1,
      is.2,
      (vectors ++ v ∷ [], omega (arith, longer, count), shown_next site old.pass before.pass c.vector.new.pass c.loop-heap.heap vectors v count is.3.2 c.in_ok-vector.ensures.called, frames),
      writable,
      no_step_on old.pass before.pass c.vector.new.pass is.5 (shown_no_step v before.pass c.vector.new.pass c.loop-heap.heap c.in_ok-vector.ensures.called),
      λ h. shown_took_nothing v before.pass c.vector.new.pass c.loop-heap.heap c.in_ok-vector.ensures.called h ∙ is.6 h,
    )

pub returns-clause-haves : goal.returns-clause-haves
returns-clause-haves g c =
    let is = c.loop-heap.invariant.3 in
    record {
      vectors = is.0;
      each = omega (arith, is.1, c.loop-heap-test.false, c.loop-heap.auto.heap-end, c.requires.node.home.heaps);
      called = is.2;
      frames_are = is.3;
    }
