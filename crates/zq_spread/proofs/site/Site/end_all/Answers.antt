use Rattle.std.proofs.Common.{ap, arith, get_or, length, refl, subst, sym, ℕ, ◌+◌, ◌<◌, ◌∙◌, ◌∷◌, ◌≡◌}
use Rattle.std.proofs.lemmas.List.{drop_all, drop_more}
use Rattle.std.proofs.lemmas.Option.{same_Some}
use Rattle.std.specs.Prelude.{IfSome, List, drop}
use Rattle.zq_spread.proofs.ManyHeaps.{IsEnding, ending_done, ending_more, may_end_first, may_end_none}
use Rattle.zq_spread.proofs.site.Site.end_all.Goals as goal
use Rattle.zq_spread.specs.HeapSlots.{IsWorkedOn}
use Rattle.zq_spread.specs.Passes.{IsPassBut}
use Rattle.zq_spread.specs.Several.{AreHeapsOf, MayEndIn, helds_of}
use Rattle.zq_spread.specs.declared.heap_slot.HeapSlot.{HeapSlot}
use Rattle.zq_spread.specs.declared.pass.Pass.{Pass}
use Rattle.zq_ticketlock.specs.Seats.{given, id_of, value_of}

-- this heap is the first of those that are left
cut_at : (heaps : List ℕ) (i h : ℕ) → i < length heaps → h ≡ get_or heaps i 0 → drop i heaps ≡ h ∷ drop (i + 1) heaps
cut_at heaps i h low is = drop_more heaps i 0 low ∙ ap (λ k. k ∷ drop (i + 1) heaps) (sym is)

pub loop-heap-init : goal.loop-heap-init
loop-heap-init c = record {
  are = c.requires.heaps;
  but = c.requires.pass;
  may = c.requires.worked;
  rest = λ after ended beside. (ended, beside);
}

pub pop-held-requires : goal.pop-held-requires
pop-held-requires c =
    let site = c.args.self.now in
    let i : ℕ = c.loop-heap.heap-index in
    let heaps : List ℕ = c.args.heaps.now in
    let cut = cut_at heaps i (get_or heaps i 0) (omega arith) refl in
    record { some = may_end_first site (get_or heaps i 0) (drop (i + 1) heaps) (helds_of c.loop-heap.holds) (subst (λ l. MayEndIn site l (helds_of c.loop-heap.holds)) cut c.loop-heap.invariant.may) }

pub finish-requires-clause-pass : goal.finish-requires-clause-pass
finish-requires-clause-pass c =
    let i : ℕ = c.loop-heap.heap-index in
    let heaps : List ℕ = c.args.heaps.now in
    (drop (i + 1) heaps, subst (λ l. IsPassBut c.args.self.now l c.loop-heap.pass) (cut_at heaps i c.from.result (omega arith) c.from.ensures) c.loop-heap.invariant.but)

pub finish-requires-clause-heap : goal.finish-requires-clause-heap
finish-requires-clause-heap c =
    let i : ℕ = c.loop-heap.heap-index in
    (subst (AreHeapsOf c.args.self.now) (cut_at c.args.heaps.now i c.from.result (omega arith) c.from.ensures) c.loop-heap.invariant.are).0

pub finish-requires-clause-lock : goal.finish-requires-clause-lock
finish-requires-clause-lock c = λ slot at.
    let site = c.args.self.now in
    let i : ℕ = c.loop-heap.heap-index in
    let heaps : List ℕ = c.args.heaps.now in
    let may : MayEndIn site (c.from.result ∷ drop (i + 1) heaps) (c.pop-held.result ∷ helds_of c.pop-held.new.self) =
    subst (MayEndIn site (c.from.result ∷ drop (i + 1) heaps)) c.pop-held.ensures.popped (subst (λ l. MayEndIn site l (helds_of c.loop-heap.holds)) (cut_at heaps i c.from.result (omega arith) c.from.ensures) c.loop-heap.invariant.may) in
    may.0.lock ∙ ap (λ (r : HeapSlot). id_of r.lock) (same_Some may.0.slot slot (sym may.0.at ∙ at))

pub finish-requires-clause-worked : goal.finish-requires-clause-worked
finish-requires-clause-worked c = λ slot at.
    let site = c.args.self.now in
    let i : ℕ = c.loop-heap.heap-index in
    let heaps : List ℕ = c.args.heaps.now in
    let may : MayEndIn site (c.from.result ∷ drop (i + 1) heaps) (c.pop-held.result ∷ helds_of c.pop-held.new.self) =
    subst (MayEndIn site (c.from.result ∷ drop (i + 1) heaps)) c.pop-held.ensures.popped (subst (λ l. MayEndIn site l (helds_of c.loop-heap.holds)) (cut_at heaps i c.from.result (omega arith) c.from.ensures) c.loop-heap.invariant.may) in
    subst (λ (r : HeapSlot). IfSome (given c.pop-held.result) (IsWorkedOn r (value_of c.pop-held.result))) (same_Some may.0.slot slot (sym may.0.at ∙ at)) may.0.worked

pub loop-heap-preserved : goal.loop-heap-preserved
loop-heap-preserved c =
    let site = c.args.self.now in
    let i : ℕ = c.loop-heap.heap-index in
    let h : ℕ = c.from.result in
    let heaps : List ℕ = c.args.heaps.now in
    let helds = helds_of c.args.holds.now in
    let more = helds_of c.pop-held.new.self in
    let is : IsEnding site heaps helds c.args.pass.now c.loop-heap.pass (h ∷ drop (i + 1) heaps) (c.pop-held.result ∷ more) =
    subst (IsEnding site heaps helds c.args.pass.now c.loop-heap.pass (h ∷ drop (i + 1) heaps)) c.pop-held.ensures.popped
    (subst (λ l. IsEnding site heaps helds c.args.pass.now c.loop-heap.pass l (helds_of c.loop-heap.holds)) (cut_at heaps i h (omega arith) c.from.ensures) c.loop-heap.invariant) in
    ending_more site heaps helds c.args.pass.now c.loop-heap.pass c.finish.new.pass h (drop (i + 1) heaps) c.pop-held.result more is c.finish.ensures.pass c.finish.ensures.seen c.finish.ensures.steps c.finish.ensures.others

pub returns-clause-pass : goal.returns-clause-pass
returns-clause-pass c =
    let new : Pass = record { seats = c.loop-heap.pass.seats; counts = c.loop-heap.pass.counts; stamp = c.args.stamp } in
    let is = subst (λ l. IsEnding c.args.self.now c.args.heaps.now (helds_of c.args.holds.now) c.args.pass.now c.loop-heap.pass l (helds_of c.loop-heap.holds)) (drop_all c.loop-heap.heap-index c.args.heaps.now (omega arith)) c.loop-heap.invariant in
    (ending_done c.args.self.now c.args.heaps.now (helds_of c.args.holds.now) c.args.pass.now c.loop-heap.pass new (helds_of c.loop-heap.holds) is refl refl c.requires.stamp).0

pub returns-clause-ended : goal.returns-clause-ended
returns-clause-ended c =
    let new : Pass = record { seats = c.loop-heap.pass.seats; counts = c.loop-heap.pass.counts; stamp = c.args.stamp } in
    let is = subst (λ l. IsEnding c.args.self.now c.args.heaps.now (helds_of c.args.holds.now) c.args.pass.now c.loop-heap.pass l (helds_of c.loop-heap.holds)) (drop_all c.loop-heap.heap-index c.args.heaps.now (omega arith)) c.loop-heap.invariant in
    (ending_done c.args.self.now c.args.heaps.now (helds_of c.args.holds.now) c.args.pass.now c.loop-heap.pass new (helds_of c.loop-heap.holds) is refl refl c.requires.stamp).1

pub returns-clause-others : goal.returns-clause-others
returns-clause-others c =
    let new : Pass = record { seats = c.loop-heap.pass.seats; counts = c.loop-heap.pass.counts; stamp = c.args.stamp } in
    let is = subst (λ l. IsEnding c.args.self.now c.args.heaps.now (helds_of c.args.holds.now) c.args.pass.now c.loop-heap.pass l (helds_of c.loop-heap.holds)) (drop_all c.loop-heap.heap-index c.args.heaps.now (omega arith)) c.loop-heap.invariant in
    (ending_done c.args.self.now c.args.heaps.now (helds_of c.args.holds.now) c.args.pass.now c.loop-heap.pass new (helds_of c.loop-heap.holds) is refl refl c.requires.stamp).2

pub returns-clause-empty : goal.returns-clause-empty
returns-clause-empty c =
    may_end_none c.args.self.now (helds_of c.loop-heap.holds) (subst (λ l. MayEndIn c.args.self.now l (helds_of c.loop-heap.holds)) (drop_all c.loop-heap.heap-index c.args.heaps.now (omega arith)) c.loop-heap.invariant.may)
