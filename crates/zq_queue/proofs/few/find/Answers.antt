use Rattle.std.proofs.Common.{ap, arith, inl, inr, sym, ◌∙◌, ◌≡◌}
use Rattle.std.proofs.lemmas.Bool.{cases_lt, true≢false}
use Rattle.std.proofs.lemmas.Option.{same_Some, slice_get_within}
use Rattle.std.specs.Prelude.{Some, is_some, slice_get}
use Rattle.zq_model.proofs.Places.{bytes_same, same_bytes}
use Rattle.zq_queue.proofs.Scans.{as_many_names, named_at, not_there, there_at}
use Rattle.zq_queue.specs.Few.{names_in}
use Rattle.zq_queue.specs.declared.few.Member.{Member}
use Rattle.zq_queue.proofs.few.find.Goals.{Then-eq}
use Rattle.zq_queue.proofs.few.find.Goals as goal

here : (c : Then-eq) → slice_get (names_in c.args.list.now) c.loop-place.place ≡ Some c.args.member.now
here c = named_at c.args.list.now c.loop-place.place c.index-list-place.result c.loop-place-test.true c.index-list-place.is
    ∙ ap (λ x. Some x) (ap (λ (m : Member). m.name) c.index-list-place.is ∙ sym c.as_slice.ensures ∙ same_bytes c.as_slice.result.now c.args.member.now (sym c.eq.ensures ∙ c.if-eq.true))

pub loop-place-init : goal.loop-place-init
loop-place-init c = λ i lo at. omega (arith, lo)

pub returns-then-eq-clause-there : goal.returns-then-eq-clause-there
returns-then-eq-clause-there c = sym (there_at c.args.list.now c.loop-place.place c.args.member.now (here c))

pub returns-then-eq-clause-place : goal.returns-then-eq-clause-place
returns-then-eq-clause-place c = here c

pub loop-place-preserved : goal.loop-place-preserved
loop-place-preserved c = λ i lo at. elim (cases_lt i c.loop-place.place) [
  | inl before ↦ c.loop-place.invariant i before at
  | inr after ↦
      let member = c.args.member.now in
      let same : i ≡ c.loop-place.place = omega (arith, lo, after) in
      let named = named_at c.args.list.now c.loop-place.place c.index-list-place.result c.loop-place-test.true c.index-list-place.is in
      let its : c.index-list-place.result.name ≡ member
      = same_Some c.index-list-place.result.name member (sym named ∙ ap (slice_get (names_in c.args.list.now)) (sym same) ∙ at) in
      let equal : c.as_slice.result.now ≡ member = c.as_slice.ensures ∙ ap (λ (m : Member). m.name) (sym c.index-list-place.is) ∙ its in
      true≢false (sym (c.eq.ensures ∙ bytes_same c.as_slice.result.now member equal) ∙ c.if-eq.false)
]

pub returns-clause-there : goal.returns-clause-there
returns-clause-there c = ap is_some (sym (not_there c.args.list.now c.args.member.now (λ i at.
    c.loop-place.invariant i (omega (arith, slice_get_within (names_in c.args.list.now) i c.args.member.now at, as_many_names c.args.list.now, c.loop-place-test.false)) at)))
