use Rattle.std.proofs.Common.{ap, arith, inl, inr, length, subst, suc, sym, ◌∙◌}
use Rattle.std.proofs.lemmas.Bool.{cases_eq}
use Rattle.std.proofs.lemmas.List.{length-set}
use Rattle.std.proofs.lemmas.List.Elements.{All-head, All-tail}
use Rattle.std.proofs.lemmas.List.Sums.{sum_by-cons}
use Rattle.std.proofs.lemmas.Option.{slice_get_within}
use Rattle.std.specs.Prelude.{All, List, Option, Some, refl, slice_get, slice_set, sum, ℕ, ◌+◌, ◌<◌, ◌≡◌, ◌∷◌}
use Rattle.zq_posheap.proofs.Lists.{slice_get-set_other, slice_get-set_same}
use Rattle.zq_spread.proofs.Companies.{count_in, sum_none}
use Rattle.zq_spread.proofs.Seats.{taken_at}
use Rattle.zq_spread.proofs.heap_slot.HeapSlot.+gather.Goals as goal
use Rattle.zq_spread.proofs.heap_slot.HeapSlot.+gather.Goals.{in-None, in-Some-split_first_mut}
use Rattle.zq_spread.specs.Companies.{steps_of_all}
use Rattle.zq_spread.specs.Passes.{IsCountOf, steps_at, steps_in}
use Rattle.zq_spread.specs.declared.pass.Pass.{Pass}
use Rattle.zq_tally.specs.Words.{passes_of, steps_of, total_of}
use Rattle.zq_tally.specs.declared.count.Count.{Count}

pub gather-requires : goal.gather-requires
gather-requires t c =
    let here = c.in-Some-split_first_mut.ensures.cases in
    let second : Pass = c.in-Some-split_first_mut.second.now in
    let rest : List Pass = c.in-Some-split_first_mut.rest.now in
    let counted : Pass → Type 0 = λ pass. IsCountOf c.args.self.now (slice_get pass.counts.items c.args.heap) in
    let all : All counted (second ∷ rest) = subst (All counted) here.0 c.requires.others in
    let joined : length (passes_of c.join.new.total) ≡ suc (length (passes_of c.args.total.now)) = ap length c.join.ensures.joined in (
      omega (arith, c.decreases, here.1),
      (c.join.ensures.stays.0 ∙ c.requires.own, (All-head counted second rest all, (All-tail counted second rest all, omega (arith, joined, here.1, c.requires.all, c.join.ensures.stays.2)))),
    )

pub index_mut-requires-2 : goal.index_mut-requires-2
index_mut-requires-2 t c = let within = count_in c.args.self.now (slice_get c.args.first.now.counts.items c.args.heap) c.requires.first in
    let low = slice_get_within c.args.first.now.counts.items c.args.heap (Some within.0) within.1 in omega (arith, low, c.args.first.now.counts.ok.0)

pub returns-clause-sum : goal.returns-clause-sum
returns-clause-sum t c =
    let old : Pass = c.args.first.now in
    let heap : ℕ = c.args.heap in
    let others : List Pass = c.args.others.now in
    let first = count_in c.args.self.now (slice_get old.counts.items heap) c.requires.first in
    let within : heap < length old.counts.items = slice_get_within old.counts.items heap (Some first.0) first.1 in
    let there : slice_get old.counts.items heap ≡ Some (Some c.in-Some.count) =
    taken_at old.counts.items (length old.counts.items) heap c.index_mut.result.now c.take.result (Some c.in-Some.count) refl within c.index_mut.ensures.value c.take.ensures.value c.in-Some.is in
    let mine : steps_at old heap ≡ steps_of c.in-Some.count = ap steps_in there in
    let joined : sum (passes_of c.join.new.total) ≡ steps_of c.in-Some.count + sum (passes_of c.args.total.now) =
    ap sum c.join.ensures.joined ∙ sum_by-cons (λ x. x) (steps_of c.in-Some.count) (passes_of c.args.total.now) in
    let total : total_of c.join.new.total ≡ total_of c.args.total.now = c.join.ensures.stays.1 in
    elim c.match-split_first_mut.branch [
      | in-None w ↦ (
          let none : length others ≡ 0 = w.in-None.ensures.cases in
          let nobody : steps_of_all heap others ≡ 0 = sum_none heap others none in
          let long : length (passes_of c.join.new.total) ≡ suc (length (passes_of c.args.total.now)) = ap length c.join.ensures.joined in
          let all : total_of c.join.new.total ≡ sum (passes_of c.join.new.total) = w.look.ensures.all (omega (arith, long, none, c.requires.all, c.join.ensures.stays.2)) in
          omega (arith, mine, joined, total, nobody, all))
      | in-Some-split_first_mut w ↦ (
          let here = w.in-Some-split_first_mut.ensures.cases in
          let second : Pass = w.in-Some-split_first_mut.second.now in
          let rest : List Pass = w.in-Some-split_first_mut.rest.now in
          let each : steps_of_all heap others ≡ steps_at second heap + steps_of_all heap rest = ap (steps_of_all heap) here.0 ∙ sum_by-cons (λ pass. steps_at pass heap) second rest in
          let gathered : total_of c.join.new.total ≡ steps_at second heap + steps_of_all heap rest + sum (passes_of c.join.new.total) = w.gather.ensures.sum in
          omega (arith, mine, joined, total, each, gathered))
    ]

pub returns-clause-first : goal.returns-clause-first
returns-clause-first t c =
    let old : Pass = c.args.first.now in
    let heap : ℕ = c.args.heap in
    let first = count_in c.args.self.now (slice_get old.counts.items heap) c.requires.first in
    let within : heap < length old.counts.items = slice_get_within old.counts.items heap (Some first.0) first.1 in
    let there : slice_get old.counts.items heap ≡ Some (Some c.in-Some.count) =
    taken_at old.counts.items (length old.counts.items) heap c.index_mut.result.now c.take.result (Some c.in-Some.count) refl within c.index_mut.ensures.value c.take.ensures.value c.in-Some.is in
    let out : List (Option Count) = slice_set old.counts.items heap c.take.new.self in
    let new : List (Option Count) = slice_set out heap (Some c.split.result) in
    let long : length out ≡ length old.counts.items = length-set old.counts.items heap c.take.new.self in
    let now : slice_get new heap ≡ Some (Some c.split.result) = slice_get-set_same out heap (Some c.split.result) (subst (λ n. heap < n) (sym long) within) in
    let other : (k : ℕ) → (k ≡ heap → ⊥) → slice_get new k ≡ slice_get old.counts.items k =
    λ k apart. slice_get-set_other out heap k (Some c.split.result) apart ∙ slice_get-set_other old.counts.items heap k c.take.new.self apart in
    record {
      seats = refl;
      stamp = refl;
      number = length-set out heap (Some c.split.result) ∙ long;
      count = subst (IsCountOf c.args.self.now) (sym now) c.split.ensures.table;
      steps = λ k. elim (cases_eq k heap) [
        | inl same ↦ subst (λ j. steps_in (slice_get new j) ≡ steps_in (slice_get old.counts.items j)) (sym same)
            (ap steps_in now ∙ c.split.ensures.first ∙ c.steps-steps.ensures ∙ sym (ap steps_in there))
        | inr apart ↦ ap steps_in (other k apart)
      ];
      rest = other;
    }
