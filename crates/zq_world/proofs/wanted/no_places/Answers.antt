use Rattle.std.proofs.Common.{List, Some, Vec, [], ap, arith, inl, inr, length, sym, suc, zero, ℕ, ◌++◌, ◌∙◌, ◌∷◌, ◌≡◌}
use Rattle.std.proofs.lemmas.List.{length_push}
use Rattle.std.specs.Prelude.{slice_get}
use Rattle.std.specs.declared.alloc.Global.{Global}
use Rattle.zq_commands.proofs.SitePlaces.{get_behind}
use Rattle.zq_world.proofs.wanted.no_places.Goals as goal

none_in : (i : ℕ) (v : Vec ℕ Global) → slice_get [] i ≡ Some v → ⊥
none_in zero v at = absurd (cc)
none_in (suc i) v at = absurd (cc)

pub loop-moment-init : goal.loop-moment-init
loop-moment-init c = record {
  number = let none = ap length c.new-wanted.ensures.items in omega (arith, none);
  none = λ moment places at. absurd (none_in moment places (ap (λ (xs : List (Vec ℕ Global)). slice_get xs moment) (sym c.new-wanted.ensures.items) ∙ at));
}

pub loop-moment-preserved : goal.loop-moment-preserved
loop-moment-preserved c =
    let wanted = c.loop-moment.wanted.items in
    let next = c.new.result in
    let items = c.push_reserved.ensures.items ∙ ap (λ (xs : List (Vec ℕ Global)). xs ++ next ∷ []) c.in_ok-reserve.ensures.items in
    record {
      number = let long = ap length items in let more = length_push wanted next in omega (arith, long, more, c.loop-moment.invariant.number);
      none = λ moment places at. elim (get_behind wanted next moment places (ap (λ (xs : List (Vec ℕ Global)). slice_get xs moment) (sym items) ∙ at)) [
        | inl here ↦ c.loop-moment.invariant.none moment places here
        | inr last ↦ ap (λ (v : Vec ℕ Global). v.items) (sym last.1) ∙ c.new.ensures.items
      ];
    }
