-- Books that are reached from one another.

use Rattle.std.proofs.Common.{ap, arith, inl, subst, sym, ◌∙◌}
use Rattle.std.proofs.lemmas.List.{length-append}
use Rattle.std.specs.Prelude.{List, [], drop, refl, ℕ, ◌++◌, ◌+◌, ◌<◌, ◌≡◌, ◌≤◌}
use Rattle.zq_model.proofs.CutTails.{IsCut, cut_again, cut_off}
use Rattle.zq_model.proofs.BookSteps.{are_rising-joined, are_rising-own, are_steps_over-append, steps_image-append}
use Rattle.zq_model.proofs.BookTails.{tail_after-append}
use Rattle.zq_model.proofs.Works.{after_steps-tail}
use Rattle.zq_model.specs.Books.{Book, Step, advanced, tail_after, touched}
use Rattle.zq_model.specs.Reach.{IsCutOff, IsReachedBy, IsWorked, begun, cut_of}

pub reached_through : (c b a : Book) (xs ys : List Step) → IsReachedBy c b ys → IsReachedBy b a xs → IsReachedBy c a (xs ++ ys)
reached_through c b a xs ys second first =
    let tails : IsCut a.limits (tail_after (tail_after a.tail xs) ys) c.tail =
    cut_again a.limits (tail_after a.tail xs) b.tail c.tail ys (record { cut = first.cut; is = first.tail; long = first.long }) (record { cut = second.cut; is = second.tail; long = subst (λ limits. IsCutOff limits second.cut c.tail) first.limits second.long }) in
    record {
      heap = second.heap ∙ first.heap;
      heaps = second.heaps ∙ first.heaps;
      rule = second.rule ∙ first.rule;
      limits = second.limits ∙ first.limits;
      legal = are_steps_over-append a.heaps a.heap xs ys a.state first.legal (rw (← first.heap, ← first.heaps, ← first.state) second.legal);
      state = second.state ∙ rw (first.state, steps_image-append xs ys a.state) refl;
      rising = are_rising-joined (a.stamp + 1) b.stamp c.stamp xs ys (omega (arith, first.stamp)) second.stamp first.rising second.rising;
      stamp = omega (arith, first.stamp, second.stamp);
      count = omega (arith, first.count, second.count, length-append xs ys);
      cut = tails.cut;
      tail = tails.is ∙ sym (tail_after-append a.tail xs ys);
      long = tails.long;
    }

worked_tail : (b a : Book) (stamp : ℕ) (steps : List Step) → IsWorked b a stamp steps → b.tail ≡ tail_after (drop (cut_of a) a.tail) steps
worked_tail b a stamp steps is = ap (λ c. c.tail) is.is ∙ after_steps-tail steps (begun stamp a)

pub worked_reaches : (b a : Book) (stamp : ℕ) (steps : List Step) → IsWorked b a stamp steps → a.stamp < stamp → IsReachedBy b a steps
worked_reaches b a stamp steps is later =
    let tails : IsCut a.limits (tail_after a.tail steps) b.tail = cut_again a.limits a.tail (drop (cut_of a) a.tail) b.tail steps (cut_off (cut_of a) a (omega arith)) (record { cut = []; is = worked_tail b a stamp steps is; long = inl refl }) in
    record {
      heap = is.heap;
      heaps = is.heaps;
      rule = is.rule;
      limits = is.limits;
      legal = is.legal;
      state = is.state;
      rising = rw is.stamp_is (are_rising-own (a.stamp + 1) stamp steps (omega arith) is.own);
      stamp = omega (arith, is.stamp_is);
      count = is.count;
      cut = tails.cut;
      tail = tails.is;
      long = tails.long;
    }

pub touched_reaches : (a : Book) (stamp : ℕ) → a.stamp ≤ stamp → IsReachedBy (touched a stamp) a []
touched_reaches a stamp later = record {
  heap = refl;
  heaps = refl;
  rule = refl;
  limits = refl;
  legal = refl;
  state = refl;
  rising = refl;
  stamp = later;
  count = omega arith;
  cut = [];
  tail = refl;
  long = inl refl;
}

pub advanced_reaches : (n : ℕ) (a : Book) → n ≤ cut_of a → IsReachedBy (advanced n a) a []
advanced_reaches n a most =
    let tails : IsCut a.limits a.tail (drop n a.tail) = cut_off n a most in
    record {
      heap = refl;
      heaps = refl;
      rule = refl;
      limits = refl;
      legal = refl;
      state = refl;
      rising = refl;
      stamp = omega arith;
      count = omega arith;
      cut = tails.cut;
      tail = tails.is;
      long = tails.long;
    }
