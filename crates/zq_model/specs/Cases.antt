-- The examples as cases: what x is at in what one site has, or once two sites meet.

use Rattle.std.specs.Prelude.{List, None, Option, Some, [], neg_ℤ, pos, ℤ, ◌∷◌}
use Rattle.zq_model.specs.Examples.{MeetAt, Pair, StandsAt, at_both, at_first, at_second, far, key_q, member_a, member_x, member_y, near, on_x, put_a, put_apart, put_by, put_y, shared}
use Rattle.zq_model.specs.Operation.{Bump, Drop, MOST, Operation, Put}
use Rattle.zq_model.specs.Rule.{Rule}

-- the score of a member, or that it has none: in what one site has, and once two sites meet
pub data Case : Type 0 where
  Alone : (S : List Operation) → (score : Option ℤ) → Case
  Met : (S T : List Operation) → (score : Option ℤ) → Case

abbrev pub IsCase : Rule → Case → Type 0
IsCase rule (Alone S score) = StandsAt rule S 1 key_q member_x score
IsCase rule (Met S T score) = MeetAt rule S T 1 key_q member_x score

abbrev pub AreCases : Rule → List Case → Type 0
AreCases rule [] = Unit {0}
AreCases rule (case ∷ cases) = IsCase rule case × AreCases rule cases

-- the cases hold for either pair of sites
pub record Holds (rule : Rule) (cases : Pair → List Case) : Type 0 where
  pub of_near : AreCases rule (cases near)
  pub of_far : AreCases rule (cases far)

-- two sites share x at 10; one adds 5, the other 7
abbrev pub bumps : Pair → List Case
bumps p =
    Alone (shared p (pos 10)) (Some (pos 10))
    ∷ Alone (at_first p (Bump (pos 5)) (pos 10)) (Some (pos 15))
    ∷ Alone (at_second p (Bump (pos 7)) (pos 10)) (Some (pos 17))
    ∷ Met (at_first p (Bump (pos 5)) (pos 10)) (at_second p (Bump (pos 7)) (pos 10)) (Some (pos 22))
    ∷ []

-- two sites share x at 3; the second, which has seen it, puts it at another score, lower or higher
abbrev pub second_puts : Pair → List Case
second_puts p =
    Alone (at_second p (Put (pos 2)) (pos 3)) (Some (pos 2))
    ∷ Met (shared p (pos 3)) (at_second p (Put (pos 2)) (pos 3)) (Some (pos 2))
    ∷ Alone (at_second p (Put (pos 4)) (pos 3)) (Some (pos 4))
    ∷ Met (shared p (pos 3)) (at_second p (Put (pos 4)) (pos 3)) (Some (pos 4))
    ∷ []

-- two sites share x at 3; the second, which has seen it, drops it
abbrev pub second_drops : Pair → List Case
second_drops p =
    Alone (at_second p Drop (pos 3)) None
    ∷ Met (shared p (pos 3)) (at_second p Drop (pos 3)) None
    ∷ []

-- two sites share x at 3; one drops it, the other puts it at 4
abbrev pub drop_and_put : Pair → List Case
drop_and_put p =
    Alone (at_first p Drop (pos 3)) None
    ∷ Alone (at_second p (Put (pos 4)) (pos 3)) (Some (pos 4))
    ∷ Met (at_first p Drop (pos 3)) (at_second p (Put (pos 4)) (pos 3)) (Some (pos 4))
    ∷ []

-- two sites share x at 3; one drops it, the other adds 7
abbrev pub drop_and_bump : Pair → List Case
drop_and_bump p =
    Alone (at_second p (Bump (pos 7)) (pos 3)) (Some (pos 10))
    ∷ Met (at_first p Drop (pos 3)) (at_second p (Bump (pos 7)) (pos 3)) None
    ∷ []

-- two sites put x apart, at 5 and at 9, and it is at this score once they meet; one of them then
-- adds -6 to both Puts, and it is at that score
abbrev pub puts_apart : ℤ → ℤ → Pair → List Case
puts_apart met lowered p =
    Met (put_by p p.first (pos 5)) (put_by p p.second (pos 9)) (Some met)
    ∷ Alone (on_x p p.first 1 1 (Bump (neg_ℤ (pos 6))) ∷ put_apart p (pos 5) (pos 9)) (Some lowered)
    ∷ Met (on_x p p.first 1 1 (Bump (neg_ℤ (pos 6))) ∷ put_apart p (pos 5) (pos 9))
    (put_apart p (pos 5) (pos 9)) (Some lowered)
    ∷ []

-- two sites share x at 0, and each adds the greatest increment; one of them then takes it back once
abbrev pub greatest_bumps : Pair → List Case
greatest_bumps p =
    Alone (at_first p (Bump (pos MOST)) (pos 0)) (Some (pos 9007199254740992))
    ∷ Alone (at_second p (Bump (pos MOST)) (pos 0)) (Some (pos 9007199254740992))
    ∷ Met (at_first p (Bump (pos MOST)) (pos 0)) (at_second p (Bump (pos MOST)) (pos 0))
    (Some (pos 18014398509481984))
    ∷ Alone (on_x p p.first 2 1 (Bump (neg_ℤ (pos MOST)))
    ∷ at_both p (Bump (pos MOST)) (Bump (pos MOST)) (pos 0)) (Some (pos 9007199254740992))
    ∷ Met (on_x p p.first 2 1 (Bump (neg_ℤ (pos MOST)))
    ∷ at_both p (Bump (pos MOST)) (Bump (pos MOST)) (pos 0))
    (at_both p (Bump (pos MOST)) (Bump (pos MOST)) (pos 0)) (Some (pos 9007199254740992))
    ∷ []

-- two sites share x at 1, and both drop it
abbrev pub two_drops : Pair → List Case
two_drops p =
    Alone (at_first p Drop (pos 1)) None
    ∷ Alone (at_second p Drop (pos 1)) None
    ∷ Met (at_first p Drop (pos 1)) (at_second p Drop (pos 1)) None
    ∷ []

-- one site has put a and then y, and the other has nothing
pub record AreInTurn (rule : Rule) (p : Pair) : Type 0 where
  pub score_a : StandsAt rule (put_y p ∷ put_a p ∷ []) 0 key_q member_a (Some (pos 1))
  pub score_y : StandsAt rule (put_y p ∷ put_a p ∷ []) 0 key_q member_y (Some (pos 2))
  pub merged_a : MeetAt rule [] (put_y p ∷ put_a p ∷ []) 0 key_q member_a (Some (pos 1))
  pub merged_y : MeetAt rule [] (put_y p ∷ put_a p ∷ []) 0 key_q member_y (Some (pos 2))
