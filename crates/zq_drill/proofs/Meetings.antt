-- Meetings one after the other.
use Rattle.std.proofs.Common.{ne_eqb, eq-eqb, refl, subst, sym}
use Rattle.std.proofs.lemmas.Bool.{cond-false, cond-true}
use Rattle.std.specs.Prelude.{List, [], ℕ, ◌+◌, ◌++◌, ◌==◌, ◌∷◌, ◌≡◌, ◌≢◌}
use Rattle.zq_drill.proofs.Nexts.{next}
use Rattle.zq_drill.specs.Meetings.{AreMeetings, IsMeeting, pair_of, to_each, to_one}
use Rattle.zq_drill.specs.SiteHandles.{Place}

pub meetings_append : (pairs more : List (ℕ × ℕ)) (before mid after : List Place) → AreMeetings pairs before mid → AreMeetings more mid after → AreMeetings (pairs ++ more) before after
meetings_append [] more before mid after are then = subst (λ places. AreMeetings more places after) are then
meetings_append (pair ∷ pairs) more before mid after are then = (are.0, are.1, meetings_append pairs more are.0 mid after are.2 then)

-- two sites met
pub one_meeting : (receiver sender : ℕ) (before after : List Place) → sender ≢ receiver → IsMeeting receiver sender before after → AreMeetings (pair_of receiver sender) before after
one_meeting receiver sender before after apart is =
    let pair : pair_of receiver sender ≡ (receiver, sender) ∷ [] = cond-false (sender == receiver) _ _ (ne_eqb sender receiver apart) in
    subst (λ (pairs : List (ℕ × ℕ)). AreMeetings pairs before after) (sym pair) (after, is, refl)

-- a site does not meet itself
pub no_meeting : (receiver sender : ℕ) (places : List Place) → sender ≡ receiver → AreMeetings (pair_of receiver sender) places places
no_meeting receiver sender places same =
    let none : pair_of receiver sender ≡ [] = cond-true (sender == receiver) _ _ (eq-eqb sender receiver same) in
    subst (λ (pairs : List (ℕ × ℕ)). AreMeetings pairs places places) (sym none) refl

-- one sender more, and one receiver more
pub sender_next : (receiver sender : ℕ) (before mid after : List Place) → AreMeetings (to_one receiver sender) before mid → AreMeetings (pair_of receiver sender) mid after → AreMeetings (to_one receiver (sender + 1)) before after
sender_next receiver sender before mid after are one =
    subst (λ n. AreMeetings (to_one receiver n) before after) (next sender) (meetings_append (to_one receiver sender) (pair_of receiver sender) before mid after are one)

pub receiver_next : (senders receiver : ℕ) (before mid after : List Place) → AreMeetings (to_each senders receiver) before mid → AreMeetings (to_one receiver senders) mid after → AreMeetings (to_each senders (receiver + 1)) before after
receiver_next senders receiver before mid after are one =
    subst (λ n. AreMeetings (to_each senders n) before after) (next receiver) (meetings_append (to_each senders receiver) (to_one receiver senders) before mid after are one)
