-- What a command makes of a state, and what it is answered.

use Rattle.std.specs.Prelude.{Bool, Err, List, Ok, [], false, if◌then◌else◌, length, max, min, take, true, ℕ, ◌%◌, ◌+◌, ◌-◌, ◌==◌, ◌∷◌}
use Rattle.zq_model.specs.Operation.{Operation}
use Rattle.zq_model.specs.Rule.{Rule}
use Rattle.zq_model.specs.Moves.{Queues}
use Rattle.zq_semantics.specs.Plan.{Plan, is_there, plan_of}
use Rattle.zq_semantics.specs.Replies.{Reply, bytes_of}
use Rattle.zq_semantics.specs.Run.{Number, cut_error, cut_reply}
use Rattle.zq_semantics.specs.Reading.{heaps_in, queues_over, refused_bytes}
use Rattle.zq_semantics.specs.State.{State, after_moves, is_worn, next_stamp, standing}
use Rattle.zq_words.specs.Command.{Command, Ping, Reading, Zpopnear}
use Rattle.zq_words.specs.Words.{Word}

-- the two heaps that two words draw, of K
abbrev pub first_drawn : ℕ → ℕ → ℕ
first_drawn K w1 = w1 % K

abbrev pub second_drawn : ℕ → ℕ → ℕ → ℕ
second_drawn K w1 w2 = (first_drawn K w1 + 1 + w2 % (K - 1)) % K

-- the lesser of them first
abbrev pub drawn : ℕ → ℕ → ℕ → List ℕ
drawn K w1 w2 = min (first_drawn K w1) (second_drawn K w1 w2)
    ∷ max (first_drawn K w1) (second_drawn K w1 w2) ∷ []

-- the queues over which a command plans: over the heaps that are drawn for ZPOPNEAR, where one of
-- them has a member of the key, and else over all
abbrev pub queues_for : Rule → ℕ → List Operation → ℕ → ℕ → Command → Queues
queues_for rule K S w1 w2 (Zpopnear key) =
    if is_there (queues_over rule S (drawn K w1 w2) key) then queues_over rule S
    (drawn K w1 w2) else queues_over rule S (heaps_in K)
queues_for rule K S w1 w2 command = queues_over rule S (heaps_in K)

pub record Done : Type 0 where
  pub now : State
  pub reply : Word

abbrev pub unchanged : State → Word → Done
unchanged st reply = record { now = st; reply = reply }

-- the first k of the moves stand
abbrev pub done_to : ℕ → ℕ → ℕ → Plan → (ℕ → Reply) → State → ℕ → Done
done_to K site stamp plan cut st k = record {
  now = after_moves K site stamp (take k plan.moves) st;
  reply = bytes_of (if k == length plan.moves then plan.reply else cut k);
}

-- as many of the moves stand as can
abbrev pub done_by : ℕ → ℕ → ℕ → Plan → (ℕ → Reply) → State → Done
done_by K site stamp plan cut st =
    done_to K site stamp plan cut st (standing K site stamp plan.moves st)

-- PING asks for no stamp
abbrev pub is_ping : Command → Bool
is_ping (Ping message) = true
is_ping command = false

abbrev pub done_command : Rule → ℕ → ℕ → ℕ → ℕ → State → Command → Queues → Done
done_command rule K site w1 w2 st command queues =
    if is_ping command then unchanged st (bytes_of (plan_of command queues).reply) else
    if is_worn K st site then unchanged st (bytes_of (cut_error 0 Number)) else
    done_by K site (next_stamp K st site) (plan_of command queues)
    (λ k. cut_reply command queues k Number) st

-- what a request does that a site is asked, with two words drawn for it
abbrev pub done : Rule → ℕ → ℕ → ℕ → ℕ → State → Reading → Done
done rule K site w1 w2 st (Err refused) = unchanged st (refused_bytes refused)
done rule K site w1 w2 st (Ok command) =
    done_command rule K site w1 w2 st command (queues_for rule K (st.sets site) w1 w2 command)
