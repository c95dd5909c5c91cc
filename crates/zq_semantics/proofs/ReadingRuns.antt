-- Runs of procedures that only read.

use Rattle.std.proofs.Common.{List, [], ap, arith, inl, inr, length, refl, subst, suc, sym, take, true, true≢false, zero, ℕ, ◌∙◌, ◌∷◌, ◌≡◌, ◌≤◌, ◌⊎◌}
use Rattle.std.specs.Prelude.{slice_get}
use Rattle.zq_model.specs.Books.{Book}
use Rattle.zq_model.specs.Lent.{books_after, queues_of}
use Rattle.zq_model.specs.Moves.{Move, Queues}
use Rattle.zq_model.specs.Rule.{Rule}
use Rattle.zq_semantics.specs.Plan.{Plan}
use Rattle.zq_semantics.specs.Procedures.{AreReading, IsReading, Procedure, RunsAll, RunsProcedure, answered_over, procedure_of}
use Rattle.zq_semantics.specs.Reading.{is_reading}
use Rattle.zq_semantics.specs.Replies.{Reply, bytes_of}
use Rattle.zq_semantics.specs.Run.{IsWhyOf, Memory, Number, Runs, Takes, Want, part, whole}
use Rattle.zq_words.specs.Command.{Command, Del, Ping, Zadd, ZaddIncr, Zcard, Zcount, Zincrby, Zpopmin, Zpopnear, Zrange, Zrank, Zrem, Zrevrank, Zscore}
use Rattle.zq_words.specs.Words.{Word}

pub commands_read : (command : Command) → is_reading command ≡ true → IsReading (procedure_of command)
commands_read (Zscore key member) is queues = refl
commands_read (Zcard key) is queues = refl
commands_read (Zcount key min max) is queues = refl
commands_read (Zrank key member) is queues = refl
commands_read (Zrevrank key member) is queues = refl
commands_read (Zrange key range is_turned with_scores) is queues = refl
commands_read (Ping message) is queues = absurd (true≢false (sym is))
commands_read (Zadd key flags pairs) is queues = absurd (true≢false (sym is))
commands_read (ZaddIncr key flags increment member) is queues = absurd (true≢false (sym is))
commands_read (Zincrby key increment member) is queues = absurd (true≢false (sym is))
commands_read (Zrem key members) is queues = absurd (true≢false (sym is))
commands_read (Zpopmin key count) is queues = absurd (true≢false (sym is))
commands_read (Zpopnear key) is queues = absurd (true≢false (sym is))
commands_read (Del keys) is queues = absurd (true≢false (sym is))

module _ (site stamp : ℕ) (takes : Takes) (plan : Plan) (cut : ℕ → Want → Reply) (old new : List Book) (reply : Word) (none : plan.moves ≡ []) where
  cut_at : (k : ℕ) (want : Want) → k ≤ length plan.moves → IsWhyOf takes site (slice_get plan.moves k) new want → reply ≡ bytes_of (cut k want) → reply ≡ bytes_of (cut 0 Memory)
  cut_at (suc k) want most why says = let few = ap length none in absurd (omega (arith, most, few))
  cut_at zero Memory most why says = says
  cut_at zero Number most why says = absurd (subst (λ (moves : List Move). IsWhyOf takes site (slice_get moves 0) new Number) none why)

  none_taken : (moves : List Move) (k : ℕ) → moves ≡ [] → take k moves ≡ []
  none_taken [] zero e = refl
  none_taken [] (suc k) e = refl
  none_taken (move ∷ moves) k e = absurd (cc)

  pub none_made : Runs site stamp takes plan cut old new reply → (new ≡ old) × ((reply ≡ bytes_of plan.reply) ⊎ (reply ≡ bytes_of (cut 0 Memory)))
  none_made (whole is says) = (is ∙ ap (λ moves. books_after site stamp moves old) none, inl says)
  none_made (part k want most is why says) =
      (is ∙ ap (λ moves. books_after site stamp moves old) (none_taken plan.moves k none), inr (cut_at k want most why says))

pub each_leaves : (rule : Rule) (site stamp : ℕ) (ps : List Procedure) (old new : List Book) (replies : List Word) → AreReading ps → RunsAll rule site stamp ps old new replies → new ≡ old
each_leaves rule site stamp [] old new [] are ran = ran
each_leaves rule site stamp [] old new (reply ∷ replies) are ran = absurd ran
each_leaves rule site stamp (p ∷ ps) old new [] are ran = absurd ran
each_leaves rule site stamp (p ∷ ps) old new (reply ∷ replies) are ran =
    each_leaves rule site stamp ps ran.0 new replies are.1 ran.2
    ∙ (none_made site stamp (p.takes (queues_of rule old)) (p.plan (queues_of rule old)) (p.cut (queues_of rule old)) old ran.0 reply (are.0 (queues_of rule old)) ran.1).0
