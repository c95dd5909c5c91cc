-- Procedures, one after the other.

use Rattle.std.proofs.Common.{ap, get_or, refl, subst, sym, ◌∙◌}
use Rattle.std.proofs.lemmas.List.{append_assoc}
use Rattle.std.specs.List.{All}
use Rattle.std.specs.Prelude.{Bool, List, Some, [], slice_get, take, ℕ, ℤ, ◌++◌, ◌+◌, ◌∷◌, ◌≡◌}
use Rattle.zq_commands.proofs.AtPlace.{home_kept}
use Rattle.zq_commands.proofs.InTurn.{take_next}
use Rattle.zq_commands.specs.Calls.{AnswersAll, EndsProcedure, HasCallBooks}
use Rattle.zq_commands.specs.Commands.{HasBooks}
use Rattle.zq_commands.specs.Lending.{HasBook, Lending, lent_after, queues_in}
use Rattle.zq_commands.specs.Running.{lent_after_all, part, whole}
use Rattle.zq_model.specs.Books.{Book}
use Rattle.zq_model.specs.Moves.{Move}
use Rattle.zq_model.specs.Rule.{Rule}
use Rattle.zq_semantics.specs.Procedures.{Procedure, RunsAll, RunsProcedure}
use Rattle.zq_words.specs.Calls as call
use Rattle.zq_words.specs.Calls.{Call}
use Rattle.zq_words.specs.Command.{Command, Del, Ping, Zadd, ZaddIncr, Zcard, Zcount, Zincrby, Zpopmin, Zpopnear, Zrange, Zrank, Zrem, Zrevrank, Zscore}
use Rattle.zq_words.specs.Words.{Word}

-- one procedure more
pub each_more : (rule : Rule) (site stamp : ℕ) (ps : List Procedure) (p : Procedure) (old mid new : List Book) (replies : List Word) (reply : Word) →
    RunsAll rule site stamp ps old mid replies → RunsProcedure rule site stamp p mid new reply → RunsAll rule site stamp (ps ++ p ∷ []) old new (replies ++ reply ∷ [])
each_more rule site stamp [] p old mid new [] reply ran last = (new, subst (λ books. RunsProcedure rule site stamp p books new reply) ran last, refl)
each_more rule site stamp [] p old mid new (r ∷ replies) reply ran last = absurd ran
each_more rule site stamp (q ∷ ps) p old mid new [] reply ran last = absurd ran
each_more rule site stamp (q ∷ ps) p old mid new (r ∷ replies) reply ran last =
    (ran.0, ran.1, each_more rule site stamp ps p ran.0 mid new replies reply ran.2 last)

-- each member that has a book has it after some moves
pub homes_kept : (site stamp : ℕ) (moves : List Move) (key member : List ℕ) (lent : Lending) → HasBook key member lent → HasBook key member (lent_after_all site stamp moves lent)
homes_kept site stamp [] key member lent home = home
homes_kept site stamp (move ∷ moves) key member lent home =
    homes_kept site stamp moves key member (lent_after site stamp move lent) (home_kept site stamp move key member lent home)

-- and after a procedure
pub home_ran : (site stamp : ℕ) (p : Procedure) (old new : Lending) (reply : Word) (short : Bool) (key member : List ℕ) →
    EndsProcedure site stamp p old new reply short → HasBook key member old → HasBook key member new
home_ran site stamp p old new reply short key member (whole is says) home = subst (HasBook key member) (sym is) (homes_kept site stamp (p.plan (queues_in old)).moves key member old home)
home_ran site stamp p old new reply short key member (part k want most is why says memory) home = subst (HasBook key member) (sym is) (homes_kept site stamp (take k (p.plan (queues_in old)).moves) key member old home)

all_of : {X : Type 0} (P : X → Type 0) (xs : List X) → ((x : X) → P x) → All P xs
all_of P xs each = λ k d inside. each (get_or xs k d)

-- where every member has a book, those of a command have
homes_of : (command : Command) (lent : Lending) → ((key member : List ℕ) → HasBook key member lent) → HasBooks command lent
homes_of (Ping message) lent home = tt
homes_of (Zadd key flags pairs) lent home = all_of (λ (pair : ℤ × Word). HasBook key pair.1 lent) pairs (λ pair. home key pair.1)
homes_of (ZaddIncr key flags increment member) lent home = home key member
homes_of (Zincrby key increment member) lent home = home key member
homes_of (Zrem key members) lent home = all_of (λ member. HasBook key member lent) members (home key)
homes_of (Zscore key member) lent home = home key member
homes_of (Zcard key) lent home = tt
homes_of (Zcount key min max) lent home = tt
homes_of (Zrank key member) lent home = home key member
homes_of (Zrevrank key member) lent home = home key member
homes_of (Zrange key range is_turned with_scores) lent home = tt
homes_of (Zpopmin key count) lent home = tt
homes_of (Zpopnear key) lent home = tt
homes_of (Del keys) lent home = tt

-- and those of what a site is asked
pub call_homes : (asked : Call) (lent : Lending) → ((key member : List ℕ) → HasBook key member lent) → HasCallBooks asked lent
call_homes (call.Plain command) lent home = homes_of command lent home
call_homes (call.Scores key members) lent home = all_of (λ member. HasBook key member lent) members (home key)
call_homes (call.Exist keys) lent home = tt
call_homes (call.TypeOf key) lent home = tt
call_homes (call.PopLast key count) lent home = tt
call_homes (call.RemoveRange key range) lent home = tt
call_homes (call.PopLeftmost keys is_turned) lent home = tt

-- the next procedure's reply stands behind the others
pub answers_more : (rule : Rule) (site stamp : ℕ) (ps : List Procedure) (i : ℕ) (p : Procedure) (old mid new : List Book) (before later : List Word) (reply : Word) (now : List Word) →
    slice_get ps i ≡ Some p → AnswersAll rule site stamp (take i ps) old mid before later → RunsProcedure rule site stamp p mid new reply → now ≡ later ++ reply ∷ [] →
    AnswersAll rule site stamp (take (i + 1) ps) old new before now
answers_more rule site stamp ps i p old mid new before later reply now at so ran is = (
  so.0 ++ reply ∷ [],
  is ∙ ap (λ words. words ++ reply ∷ []) so.1 ∙ append_assoc before so.0 (reply ∷ []),
  subst (λ front. RunsAll rule site stamp front old new (so.0 ++ reply ∷ [])) (sym (take_next ps i p at)) (each_more rule site stamp (take i ps) p old mid new so.0 reply so.2 ran),
)
