-- What a command that no memory cut makes of a site's books, and of the list of what was made.

use Rattle.std.proofs.Common.{List, Some, ap, false, map, refl, subst, sym, true≢false, ℕ, ◌<◌, ◌==◌, ◌∙◌, ◌≡◌}
use Rattle.std.proofs.lemmas.List.{take-append-drop}
use Rattle.std.proofs.lemmas.Option.{same_Some}
use Rattle.std.specs.Prelude.{drop, take}
use Rattle.zq_commands.specs.Lending.{Lending}
use Rattle.zq_commands.specs.Running.{EndsOver, part, told_after, whole}
use Rattle.zq_commands.specs.VecBooks.{rule_in}
use Rattle.zq_dots.specs.Placed.{Placed}
use Rattle.zq_model.specs.Books.{Book}
use Rattle.zq_model.proofs.Membership.{in_left}
use Rattle.zq_model.specs.Bounded.{HasShortNames}
use Rattle.zq_model.specs.Operation.{Operation}
use Rattle.zq_model.specs.Rule.{Rule}
use Rattle.zq_model.specs.Sets.{IsClosed, IsHeaps, IsIn, IsWorld, SITES}
use Rattle.zq_model.specs.Lent.{books_after, queues_of}
use Rattle.zq_model.specs.Moves.{Move, Queues}
use Rattle.zq_semantics.specs.Plan.{Plan, plan_of}
use Rattle.zq_semantics.specs.Replies.{Reply}
use Rattle.zq_semantics.specs.Run.{Memory, Number, Takes, Want, cut_reply, takes_of}
use Rattle.zq_semantics.proofs.InRange.{moves_sound}
use Rattle.zq_semantics.proofs.KeptRuns.{short_over}
use Rattle.zq_semantics.proofs.MovedBooks.{all_stand, done_part, done_whole, others_stay, some_stand, why_some}
use Rattle.zq_semantics.proofs.SiteBooks.{queues_are}
use Rattle.zq_semantics.specs.Books.{AreBooksOf, AreSound, AreUnworn}
use Rattle.zq_semantics.specs.Doing.{Done, done_by}
use Rattle.zq_semantics.specs.Reading.{heaps_in, queues_over}
use Rattle.zq_semantics.specs.State.{State, after_moves}
use Rattle.zq_words.specs.Command.{Command}
use Rattle.zq_words.specs.Limits.{IsWithinLimits}
use Rattle.zq_words.specs.Words.{Word}
use Rattle.zq_world.proofs.ToldRuns.{operations_placed, placed_all, told_moves}
use Rattle.zq_world.specs.Frames.{placed}
use Rattle.zq_world.specs.Told.{AreAmong, lending_told, operations_in}

-- the books of the site and the list are those of what is done, and the books of other sites stay theirs
pub record IsDoneAt (rule : Rule) (K site : ℕ) (st : State) (done : Done) (books : List Book) (told : List Placed) (reply : Word) : Type 0 where
  pub stands : AreBooksOf rule K done.now site books
  pub list : told ≡ map (placed K) done.now.made
  pub says : reply ≡ done.reply
  pub others : (other : ℕ) (theirs : List Book) → (other == site) ≡ false → AreBooksOf rule K st other theirs → AreBooksOf rule K done.now other theirs

module _ (rule : Rule) (K site stamp : ℕ) (heaps : IsHeaps K) (below : site < SITES) (st : State) (books : List Book) (made : List Placed) (world : IsWorld K (st.sets site)) (closed : IsClosed (st.sets site))
    (are : AreBooksOf rule K st site books) (listed : made ≡ map (placed K) st.made) where
  same_made : operations_in made ≡ st.made
  same_made = ap operations_in listed ∙ operations_placed K st.made

  -- what moves that stand tell
  told_so : (moves : List Move) (new : List Book) (told : List Placed) → AreSound moves → AreUnworn new → AreAmong K told → new ≡ books_after site stamp moves books →
      Some (operations_in told) ≡ told_after site stamp moves books (Some (operations_in made)) → told ≡ map (placed K) (after_moves K site stamp moves st).made
  told_so moves new told sound unworn among is tells =
      let all = (all_stand rule K site stamp heaps below moves st books new world closed sound are unworn is).0 in
      let told_is = tells ∙ ap (λ (os : List Operation). told_after site stamp moves books (Some os)) same_made ∙ told_moves rule K site stamp heaps below moves st books world closed sound all are in
      placed_all K told among ∙ ap (map (placed K)) (same_Some (operations_in told) (after_moves K site stamp moves st).made told_is)

  taken_sound : (k : ℕ) (moves : List Move) → AreSound moves → AreSound (take k moves)
  taken_sound k moves sound move here = sound move (subst (IsIn move) (take-append-drop k moves) (in_left move (take k moves) (drop k moves) here))

  module _ (plan : Plan) (cut : ℕ → Want → Reply) (new : List Book) (told : List Placed) (reply : Word) (sound : AreSound plan.moves) (unworn : AreUnworn new) (among : AreAmong K told) where
    -- a run that no memory cut
    pub ran_done : (takes : Takes) → EndsOver site stamp takes plan cut (lending_told books made) (lending_told new told) reply false →
        IsDoneAt rule K site st (done_by K site stamp plan (λ k. cut k Number) st) new told reply
    ran_done takes (whole lent says) =
        let is = ap (λ (l : Lending). l.books) lent in
        let stands = all_stand rule K site stamp heaps below plan.moves st books new world closed sound are unworn is in
        let done = done_whole K site stamp plan (λ k. cut k Number) st stands.0 in
        subst (λ (d : Done). IsDoneAt rule K site st d new told reply) (sym done) (record {
          stands = stands.1;
          list = told_so plan.moves new told sound unworn among is (ap (λ (l : Lending). l.told) lent);
          says = says;
          others = λ other theirs apart its. others_stay rule K site stamp other plan.moves st theirs apart its;
        })
    ran_done takes (part k Memory low lent why says memory) = absurd (true≢false (sym (memory refl)))
    ran_done takes (part k Number low lent why says memory) =
        let is = ap (λ (l : Lending). l.books) lent in
        let reason = why in
        let stands = some_stand rule K site stamp heaps below k plan.moves st books new world closed sound are unworn low is reason in
        let done = done_part K site stamp plan (λ n. cut n Number) st k stands.0 (why_some site k plan.moves new reason) in
        subst (λ (d : Done). IsDoneAt rule K site st d new told reply) (sym done) (record {
          stands = stands.1;
          list = told_so (take k plan.moves) new told (taken_sound k plan.moves sound) unworn among is (ap (λ (l : Lending). l.told) lent);
          says = says;
          others = λ other theirs apart its. others_stay rule K site stamp other (take k plan.moves) st theirs apart its;
        })

  -- a command over all books
  pub command_done : (command : Command) (new : List Book) (told : List Placed) (reply : Word) → rule_in books ≡ rule → ((o : Operation) → IsIn o (st.sets site) → HasShortNames o) → IsWithinLimits command →
      AreUnworn new → AreAmong K told →
      EndsOver site stamp (takes_of command (queues_of (rule_in books) books)) (plan_of command (queues_of (rule_in books) books)) (cut_reply command (queues_of (rule_in books) books)) (lending_told books made) (lending_told new told) reply false →
      IsDoneAt rule K site st (done_by K site stamp (plan_of command (queues_over rule (st.sets site) (heaps_in K))) (λ k. cut_reply command (queues_over rule (st.sets site) (heaps_in K)) k Number) st) new told reply
  command_done command new told reply ruled short limits unworn among ends =
      let q : Queues = queues_over rule (st.sets site) (heaps_in K) in
      let same : queues_of (rule_in books) books ≡ q = ap (λ r. queues_of r books) ruled ∙ queues_are rule K st site books are in
      let sound = moves_sound command q limits (short_over rule K (st.sets site) (heaps_in K) world short) in
      ran_done (plan_of command q) (cut_reply command q) new told reply sound unworn among (takes_of command q)
      (subst (λ (qs : Queues). EndsOver site stamp (takes_of command qs) (plan_of command qs) (cut_reply command qs) (lending_told books made) (lending_told new told) reply false) same ends)
