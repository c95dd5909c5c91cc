-- Members that are dropped one after the other, as far as that came.

use Rattle.std.proofs.Common.{Bool, None, Option, Some, [], ap, arith, false, inl, length, refl, subst, sym, true, ℕ, ◌∙◌, ◌∷◌, ◌≡◌}
use Rattle.std.proofs.lemmas.List.{take_all}
use Rattle.std.specs.Prelude.{List, if◌then◌else◌, nat_le, slice_get, take}
use Rattle.zq_commands.proofs.InTurn.{StandsAfter, stands_cut, stands_whole}
use Rattle.zq_commands.proofs.RanPlans.{next_move, why_made}
use Rattle.zq_commands.specs.Dropping.{DropsEach, IsDropped, drops_of}
use Rattle.zq_commands.specs.Lending.{Lending, queues_in}
use Rattle.zq_commands.specs.Running.{EndsOver, lent_after_all, part, whole}
use Rattle.zq_commands.specs.Stopped.{want_of}
use Rattle.zq_commands.specs.declared.cleared.Cleared.{Cleared}
use Rattle.zq_commands.specs.declared.stopped.Stopped.{Stopped}
use Rattle.zq_commands.specs.declared.stopped.Stopped.TheVariants.{NoMemory, Worn}
use Rattle.zq_model.specs.Books.{Book}
use Rattle.zq_model.specs.Moves.{Move}
use Rattle.zq_semantics.specs.Plan.{moves_in_turn, zrem_part}
use Rattle.zq_semantics.specs.Procedures.{takes_found}
use Rattle.zq_semantics.specs.Replies.{Reply, bytes_of}
use Rattle.zq_semantics.specs.Run.{ForCopies, ForMoves, ForReply, IsWhy, IsWhyOf, Memory, Number, Takes, UNCOUNTED, Want}
use Rattle.zq_words.specs.Words.{Word}

module _ (site stamp : ℕ) (key : Word) (xs : List Word) (s t : Lending) (done : ℕ) where
  -- all of them
  pub dropped_whole : StandsAfter (zrem_part key) site stamp xs (length xs) s t done done → DropsEach site stamp key xs s t (record { done = done; cut = None })
  dropped_whole here =
      let stands = stands_cut (zrem_part key) site stamp xs (length xs) s t done done here in
      let all : take (length xs) xs ≡ xs = take_all (length xs) xs (omega arith) in
      record {
        within = stands.0;
        lent = stands.1;
        left = (
          here.made ∙ ap (λ ys. length (moves_in_turn (zrem_part key) ys (queues_in s))) all,
          (stands_whole (zrem_part key) site stamp xs s t done done here).1,
        );
      }

  -- those before the one at i, which was to be dropped and was refused
  pub dropped_cut : (cut : Stopped) (i : ℕ) (x : Word) (move : Move) → StandsAfter (zrem_part key) site stamp xs i s t done done → slice_get xs i ≡ Some x → (zrem_part key (queues_in t) x).moves ≡ move ∷ [] →
      (cut ≡ Worn → IsWhy site (Some move) t.books Number) → (cut ≡ NoMemory → IsWhy site (Some move) t.books Number → ⊥) → DropsEach site stamp key xs s t (record { done = done; cut = Some cut })
  dropped_cut cut i x move here at is worn memory =
      let stands = stands_cut (zrem_part key) site stamp xs i s t done done here in
      record {
        within = stands.0;
        lent = stands.1;
        left = subst (λ o. IsWhyOf ForMoves site o t.books (want_of cut)) (sym (next_move (zrem_part key) site stamp xs s t done done i x move here at is)) (why_made site t.books move cut worn memory);
      }

-- a reason that serves where only moves take memory serves where copies do
pub why_copied : (site : ℕ) (next : Option Move) (books : List Book) (want : Want) → IsWhyOf ForMoves site next books want → IsWhyOf ForCopies site next books want
why_copied site None books Memory why = why
why_copied site (Some move) books Memory why = tt
why_copied site next books Number why = why

pub why_found : (site members : ℕ) (next : Option Move) (books : List Book) (want : Want) → IsWhyOf ForMoves site next books want → IsWhyOf (takes_found members) site next books want
why_found site members next books want why =
    elim (nat_le UNCOUNTED members) as (λ b. IsWhyOf (if b then ForReply true 0 else ForCopies) site next books want) [
      | true ↦ any want why
      | false ↦ why_copied site next books want why
    ]
  where
    any : (want : Want) → IsWhyOf ForMoves site next books want → IsWhyOf (ForReply true 0) site next books want
    any Memory why = inl refl
    any Number why = why

-- what a procedure comes to whose moves they make
module _ (site stamp : ℕ) (takes : Takes) (key : Word) (xs : List Word) (s t : Lending) (dropped : Cleared) (drops : DropsEach site stamp key xs s t dropped) (reply : Reply) (cut_as : ℕ → Want → Reply) (bytes : Word) (short : Bool) where
  pub ends_dropped : ((next : Option Move) (want : Want) → IsWhyOf ForMoves site next t.books want → IsWhyOf takes site next t.books want) →
      (dropped.cut ≡ None → IsDropped site key xs s t dropped.done None → bytes ≡ bytes_of reply) → ((cut : Stopped) → dropped.cut ≡ Some cut → bytes ≡ bytes_of (cut_as dropped.done (want_of cut))) →
      ((cut : Stopped) → dropped.cut ≡ Some cut → want_of cut ≡ Memory → short ≡ true) →
      EndsOver site stamp takes (record { moves = drops_of key xs s; reply = reply }) cut_as s t bytes short
  ends_dropped wider says cut_says told =
      elim dropped.cut as (λ o. dropped.cut ≡ o → IsDropped site key xs s t dropped.done o → EndsOver site stamp takes (record { moves = drops_of key xs s; reply = reply }) cut_as s t bytes short) [
        | None ↦ λ none left.
            let number = left.0 in
            let all : take dropped.done (drops_of key xs s) ≡ drops_of key xs s = take_all dropped.done (drops_of key xs s) (omega (arith, number)) in
            whole (drops.lent ∙ ap (λ moves. lent_after_all site stamp moves s) all) (says none left)
        | Some cut ↦ λ some left. part dropped.done (want_of cut) drops.within drops.lent (wider _ (want_of cut) left) (cut_says cut some) (told cut some)
      ] refl drops.left
