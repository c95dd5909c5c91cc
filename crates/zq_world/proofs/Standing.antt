-- What a world has after one event more.

use Rattle.std.proofs.Common.{List, Vec, [], ap, false, inl, inr, length, map, set, subst, sym, true, ℕ, ◌++◌, ◌<◌, ◌==◌, ◌∙◌, ◌∷◌, ◌≡◌}
use Rattle.std.proofs.lemmas.Bool.{cases_eq, ne_eqb}
use Rattle.std.proofs.lemmas.List.{length-set}
use Rattle.std.proofs.lemmas.Option.{same_Some}
use Rattle.std.specs.Prelude.{slice_get}
use Rattle.std.specs.declared.alloc.Global.{Global}
use Rattle.zq_dots.specs.Placed.{Placed}
use Rattle.zq_model.specs.Books.{Book}
use Rattle.zq_model.specs.Rule.{Rule}
use Rattle.zq_posheap.proofs.Lists.{slice_get-set_other, slice_get-set_same}
use Rattle.zq_semantics.specs.Books.{AreBooksOf}
use Rattle.zq_semantics.specs.Events.{Event, Run, answer_to, is_possible, state_after}
use Rattle.zq_semantics.specs.Runs.{IsEvent}
use Rattle.zq_semantics.specs.State.{State}
use Rattle.zq_world.proofs.Prefixes.{playable_next, run_next}
use Rattle.zq_world.specs.Frames.{placed}
use Rattle.zq_world.specs.Play.{Holds, Played, Stands, after, answer_in, run_of}
use Rattle.zq_world.specs.declared.player.Player.{Player}

-- a site's books are new, and those of the others stand for the new state too
pub stands_set : (rule : Rule) (K sites : ℕ) (st later : State) (books : List (Vec Book Global)) (made told : List Placed) (site : ℕ) (its : Vec Book Global) → Stands rule K sites st books made →
    site < length books → AreBooksOf rule K later site its.items →
    ((other : ℕ) (theirs : List Book) → (other == site) ≡ false → AreBooksOf rule K st other theirs → AreBooksOf rule K later other theirs) →
    told ≡ map (placed K) later.made → Stands rule K sites later (set books site its) told
stands_set rule K sites st later books made told site its stands inside are others is = record {
  number = length-set books site its ∙ stands.number;
  each = λ other theirs at. elim (cases_eq other site) [
    | inl same ↦
        let it : its ≡ theirs = same_Some its theirs (sym (slice_get-set_same books site its inside) ∙ ap (slice_get (set books site its)) (sym same) ∙ at) in
        subst (λ (n : ℕ). AreBooksOf rule K later n theirs.items) (sym same) (subst (λ (v : Vec Book Global). AreBooksOf rule K later site v.items) it are)
    | inr apart ↦ others other theirs.items (ne_eqb other site apart) (stands.each other theirs (sym (slice_get-set_other books site other its apart) ∙ at))
  ];
  told = is;
}

module _ (played : Played) (old new : Player) (e : Event) where
  abbrev before : Run
  before = run_of played

  -- an event that can come was played
  pub held_next : Holds played old → IsEvent e → is_possible played.heaps played.sites before e ≡ true →
      Stands played.rule played.heaps played.sites (state_after played.rule played.heaps before e) new.sites.items new.made.items →
      map answer_in new.answers.items ≡ map answer_in old.answers.items ++ answer_to played.rule played.heaps before e ∷ [] → Holds (after played e) new
  held_next held is possible stands answers =
      let run = run_next played.rule played.heaps played.events e in
      record {
        two = held.two;
        playable = playable_next played.rule played.heaps played.sites played.events e held.playable is possible;
        stands = subst (λ (r : Run). Stands played.rule played.heaps played.sites r.now new.sites.items new.made.items) (sym run) stands;
        answers = answers ∙ ap (λ xs. xs ++ answer_to played.rule played.heaps before e ∷ []) held.answers ∙ sym (ap (λ (r : Run). r.answers) run);
      }
