use Rattle.std.proofs.Common.{List, Ok, Option, Some, [], ap, arith, length, lt-ltb, map, nat_lt, refl, set, subst, sym, true, ◌++◌, ◌&&◌, ◌∙◌, ◌∷◌, ◌≡◌}
use Rattle.std.proofs.lemmas.List.{map-append}
use Rattle.std.proofs.lemmas.Option.{slice_get_read, slice_get_within}
use Rattle.std.specs.Prelude.{slice_get}
use Rattle.zq_delta.specs.Reading.{found_at}
use Rattle.zq_delta.specs.Spelling.{op_spelling}
use Rattle.zq_delta.specs.declared.version.Version.TheVariants as delta
use Rattle.zq_dots.specs.Placed.{Placed}
use Rattle.zq_model.specs.Operation.{Operation}
use Rattle.zq_model.specs.Sets.{IsIn, IsWorld, Taken}
use Rattle.zq_model.proofs.Read.{in_place}
use Rattle.zq_posheap.proofs.Lists.{behind}
use Rattle.zq_semantics.specs.Events.{Handed, Take, after_take, after_taken, answer_taken, answer_to_take, judged}
use Rattle.zq_world.proofs.Handing.{closed_of, its_book, made_taken, others_taken, world_with}
use Rattle.zq_world.proofs.Standing.{held_next, stands_set}
use Rattle.zq_world.specs.Frames.{placed}
use Rattle.zq_world.specs.declared.answer.Answer.TheVariants as answers
use Rattle.zq_world.specs.Play.{Holds, Played, Stands, answer_in, run_of}
use Rattle.zq_world.proofs.taking.hand.Goals as goal
use Rattle.zq_world.proofs.taking.hand.Goals.{After-index_mut}

-- the operation that is handed over, among those that were made
record IsGiven (c : After-index_mut) (played : Played) : Type 0 where
  o : Operation
  at : slice_get (run_of played).now.made c.args.op ≡ Some o
  here : IsIn o (run_of played).now.made
  is : c.in_ok-op.op ≡ placed played.heaps o

given : (c : After-index_mut) (played : Played) → Holds played c.args.player.now → IsGiven c played
given c played held =
    let st = (run_of played).now in
    let made = c.args.player.now.made.items in
    let p = c.index.result.now in
    let at_p = slice_get_read made (length made) c.args.op p refl c.requires.made c.index.ensures in
    let found = behind (placed played.heaps) st.made c.args.op p (ap (λ (xs : List Placed). slice_get xs c.args.op) (sym held.stands.told) ∙ at_p) in
    let here = in_place st.made c.args.op found.0 found.1 in
    let read = c.carrying.ensures.operations played.rule played.heaps played.sites played.events held.playable found.0 here in
    let same = c.in_ok-op.ensures.same (subst (λ (q : Placed). found_at (op_spelling delta.Two q) ≡ Ok (q, length (op_spelling delta.Two q))) found.2 read) in
    record { o = found.0; at = found.1; here = here; is = same ∙ sym found.2 }

-- the books of the site
its_at : (c : After-index_mut) → slice_get c.args.player.now.sites.items c.args.site ≡ Some c.index_mut.result.now
its_at c =
    let sites = c.args.player.now.sites.items in
    slice_get_read sites (length sites) c.args.site c.index_mut.result.now refl c.requires.inside c.index_mut.ensures.value

pub take_in-requires : goal.take_in-requires
take_in-requires c =
    let d = (goal.at.take_in-requires c).After-index_mut in
    let played = c.requires.held.0 in
    let held = c.requires.held.1 in
    let g = given d played held in
    record { placed = its_book played c.args.player.now held g.o g.here c.args.site c.index_mut.result.now.items (held.stands.each c.args.site c.index_mut.result.now (its_at d)) c.in_ok-op.op g.is }

pub returns-clause-held : goal.returns-clause-held
returns-clause-held c = λ played held.
    let d = (goal.at.returns-clause-held c).After-index_mut in
    let old = c.args.player.now in
    let site = c.args.site in
    let rule = played.rule in
    let K = played.heaps in
    let st = (run_of played).now in
    let g = given d played held in
    let its = held.stands.each site c.index_mut.result.now (its_at d) in
    let o = c.in_ok-op.op.operation in
    let same : o ≡ g.o = ap (λ (p : Placed). p.operation) g.is in
    let done = c.in_ok-taken.ensures.handed rule K st site its
    (subst (λ (x : Operation). IsWorld K (x ∷ st.sets site)) (sym same) (world_with played old held g.o g.here site)) (closed_of played old held g.o g.here site) in
    let judging = judged st site o in
    let state : after_take K st site (slice_get st.made c.args.op) ≡ after_taken K st site o judging
    = ap (after_take K st site) g.at ∙ ap (λ (x : Operation). after_taken K st site x (judged st site x)) (sym same) in
    let answer : answer_to_take K st site (slice_get st.made c.args.op) ≡ answer_taken K st site o judging
    = ap (answer_to_take K st site) g.at ∙ ap (λ (x : Operation). answer_taken K st site x (judged st site x)) (sym same) in
    let stands = stands_set rule K played.sites st (after_taken K st site o judging) old.sites.items old.made.items old.made.items site c.take_in.new.books held.stands c.requires.inside done.0
    (λ other theirs apart are. others_taken rule K st site o judging other theirs apart are) (held.stands.told ∙ ap (map (placed K)) (sym (made_taken K st site o judging))) in
    let items = c.push_reserved.ensures.items ∙ ap (λ xs. xs ++ answers.Handed c.in_ok-taken.taken ∷ []) c.reserve.ensures.items in
    let inside : nat_lt site played.sites ≡ true = lt-ltb site played.sites (omega (arith, c.requires.inside, held.stands.number)) in
    let made : nat_lt c.args.op (length st.made) ≡ true = lt-ltb c.args.op (length st.made) (slice_get_within st.made c.args.op g.o g.at) in
    held_next played old _ (Take site c.args.op) held tt (λ i. inside i && made i)
    (subst (λ s. Stands rule K played.sites s (set old.sites.items site c.take_in.new.books) old.made.items) (sym state) stands)
    (ap (map answer_in) items ∙ map-append answer_in old.answers.items (answers.Handed c.in_ok-taken.taken ∷ []) ∙ ap (λ (t : Option Taken). map answer_in old.answers.items ++ Handed t ∷ []) (done.1 ∙ sym answer))
