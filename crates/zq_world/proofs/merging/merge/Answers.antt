use Rattle.std.proofs.Common.{Some, [], ap, arith, length, ltb-true, map, refl, subst, sym, true, ℕ, ◌++◌, ◌<◌, ◌∙◌, ◌∷◌, ◌≡◌}
use Rattle.std.proofs.lemmas.Bool.{and_parts}
use Rattle.std.proofs.lemmas.List.{map-append}
use Rattle.std.proofs.lemmas.Option.{slice_get_read}
use Rattle.std.specs.Prelude.{slice_get}
use Rattle.zq_semantics.specs.Books.{AreBooksOf}
use Rattle.zq_semantics.specs.Events.{Merge, is_possible, set_at}
use Rattle.zq_shard.specs.Shard.{HeapImage}
use Rattle.zq_world.proofs.Mergings.{closed_here, closed_there, made_merged, others_merged, same_book, world_both}
use Rattle.zq_world.proofs.Standing.{held_next, stands_set}
use Rattle.zq_world.specs.Frames.{heap_at, placed}
use Rattle.zq_world.specs.Keeping.{IsMergeable}
use Rattle.zq_world.specs.Play.{Played, answer_in, run_of}
use Rattle.zq_world.specs.Steps.{merged_state}
use Rattle.zq_world.specs.declared.answer.Answer.TheVariants as answers
use Rattle.zq_world.proofs.merging.merge.Goals as goal
use Rattle.zq_world.proofs.merging.merge.Goals.{After-index_mut}

-- what is possible names a site and a heap that are there
site_there : (played : Played) (site from heap moment : ℕ) → is_possible played.heaps played.sites (run_of played) (Merge site from heap moment) ≡ true → site < played.sites
site_there played site from heap moment is = ltb-true site played.sites (and_parts _ _ is).0

heap_there : (played : Played) (site from heap moment : ℕ) → is_possible played.heaps played.sites (run_of played) (Merge site from heap moment) ≡ true → heap < played.heaps
heap_there played site from heap moment is = ltb-true heap played.heaps (and_parts _ _ (and_parts _ _ (and_parts _ _ is).1).1).0

-- the image is the one that was named
image_is : (c : After-index_mut) (played : Played) (from heap moment : ℕ) → IsMergeable played c.args.player.now c.args.site from heap moment c.args.frame.now →
    c.in_ok-shard.shard ≡ heap_at played.rule played.heaps (set_at (run_of played) moment from) heap
image_is c played from heap moment m = c.in_ok-shard.ensures.same (heap_at played.rule played.heaps (set_at (run_of played) moment from) heap) m.frame

-- the books of the site
its_at : (c : After-index_mut) → slice_get c.args.player.now.sites.items c.args.site ≡ Some c.index_mut.result.now
its_at c =
    let sites = c.args.player.now.sites.items in
    let m = c.requires.held in
    let there = site_there m.0 c.args.site m.1.0 m.1.1.0 m.1.1.1.0 m.1.1.1.1.possible in
    slice_get_read sites (length sites) c.args.site c.index_mut.result.now refl (omega (arith, there, m.1.1.1.1.held.stands.number)) c.index_mut.ensures.value

pub merge_in-requires : goal.merge_in-requires
merge_in-requires c =
    let d = (goal.at.merge_in-requires c).After-index_mut in
    let m = c.requires.held in
    let played = m.0 in
    let from = m.1.0 in
    let heap = m.1.1.0 in
    let moment = m.1.1.1.0 in
    let its = m.1.1.1.1 in
    record {
      placed = same_book played c.args.player.now its.held c.args.site moment from heap (heap_there played c.args.site from heap moment its.possible) c.index_mut.result.now.items
          (its.held.stands.each c.args.site c.index_mut.result.now (its_at d)) c.in_ok-shard.shard (image_is d played from heap moment its);
    }

pub returns-clause-held : goal.returns-clause-held
returns-clause-held c = λ played from heap moment m.
    let d = (goal.at.returns-clause-held c).After-index_mut in
    let old = c.args.player.now in
    let site = c.args.site in
    let rule = played.rule in
    let K = played.heaps in
    let st = (run_of played).now in
    let held = m.held in
    let T = set_at (run_of played) moment from in
    let shard = c.in_ok-shard.shard in
    let is = image_is d played from heap moment m in
    let at : shard.heap ≡ heap = ap (λ (s : HeapImage). s.heap) is in
    let its = held.stands.each site c.index_mut.result.now (its_at d) in
    let image : shard ≡ heap_at rule K T shard.heap = is ∙ ap (heap_at rule K T) (sym at) in
    let done = c.in_ok-merge_in.ensures.merged rule K st site T its (world_both played old held site moment from) (closed_here played old held site moment from) (closed_there played old held site moment from) image in
    let later = merged_state K st site heap T in
    let there : AreBooksOf rule K later site c.merge_in.new.books.items = subst (λ h. AreBooksOf rule K (merged_state K st site h T) site c.merge_in.new.books.items) at done in
    let inside = site_there played site from heap moment m.possible in
    let stands = stands_set rule K played.sites st later old.sites.items old.made.items old.made.items site c.merge_in.new.books held.stands (omega (arith, inside, held.stands.number)) there
    (λ other theirs apart are. others_merged rule K st site heap T other theirs apart are) (held.stands.told ∙ ap (map (placed K)) (sym (made_merged K st site heap T))) in
    let items = c.push_reserved.ensures.items ∙ ap (λ xs. xs ++ answers.Merged ∷ []) c.reserve.ensures.items in
    held_next played old _ (Merge site from heap moment) held tt m.possible stands (ap (map answer_in) items ∙ map-append answer_in old.answers.items (answers.Merged ∷ []))
