use Rattle.std.proofs.Common.{List, subst, ◌∙◌}
use Rattle.std.proofs.lemmas.List.{length-map}
use Rattle.zq_model.specs.Books.{Book}
use Rattle.zq_semantics.proofs.Kept.{world_of}
use Rattle.zq_semantics.proofs.KeptRuns.{kept_always}
use Rattle.zq_semantics.specs.Books.{AreBooksOf}
use Rattle.zq_world.proofs.SitesOf.{of_site}
use Rattle.zq_world.proofs.WorldBooks.{items_at}
use Rattle.zq_world.specs.Play.{run_of}
use Rattle.zq_world.proofs.playing.ended.Goals as goal

pub invariant_of-result : goal.invariant_of-result
invariant_of-result c = λ site books at.
    let played = c.requires.held.0 in
    let held = c.requires.held.1 in
    let r = run_of played in
    let kept = kept_always played.rule played.heaps played.sites played.events held.playable in
    of_site played.rule played.heaps r.now site books.items held.playable.heaps (held.stands.each site books at) (world_of played.heaps r.past r.now kept site) (λ o i. kept.short o (kept.now.within site o i))

pub returns : goal.returns
returns c = record {
  played = λ played held. record {
    playable = held.playable;
    number = length-map c.args.player.sites.items (λ v. v.items) ∙ held.stands.number;
    books = λ site its at.
        let v = items_at c.args.player.sites.items site its at in
        subst (λ (xs : List Book). AreBooksOf played.rule played.heaps (run_of played).now site xs) v.2 (held.stands.each site v.0 v.1);
    made = held.stands.told;
    answers = held.answers;
  };
}
