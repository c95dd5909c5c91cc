use Rattle.std.proofs.Common.{ap, eqb-true, inl, inr, sym, ◌∙◌}
use Rattle.std.specs.Prelude.{slice_index}
use Rattle.zq_commands.proofs.VecBooks.{worn_from}
use Rattle.zq_journal.specs.Books.{LAST_STAMP}
use Rattle.zq_model.specs.Heaps.{heap_of}
use Rattle.zq_shard.specs.Shard.{HeapImage}
use Rattle.zq_world.proofs.holder.draft_in.Goals as goal

pub returns-in-Ok-clause-worn : goal.returns-in-Ok-clause-worn
unfolding LAST_STAMP
returns-in-Ok-clause-worn c = (
  λ is. absurd (cc),
  λ worn. elim (worn_from c.args.site c.args.book.now worn) [
    | inl dot ↦
        let same = c.shard.ensures.same in
        let home = ap (λ (s : HeapImage). heap_of c.args.key.now c.args.member.now s.heaps) same ∙ eqb-true _ _ c.requires.home ∙ sym (ap (λ (s : HeapImage). s.heap) same) in
        let fault = c.in-Ok.ensures.worn.1 (home, ap (λ (s : HeapImage). slice_index s.image.vector c.args.site) same ∙ dot) in
        absurd (cc)
    | inr last ↦ let count = c.count.ensures.same in absurd (c.if-count-eq-LAST_COUNT.false (count ∙ last))
  ],
)
