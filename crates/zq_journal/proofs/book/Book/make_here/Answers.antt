use Rattle.std.proofs.Common.{List, ap, subst, sym, ℕ, ◌+◌, ◌∙◌, ◌≡◌}
use Rattle.std.specs.Prelude.{slice_index}
use Rattle.zq_dots.specs.Act.{act_of}
use Rattle.zq_dots.specs.Placed.{IsRanged}
use Rattle.zq_model.specs.Books.{Made, is_change_over}
use Rattle.zq_model.specs.Heaps.{heap_of}
use Rattle.zq_journal.proofs.MadeHere.{next_over}
use Rattle.zq_journal.specs.Books.{state_of}
use Rattle.zq_shard.specs.Shard.{HeapImage, next_operation}
use Rattle.zq_journal.proofs.book.Book.make_here.Goals as goal

pub enter-requires-clause-over : goal.enter-requires-clause-over
enter-requires-clause-over c =
    let s : HeapImage = state_of c.args.self.now in
    let dot = c.in_ok-dot.dot in
    let ranged = c.in_ok-dot.ensures.sound c.args.key.now c.args.member.now (act_of c.args.act) c.requires.key c.requires.member c.within.ensures in
    let names : List ℕ × List ℕ = c.in_ok-copied.field-0 in
    let copied : IsRanged (next_operation s dot.site names.0 names.1 (act_of c.args.act)) =
    subst (λ t. IsRanged (next_operation s t names.0 names.1 (act_of c.args.act))) (sym c.in_ok-dot.ensures.site)
    (subst (λ (n : List ℕ × List ℕ). IsRanged (next_operation s c.args.site n.0 n.1 (act_of c.args.act))) (sym c.in_ok-copied.ensures) ranged) in
    let next : dot.n ≡ slice_index s.image.vector dot.site + 1 = c.in_ok-dot.ensures.next ∙ ap (λ t. slice_index s.image.vector t + 1) (sym c.in_ok-dot.ensures.site) in
    ap (λ n. is_change_over s.heaps s.heap s.image.vector (Made (record {
      heap = s.heap;
      site = dot.site;
      n = n;
      seen = s.image.vector;
      key = c.in_ok-copied.field-0.0;
      member = c.in_ok-copied.field-0.1;
      act = act_of c.args.act;
    }))) next
    ∙ next_over s dot.site c.in_ok-copied.field-0.0 c.in_ok-copied.field-0.1 (act_of c.args.act)
    (ap (λ (n : List ℕ × List ℕ). heap_of n.0 n.1 s.heaps) c.in_ok-copied.ensures ∙ c.requires.home) copied
