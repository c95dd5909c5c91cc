use Rattle.std.proofs.Common.{ap, refl, subst, sym, ◌∙◌, ◌≡◌}
use Rattle.zq_commands.specs.RecordedBooks.{recorded_itself}
use Rattle.zq_commands.specs.VecBooks.{IsRecordedOn}
use Rattle.zq_spread.proofs.lending_all.index_held.Goals as goal
use Rattle.zq_spread.specs.declared.locked_heap.LockedHeap.{LockedHeap}

pub returns-clause-held : goal.returns-clause-held
returns-clause-held c =
    let old = c.args.held.now.value in
    let book : c.index.new.self ≡ old.book = c.index.ensures ∙ ap (λ (k : LockedHeap). k.book) c.value_mut-kept.ensures.value in
    record {
      lock = refl;
      was_given = refl;
      kept = (ap (λ (k : LockedHeap). k.total) c.value_mut-kept.ensures.value, subst (IsRecordedOn old.book) (sym book) (recorded_itself old.book));
      turns = refl;
    }
