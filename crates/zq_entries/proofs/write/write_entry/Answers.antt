use Rattle.zq_entries.proofs.Again.{written_again}
use Rattle.zq_entries.specs.Entry.{entry_of}
use Rattle.zq_entries.proofs.write.write_entry.Goals as goal

pub returns-clause-again : goal.returns-clause-again
returns-clause-again c =
    written_again (λ v. v.items) c.write_whole.result (entry_of c.args.entry.now)
    c.entry_has_one_spelling.ensures.again c.write_whole.ensures
