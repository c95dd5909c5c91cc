use Rattle.std.proofs.Common.{ap, ◌∙◌}
use Rattle.zq_entries.proofs.Again.{entry_or_no_memory}
use Rattle.zq_entries.specs.Answer.{IsOfMemory}
use Rattle.zq_entries.specs.Entry.{entry_of}
use Rattle.zq_entries.specs.Reading.{entry_at}
use Rattle.zq_entries.proofs.read.read_entry.Goals as goal

pub returns-clause-only : goal.returns-clause-only
returns-clause-only c e sound is =
    entry_or_no_memory (IsOfMemory c.args.bytes.now) entry_of c.read_whole.result
    (entry_at c.args.bytes.now) e c.read_whole.ensures.exact
    (ap entry_at is ∙ c.entry_has_one_spelling.ensures.again e sound)
