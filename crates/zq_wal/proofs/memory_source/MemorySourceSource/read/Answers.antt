use Rattle.std.proofs.Common.{◌++◌, ◌∙◌, List, ap, drop, sym, take, ℕ}
use Rattle.zq_wal.proofs.Images.{take_plus}
use Rattle.zq_wal.proofs.memory_source.MemorySourceSource.read.Goals as goal

pub returns-clause-read : goal.returns-clause-read
returns-clause-read c =
    let self = c.args.self.now in
    take_plus self.bytes.items self.at c.copy_from-many.result
    ∙ ap (λ (l : List ℕ). take self.at self.bytes.items ++ l) (sym (c.copy_from-many.ensures.copied ∙ ap (λ (l : List ℕ). take c.copy_from-many.result (drop self.at l)) c.deref.ensures.value))
