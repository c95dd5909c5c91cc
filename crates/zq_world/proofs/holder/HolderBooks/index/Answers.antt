use Rattle.std.proofs.Common.{ap, ◌∙◌}
use Rattle.zq_commands.specs.Lending.{Lending}
use Rattle.zq_commands.specs.VecBooks.{heaps_in}
use Rattle.zq_world.specs.Told.{lending_told}
use Rattle.zq_world.proofs.holder.HolderBooks.index.Goals as goal

pub returns-clause-same : goal.returns-clause-same
returns-clause-same c = ap (λ books. lending_told books c.args.self.now.made.items) (ap (λ (l : Lending). l.books) c.index.ensures.same)

pub returns-clause-keeps : goal.returns-clause-keeps
returns-clause-keeps c = λ K heaps are. (ap heaps_in (ap (λ (l : Lending). l.books) c.index.ensures.same) ∙ heaps, are)
