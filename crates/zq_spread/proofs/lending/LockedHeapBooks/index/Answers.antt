use Rattle.std.proofs.Common.{[], ap, refl, subst, sym, ◌∷◌}
use Rattle.zq_commands.specs.RecordedBooks.{recorded_itself}
use Rattle.zq_commands.specs.VecBooks.{IsRecordedOn, lending_of}
use Rattle.zq_model.specs.Books.{Book}
use Rattle.zq_spread.proofs.lending.LockedHeapBooks.index.Goals as goal

pub returns-clause-same : goal.returns-clause-same
returns-clause-same c = ap (λ (b : Book). lending_of (b ∷ [])) c.index.ensures

pub returns-clause-keeps : goal.returns-clause-keeps
returns-clause-keeps c = (refl, subst (IsRecordedOn c.args.self.now.book) (sym c.index.ensures) (recorded_itself c.args.self.now.book))
