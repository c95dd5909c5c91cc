use Rattle.std.proofs.Common.{Some, ap, length, refl, set, subst, sym, ◌∙◌, ◌≡◌}
use Rattle.std.proofs.lemmas.List.{set-get_or}
use Rattle.std.proofs.lemmas.Option.{slice_get_read}
use Rattle.std.specs.Prelude.{slice_get}
use Rattle.zq_commands.proofs.VecBooks.{recorded_at}
use Rattle.zq_commands.specs.RecordedBooks.{recorded_itself}
use Rattle.zq_commands.specs.VecBooks.{IsRecordedOn, lending_of}
use Rattle.zq_model.specs.Books.{Book}
use Rattle.zq_commands.proofs.vec_books.VecBookBooks.index.Goals as goal

pub returns-clause-same : goal.returns-clause-same
returns-clause-same c =
    let books = c.args.self.now.items in
    let place = c.args.place in
    ap lending_of (ap (set books place) (c.index.ensures ∙ c.index_mut.ensures.value) ∙ set-get_or books place c.index_mut.result.now)

pub returns-clause-keeps : goal.returns-clause-keeps
returns-clause-keeps c =
    let books = c.args.self.now.items in
    let old : Book = c.index_mut.result.now in
    let stands : slice_get books c.args.place ≡ Some old = slice_get_read books (length books) c.args.place old refl c.requires.inside c.index_mut.ensures.value in
    recorded_at books c.args.place old c.index.new.self stands (subst (IsRecordedOn old) (sym c.index.ensures) (recorded_itself old))
