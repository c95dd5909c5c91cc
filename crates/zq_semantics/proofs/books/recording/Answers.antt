use Rattle.zq_semantics.proofs.BooksOf.{books_merged, books_of_others, books_taken}
use Rattle.zq_semantics.proofs.books.recording.Goals as goal

pub returns-clause-taken : goal.returns-clause-taken
returns-clause-taken c rule K st site stamp books o b are world closed is found = books_taken rule K st site books are stamp o b world closed is found

pub returns-clause-merged : goal.returns-clause-merged
returns-clause-merged c rule K st site heap stamp books T b are world closed shut found = books_merged rule K st site books are heap stamp T b world closed shut found

pub returns-clause-others : goal.returns-clause-others
returns-clause-others c rule K st site heap stamp made S other books apart are = books_of_others rule K st site heap stamp made S other books apart are
