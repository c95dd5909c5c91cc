-- A run leaves as many books.

use Rattle.std.proofs.Common.{Bool, List, [], ap, length, refl, ℕ, ◌∙◌, ◌∷◌, ◌≡◌}
use Rattle.std.proofs.lemmas.List.{length-map}
use Rattle.std.specs.Prelude.{if◌then◌else◌, take}
use Rattle.zq_commands.specs.Lending.{Lending}
use Rattle.zq_commands.specs.Running.{EndsOver, part, whole}
use Rattle.zq_model.specs.Books.{Book}
use Rattle.zq_model.specs.Lent.{books_after, is_home, made, made_in}
use Rattle.zq_model.specs.Moves.{Move}
use Rattle.zq_semantics.specs.Plan.{Plan}
use Rattle.zq_semantics.specs.Replies.{Reply}
use Rattle.zq_semantics.specs.Run.{Takes, Want}
use Rattle.zq_words.specs.Words.{Word}

number_after : (site stamp : ℕ) (moves : List Move) (books : List Book) → length (books_after site stamp moves books) ≡ length books
number_after site stamp [] books = refl
number_after site stamp (move ∷ moves) books =
    number_after site stamp moves (made site stamp move books) ∙ length-map books (λ book. if is_home move book then made_in site stamp move book else book)

pub number_left : (site stamp : ℕ) (takes : Takes) (plan : Plan) (cut : ℕ → Want → Reply) (old new : Lending) (reply : Word) (short : Bool) → EndsOver site stamp takes plan cut old new reply short →
    length new.books ≡ length old.books
number_left site stamp takes plan cut old new reply short (whole is says) = ap (λ (l : Lending). length l.books) is ∙ number_after site stamp plan.moves old.books
number_left site stamp takes plan cut old new reply short (part k want low is why says memory) = ap (λ (l : Lending). length l.books) is ∙ number_after site stamp (take k plan.moves) old.books
