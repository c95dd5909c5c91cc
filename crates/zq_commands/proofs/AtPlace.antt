-- The homes of members under a move, and the queues after it.

use Rattle.std.proofs.Common.{List, ap, false, true, ℕ, ◌<◌, ◌∙◌, ◌≡◌}
use Rattle.std.specs.Prelude.{if◌then◌else◌}
use Rattle.zq_commands.specs.Lending.{HasBook, IsHomeAt, IsLending, Lending, lent_after, queues_in}
use Rattle.zq_model.specs.Books.{Book}
use Rattle.zq_model.proofs.Maps.{in_map}
use Rattle.zq_model.specs.Sets.{SITES}
use Rattle.zq_model.proofs.QueuesAfter.{queues_after}
use Rattle.zq_model.proofs.Read.{in_place}
use Rattle.zq_model.specs.Lent.{is_home, is_home_of, made_in}
use Rattle.zq_model.specs.Moves.{Move, after}
use Rattle.zq_posheap.proofs.Lists.{there_is}

-- a member whose book is at a place has a book
pub has_book : (key member : List ℕ) (place : ℕ) (lent : Lending) → IsHomeAt key member place lent → HasBook key member lent
has_book key member place lent at =
    let book = there_is lent.books place at.inside in
    (book.0, in_place lent.books place book.0 book.1, at.home book.0 book.1)

-- each member that has a book has it after a move
pub home_kept : (site stamp : ℕ) (move : Move) (key member : List ℕ) (lent : Lending) → HasBook key member lent → HasBook key member (lent_after site stamp move lent)
home_kept site stamp move key member lent home =
    let b = home.0 in
    let moved : Book → Book = λ c. if is_home move c then made_in site stamp move c else c in
    (moved b, in_map moved b lent.books home.1, elim (is_home move b) as (λ c. is_home_of key member (if c then made_in site stamp move b else b) ≡ true) [ true ↦ home.2 | false ↦ home.2 ])

-- the queues after a move over the books that are lent
pub queues_moved : (site stamp : ℕ) (move : Move) (old new : Lending) → site < SITES → IsLending old → HasBook move.key move.member old →
    new ≡ lent_after site stamp move old → queues_in new ≡ after move (queues_in old)
queues_moved site stamp move old new below lent home is = ap queues_in is ∙ queues_after old.rule old.heaps site stamp move below old.books lent.books home
