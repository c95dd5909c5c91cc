use Rattle.std.proofs.Common.{ap, arith, inl, inr, subst}
use Rattle.zq_model.specs.Books.{Book}
use Rattle.zq_model.specs.Sets.{IsIn}
use Rattle.zq_session.proofs.PlainBooks.{begun_ruled, opening, opening_ruled}
use Rattle.site_tests.proofs.server.plain.stamped.Goals as goal

pub begin-requires : goal.begin-requires
begin-requires c =
    let same = opening 1 c.in_ok-books.books c.in_ok-books.ensures.number c.in_ok-books.ensures.empty in
    record {
      dated = (
        c.requires,
        λ book here. elim (subst (IsIn book) same here) [
          | inl is ↦ let none = ap (λ (b : Book). b.stamp) is in omega (arith, none)
          | inr none ↦ absurd none
        ],
      );
    }

pub of_books-requires : goal.of_books-requires
of_books-requires c =
    let books = c.in_ok-books.books in
    begun_ruled c.args.stamp books c.begin.new.self (opening_ruled 1 books c.in_ok-books.ensures.empty) c.begin.ensures.begun
