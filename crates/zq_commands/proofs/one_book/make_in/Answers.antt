use Rattle.std.proofs.Common.{Err, [], ap, arith, refl, subst, sym, ◌++◌, ◌∷◌, ◌≡◌}
use Rattle.std.proofs.lemmas.Bool.{eqb-true}
use Rattle.zq_commands.proofs.VecBooks.{worn_from, worn_of}
use Rattle.zq_dots.specs.Act.{act_of}
use Rattle.zq_model.specs.Books.{Book, Made}
use Rattle.zq_model.specs.Reach.{IsWorked}
use Rattle.zq_journal.specs.Books.{LAST_STAMP, state_of, step_of}
use Rattle.zq_shard.specs.Shard.{next_operation}
use Rattle.zq_commands.specs.RecordedBooks.{recorded_itself}
use Rattle.zq_commands.specs.VecBooks.{IsRecordedOn}
use Rattle.zq_commands.proofs.one_book.make_in.Goals as goal

pub make_here-requires-clause-bounded : goal.make_here-requires-clause-bounded
unfolding LAST_STAMP
make_here-requires-clause-bounded c = c.requires.bounded

pub make_here-requires-clause-home : goal.make_here-requires-clause-home
make_here-requires-clause-home c = eqb-true _ _ c.requires.home

pub returns-in-Ok-clause-recorded : goal.returns-in-Ok-clause-recorded
returns-in-Ok-clause-recorded c =
    let old = c.args.book.now in
    let new = c.make_here.new.self in
    let stamp = c.args.stamp in
    let same : new.stamp ≡ stamp = ap (λ (b : Book). b.stamp) c.in-Ok.ensures.recorded in
    let change = Made (next_operation (state_of old) c.args.site c.args.key.now c.args.member.now (act_of c.args.act)).operation in
    record {
      stamp = omega (arith, same, c.requires.stamp);
      records = record { stamp = stamp; change = change } ∷ [];
      tail = ap (λ (b : Book). b.tail) c.in-Ok.ensures.recorded;
      worked = λ start steps work.
          subst (λ s. IsWorked new start s (steps ++ step_of stamp change ∷ [])) (sym same) (c.in-Ok.ensures.worked start steps (subst (λ s. IsWorked old start s steps) same work));
    }

pub returns-in-Ok-clause-worn : goal.returns-in-Ok-clause-worn
returns-in-Ok-clause-worn c = (
  λ is. absurd (cc),
  λ worn. let fault = c.in-Ok.ensures.worn.1 (worn_from c.args.site c.args.book.now worn) in absurd (cc),
)

pub returns-in-Err-Worn-clause-recorded : goal.returns-in-Err-Worn-clause-recorded
returns-in-Err-Worn-clause-recorded c = subst (IsRecordedOn c.args.book.now) (sym c.in-Err-Worn.ensures.refused) (recorded_itself c.args.book.now)

pub returns-in-Err-Worn-clause-worn : goal.returns-in-Err-Worn-clause-worn
returns-in-Err-Worn-clause-worn c = (
  λ _. worn_of c.args.site c.args.book.now (c.in-Err-Worn.ensures.worn.0 (ap (λ e. Err e) c.in-Err-Worn.field-0-is)),
  λ _. refl,
)

pub returns-in-Err-NoMemory-clause-recorded : goal.returns-in-Err-NoMemory-clause-recorded
returns-in-Err-NoMemory-clause-recorded c = subst (IsRecordedOn c.args.book.now) (sym c.in-Err-NoMemory.ensures.refused) (recorded_itself c.args.book.now)

pub returns-in-Err-NoMemory-clause-worn : goal.returns-in-Err-NoMemory-clause-worn
returns-in-Err-NoMemory-clause-worn c = (
  λ is. absurd (cc),
  λ worn.
      let fault = c.in-Err-NoMemory.ensures.worn.1 (worn_from c.args.site c.args.book.now worn) in
      let other = c.in-Err-NoMemory.field-0-is in
      absurd (cc),
)
