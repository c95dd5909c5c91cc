use Rattle.std.proofs.Common.{subst, sym, ◌∙◌}
use Rattle.zq_commands.specs.Lending.{HasBook}
use Rattle.zq_commands.proofs.pop_leftmost.copy_pair.Goals as goal

pub home-place-requires-clause-home : goal.home-place-requires-clause-home
home-place-requires-clause-home g c =
    subst (λ m. HasBook c.args.key.now m (g.B.Books.lent c.args.books.now)) (sym (c.deref.ensures.value ∙ c.in_ok-member.ensures.items)) c.requires.home
