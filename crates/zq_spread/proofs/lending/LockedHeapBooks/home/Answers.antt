use Rattle.std.proofs.Common.{subst, true, ◌≡◌}
use Rattle.zq_model.specs.Books.{Book}
use Rattle.zq_model.specs.Lent.{is_home_of}
use Rattle.zq_spread.proofs.Alone.{only_at, only_in}
use Rattle.zq_spread.proofs.lending.LockedHeapBooks.home.Goals as goal

pub returns-clause-home : goal.returns-clause-home
returns-clause-home c = λ book is.
    let home = c.requires.home in
    let own = c.args.self.now.book in
    let same : home.0 ≡ own = only_in own home.0 home.1 in
    let here : own ≡ book = only_at 0 own book is in
    subst (λ (b : Book). is_home_of c.args._key.now c.args._member.now b ≡ true) here (subst (λ (b : Book). is_home_of c.args._key.now c.args._member.now b ≡ true) same home.2)
