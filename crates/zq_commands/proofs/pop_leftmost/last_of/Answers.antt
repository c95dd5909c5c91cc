use Rattle.std.proofs.Common.{ap, map, refl, reverse, sym, take, ◌∙◌, ◌≡◌}
use Rattle.std.specs.Option.{option_copied, option_map}
use Rattle.std.specs.Prelude.{slice_get}
use Rattle.zq_commands.proofs.Ended.{first_read}
use Rattle.zq_commands.proofs.Sections.{all_pass}
use Rattle.zq_commands.specs.FirstPairs.{lent_pair}
use Rattle.zq_commands.specs.Lending.{queues_in}
use Rattle.zq_commands.proofs.pop_leftmost.last_of.Goals as goal

pub returns-in-Some : goal.returns-in-Some
returns-in-Some g c =
    let turned = reverse (queues_in (g.B.Books.lent c.args.books.now) c.args.key.now) in
    let are : map lent_pair c.in_ok-pairs.pairs.items ≡ take 1 turned = c.in_ok-pairs.ensures ∙ ap (take 1) (all_pass _ turned (λ y here. refl)) in
    ap (option_map lent_pair) (ap option_copied (sym c.in-Some.is) ∙ c.first.ensures.value ∙ ap (λ ps. slice_get ps 0) c.deref.ensures.value) ∙ first_read c.in_ok-pairs.pairs.items turned are

pub returns : goal.returns
returns g c =
    let turned = reverse (queues_in (g.B.Books.lent c.args.books.now) c.args.key.now) in
    let are : map lent_pair c.in_ok-pairs.pairs.items ≡ take 1 turned = c.in_ok-pairs.ensures ∙ ap (take 1) (all_pass _ turned (λ y here. refl)) in
    ap (option_map lent_pair) (ap option_copied (sym c.in-None.is) ∙ c.first.ensures.value ∙ ap (λ ps. slice_get ps 0) c.deref.ensures.value) ∙ first_read c.in_ok-pairs.pairs.items turned are
