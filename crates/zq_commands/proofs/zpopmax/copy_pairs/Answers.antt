use Rattle.std.proofs.Common.{ap, flat_map, map, refl, reverse, take, true, ◌∙◌, ◌≡◌}
use Rattle.zq_commands.proofs.Sections.{all_pass}
use Rattle.zq_commands.specs.FirstPairs.{lent_pair}
use Rattle.zq_commands.specs.Lending.{queues_in}
use Rattle.zq_resp.specs.Reply.{bulk}
use Rattle.zq_semantics.specs.Procedures.{last_pairs, members_of}
use Rattle.zq_semantics.specs.Replies.{parts_of_pair}
use Rattle.zq_commands.proofs.zpopmax.copy_pairs.Goals as goal

pub returns-clause-members : goal.returns-clause-members
returns-clause-members g c =
    let q = queues_in (g.B.Books.lent c.args.books.now) c.args.key.now in
    let are : map lent_pair c.in_ok-pairs.pairs.items ≡ last_pairs c.args.count q = c.in_ok-pairs.ensures ∙ ap (take c.args.count) (all_pass _ (reverse q) (λ y here. refl)) in
    c.in_ok-members.ensures.members ∙ ap (λ ps. members_of (map lent_pair ps)) c.deref-2.ensures.value ∙ ap members_of are

pub returns-clause-parts : goal.returns-clause-parts
returns-clause-parts g c =
    let q = queues_in (g.B.Books.lent c.args.books.now) c.args.key.now in
    let are : map lent_pair c.in_ok-pairs.pairs.items ≡ last_pairs c.args.count q = c.in_ok-pairs.ensures ∙ ap (take c.args.count) (all_pass _ (reverse q) (λ y here. refl)) in
    c.in_ok-parts.ensures.parts ∙ ap (λ ps. map bulk (flat_map (parts_of_pair true) (map lent_pair ps))) c.deref.ensures.value ∙ ap (λ ps. map bulk (flat_map (parts_of_pair true) ps)) are
