use Rattle.std.proofs.Common.{Err, ap, arith, length, subst, ◌+◌, ◌≡◌}
use Rattle.std.proofs.lemmas.List.{length-map}
use Rattle.std.proofs.lemmas.List.Elements.{All-get_or}
use Rattle.std.proofs.lemmas.Option.{get_or_from_slice_get}
use Rattle.std.specs.Prelude.{[]}
use Rattle.zq_commands.proofs.Dropped.{dropped_cut, dropped_whole}
use Rattle.zq_commands.proofs.InTurn.{StandsAfter, stands_next}
use Rattle.zq_commands.proofs.WordsAt.{word_at}
use Rattle.zq_commands.specs.Lending.{HasBook}
use Rattle.zq_semantics.specs.Plan.{zrem_part}
use Rattle.zq_words.specs.Limits.{IsShort}
use Rattle.zq_words.specs.Words.{views}
use Rattle.zq_commands.proofs.dropping.drop_each.Goals as goal

pub drop_one-requires-clause-lent : goal.drop_one-requires-clause-lent
drop_one-requires-clause-lent g c = c.loop-member.invariant.lent

pub drop_one-requires-clause-home : goal.drop_one-requires-clause-home
drop_one-requires-clause-home g c =
    let words = c.args.members.now in
    let i = c.loop-member.member-index in
    let at = word_at words i c.member-item.result c.deref.result.now c.loop-member-test.true c.member-item.is c.deref.ensures.value in
    c.loop-member.invariant.homes c.args.key.now c.deref.result.now
    (subst (λ member. HasBook c.args.key.now member (g.B.Books.lent c.args.books.now)) (get_or_from_slice_get (views words) i c.deref.result.now [] at)
    (All-get_or (λ member. HasBook c.args.key.now member (g.B.Books.lent c.args.books.now)) (views words) i [] (omega (arith, c.loop-member-test.true, length-map words (λ w. w.items))) c.requires.homes))

pub drop_one-requires-clause-member : goal.drop_one-requires-clause-member
drop_one-requires-clause-member g c =
    let words = c.args.members.now in
    let i = c.loop-member.member-index in
    let at = word_at words i c.member-item.result c.deref.result.now c.loop-member-test.true c.member-item.is c.deref.ensures.value in
    subst IsShort (get_or_from_slice_get (views words) i c.deref.result.now [] at)
    (All-get_or IsShort (views words) i [] (omega (arith, c.loop-member-test.true, length-map words (λ w. w.items))) c.requires.members)

pub returns-in-Err-clause-dropped : goal.returns-in-Err-clause-dropped
returns-in-Err-clause-dropped g c =
    let words = c.args.members.now in
    let i = c.loop-member.member-index in
    rw c.in-Err.ensures.refused
    (dropped_cut c.args.call.now.site c.args.call.now.stamp c.args.key.now (views words) (g.B.Books.lent c.args.books.now) (g.B.Books.lent c.loop-member.books) c.loop-member.done
    c.in-Err.cut i c.deref.result.now _ c.loop-member.invariant.stands (word_at words i c.member-item.result c.deref.result.now c.loop-member-test.true c.member-item.is c.deref.ensures.value) c.in-Err.ensures.there
    (λ e. c.in-Err.ensures.worn (ap (λ cut. Err cut) e)) (λ e. c.in-Err.ensures.memory (ap (λ cut. Err cut) e)))

pub loop-member-preserved : goal.loop-member-preserved
loop-member-preserved g c =
    let words = c.args.members.now in
    let i = c.loop-member.member-index in
    let next = stands_next (zrem_part c.args.key.now) c.args.call.now.site c.args.call.now.stamp (views words) i c.deref.result.now (g.B.Books.lent c.args.books.now) (g.B.Books.lent c.loop-member.books)
    (g.B.Books.lent c.drop_one.new.books) c.loop-member.done c.loop-member.done c.in-Ok.made
    c.loop-member.invariant.stands (word_at words i c.member-item.result c.deref.result.now c.loop-member-test.true c.member-item.is c.deref.ensures.value) c.in-Ok.ensures.steps in
    record {
      stands = subst (λ n. StandsAfter (zrem_part c.args.key.now) c.args.call.now.site c.args.call.now.stamp (views words) (i + 1) (g.B.Books.lent c.args.books.now) (g.B.Books.lent c.drop_one.new.books) (c.loop-member.done + n) (c.loop-member.done + c.in-Ok.made.moves)) c.in-Ok.ensures.one next;
      few = omega (arith, c.loop-member.invariant.few, c.in-Ok.ensures.most);
      keeps = g.met.B.Books.keeps_through _ _ _ c.loop-member.invariant.keeps c.in-Ok.ensures.keeps;
      dated = c.in-Ok.ensures.dated;
      lent = c.in-Ok.ensures.lent;
      homes = λ k m home. c.in-Ok.ensures.homes k m (c.loop-member.invariant.homes k m home);
    }

pub returns-clause-dropped : goal.returns-clause-dropped
returns-clause-dropped g c =
    let words = c.args.members.now in
    let all : c.loop-member.member-index ≡ length (views words) = omega (arith, c.loop-member-test.false, c.loop-member.auto.member-index-end, length-map words (λ w. w.items)) in
    dropped_whole c.args.call.now.site c.args.call.now.stamp c.args.key.now (views words) (g.B.Books.lent c.args.books.now) (g.B.Books.lent c.loop-member.books) c.loop-member.done
    (subst (λ n. StandsAfter (zrem_part c.args.key.now) c.args.call.now.site c.args.call.now.stamp (views words) n (g.B.Books.lent c.args.books.now) (g.B.Books.lent c.loop-member.books) c.loop-member.done c.loop-member.done) all c.loop-member.invariant.stands)

pub returns-clause-lent : goal.returns-clause-lent
returns-clause-lent g c = c.loop-member.invariant.lent

pub returns-clause-keeps : goal.returns-clause-keeps
returns-clause-keeps g c = c.loop-member.invariant.keeps

pub returns-in-Err-clause-keeps : goal.returns-in-Err-clause-keeps
returns-in-Err-clause-keeps g c = g.met.B.Books.keeps_through _ _ _ c.loop-member.invariant.keeps c.in-Err.ensures.keeps

pub drop_one-requires-clause-dated : goal.drop_one-requires-clause-dated
drop_one-requires-clause-dated g c = c.loop-member.invariant.dated

pub returns-clause-dated : goal.returns-clause-dated
returns-clause-dated g c = c.loop-member.invariant.dated
