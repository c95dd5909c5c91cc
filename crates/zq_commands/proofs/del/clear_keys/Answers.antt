use Rattle.std.proofs.Common.{[], ap, arith, length, subst, ◌∙◌, ◌≡◌}
use Rattle.std.proofs.lemmas.List.{length-map}
use Rattle.std.proofs.lemmas.List.Elements.{All-get_or}
use Rattle.std.proofs.lemmas.Option.{get_or_from_slice_get}
use Rattle.zq_commands.proofs.ClearedKeys.{keys_cut, keys_next}
use Rattle.zq_commands.proofs.InTurn.{StandsAfter}
use Rattle.zq_commands.proofs.RanPlans.{ran_whole}
use Rattle.zq_commands.proofs.WordsAt.{word_at}
use Rattle.zq_semantics.specs.Plan.{del_part}
use Rattle.zq_semantics.specs.Run.{ForCopies}
use Rattle.zq_resp.specs.Reply.{reply_bytes}
use Rattle.zq_words.specs.Limits.{IsShort}
use Rattle.zq_words.specs.Words.{views}
use Rattle.zq_commands.proofs.del.clear_keys.Goals as goal

pub clear_key-cleared-requires-clause-key : goal.clear_key-cleared-requires-clause-key
clear_key-cleared-requires-clause-key g c =
    let words = c.args.keys.now in
    let i = c.loop-key.key-index in
    let at = word_at words i c.key-item.result c.deref.result.now c.loop-key-test.true c.key-item.is c.deref.ensures.value in
    subst IsShort (get_or_from_slice_get (views words) i c.deref.result.now [] at)
    (All-get_or IsShort (views words) i [] (omega (arith, c.loop-key-test.true, length-map words (λ w. w.items))) c.requires.keys)

pub returns-in-Some-clause-ran : goal.returns-in-Some-clause-ran
returns-in-Some-clause-ran g c =
    let words = c.args.keys.now in
    let i = c.loop-key.key-index in
    keys_cut c.args.call.now.site c.args.call.now.stamp (views words) i c.deref.result.now (g.B.Books.lent c.args.books.now) (g.B.Books.lent c.loop-key.books) (g.B.Books.lent c.clear_key-cleared.new.books)
    c.loop-key.counted c.loop-key.done c.loop-key.invariant.stands
    (word_at words i c.key-item.result c.deref.result.now c.loop-key-test.true c.key-item.is c.deref.ensures.value)
    c.clear_key-cleared.result c.clear_key-cleared.ensures.cleared c.in-Some.cut c.in-Some.is _ _ c.of_cut.ensures.bytes c.of_cut.ensures.short

pub loop-key-preserved : goal.loop-key-preserved
loop-key-preserved g c =
    let words = c.args.keys.now in
    let i = c.loop-key.key-index in
    let most = c.one_if_more-counted.ensures.most in
    let few = c.loop-key.invariant.few in
    record {
      stands =
          keys_next c.args.call.now.site c.args.call.now.stamp (views words) i c.deref.result.now (g.B.Books.lent c.args.books.now) (g.B.Books.lent c.loop-key.books) (g.B.Books.lent c.clear_key-cleared.new.books)
          c.loop-key.counted c.loop-key.done c.loop-key.invariant.stands
          (word_at words i c.key-item.result c.deref.result.now c.loop-key-test.true c.key-item.is c.deref.ensures.value)
          c.clear_key-cleared.result c.clear_key-cleared.ensures.cleared c.one_if_more-counted.result c.in-None.is c.one_if_more-counted.ensures.more c.one_if_more-counted.ensures.none;
      few = omega (arith, few, most);
      keeps = g.met.B.Books.keeps_through _ _ _ c.loop-key.invariant.keeps c.clear_key-cleared.ensures.keeps;
      dated = c.clear_key-cleared.ensures.dated;
      lent = c.clear_key-cleared.ensures.lent;
    }

pub returns-clause-ran : goal.returns-clause-ran
returns-clause-ran g c =
    let words = c.args.keys.now in
    let all : c.loop-key.key-index ≡ length (views words) = omega (arith, c.loop-key-test.false, c.loop-key.auto.key-index-end, length-map words (λ w. w.items)) in
    ran_whole del_part c.args.call.now.site c.args.call.now.stamp (views words) (g.B.Books.lent c.args.books.now) (g.B.Books.lent c.loop-key.books) c.loop-key.counted c.loop-key.done ForCopies
    (subst (λ n. StandsAfter del_part c.args.call.now.site c.args.call.now.stamp (views words) n (g.B.Books.lent c.args.books.now) (g.B.Books.lent c.loop-key.books) c.loop-key.counted c.loop-key.done) all c.loop-key.invariant.stands)
    _ _ (ap reply_bytes c.of_reply.ensures ∙ c.count_reply.ensures.bytes)
