use Rattle.std.proofs.Common.{Err, List, Some, [], ap, arith, length, map, pos, slice_get, slice_index_or, subst, ◌<◌, ◌∙◌, ◌≡◌, ℕ, ℤ}
use Rattle.std.proofs.lemmas.List.{length-map}
use Rattle.std.proofs.lemmas.List.Elements.{All-get_or}
use Rattle.std.proofs.lemmas.Option.{get_or_from_slice_get, slice_get-get_or, slice_get-map}
use Rattle.std.specs.Option.{option_map}
use Rattle.zq_commands.proofs.InTurn.{StandsAfter, stands_next}
use Rattle.zq_commands.proofs.RanPlans.{ran_cut, ran_whole}
use Rattle.zq_commands.specs.Lending.{HasBook}
use Rattle.zq_semantics.specs.Plan.{zadd_part}
use Rattle.zq_semantics.specs.Run.{ForMoves}
use Rattle.zq_resp.specs.Reply.{reply_bytes}
use Rattle.zq_words.specs.Limits.{IsPair}
use Rattle.zq_words.specs.Shown.{pair_shown}
use Rattle.zq_words.specs.declared.pair.Pair.{Pair}
use Rattle.zq_commands.proofs.zadd.put_pairs.Goals as goal

abbrev none : Pair
none = record { score = pos 0; member = record { ref_ptr = (0, 0); now = [] } }

pair_at : (pairs : List Pair) (i : ℕ) → i < length pairs → slice_get (map pair_shown pairs) i ≡ Some (pair_shown (slice_index_or pairs i none))
pair_at pairs i within = slice_get-map pair_shown pairs i ∙ ap (option_map pair_shown) (slice_get-get_or pairs i none within)

pub put_one-requires-clause-lent : goal.put_one-requires-clause-lent
put_one-requires-clause-lent g c = c.loop-pair.invariant.lent

pub put_one-requires-clause-home : goal.put_one-requires-clause-home
put_one-requires-clause-home g c =
    let pairs = c.args.pairs.now in
    let i = c.loop-pair.pair-index in
    let has = λ (pair : ℤ × List ℕ). HasBook c.args.key.now pair.1 (g.B.Books.lent c.args.books.now) in
    c.loop-pair.invariant.homes c.args.key.now _
    (subst has (get_or_from_slice_get (map pair_shown pairs) i _ (pair_shown none) (pair_at pairs i c.loop-pair-test.true))
    (All-get_or has (map pair_shown pairs) i (pair_shown none) (omega (arith, c.loop-pair-test.true, length-map pairs pair_shown)) c.requires.homes))

pub put_one-requires-clause-pair : goal.put_one-requires-clause-pair
put_one-requires-clause-pair g c =
    let pairs = c.args.pairs.now in
    let i = c.loop-pair.pair-index in
    subst IsPair (get_or_from_slice_get (map pair_shown pairs) i _ (pair_shown none) (pair_at pairs i c.loop-pair-test.true))
    (All-get_or IsPair (map pair_shown pairs) i (pair_shown none) (omega (arith, c.loop-pair-test.true, length-map pairs pair_shown)) c.requires.pairs)

pub returns-in-Err-clause-ran : goal.returns-in-Err-clause-ran
returns-in-Err-clause-ran g c =
    let pairs = c.args.pairs.now in
    let i = c.loop-pair.pair-index in
    rw c.in-Err.ensures.refused
    (ran_cut (zadd_part c.args.key.now c.args.flags) c.args.call.now.site c.args.call.now.stamp (map pair_shown pairs) (g.B.Books.lent c.args.books.now) (g.B.Books.lent c.loop-pair.books) c.loop-pair.counted c.loop-pair.done
    c.in-Err.cut i _ _ c.loop-pair.invariant.stands (pair_at pairs i c.loop-pair-test.true) c.in-Err.ensures.there
    (λ e. c.in-Err.ensures.worn (ap (λ cut. Err cut) e)) (λ e. c.in-Err.ensures.memory (ap (λ cut. Err cut) e)) _ _ c.of_cut.ensures.bytes c.of_cut.ensures.short)

pub loop-pair-preserved : goal.loop-pair-preserved
loop-pair-preserved g c =
    let pairs = c.args.pairs.now in
    let i = c.loop-pair.pair-index in
    record {
      stands = stands_next (zadd_part c.args.key.now c.args.flags) c.args.call.now.site c.args.call.now.stamp (map pair_shown pairs) i _ (g.B.Books.lent c.args.books.now) (g.B.Books.lent c.loop-pair.books)
          (g.B.Books.lent c.put_one.new.books) c.loop-pair.counted c.loop-pair.done c.in-Ok.made
          c.loop-pair.invariant.stands (pair_at pairs i c.loop-pair-test.true) c.in-Ok.ensures.steps;
      few = omega (arith, c.loop-pair.invariant.few, c.in-Ok.ensures.one);
      done = omega (arith, c.loop-pair.invariant.done, c.in-Ok.ensures.most);
      keeps = g.met.B.Books.keeps_through _ _ _ c.loop-pair.invariant.keeps c.in-Ok.ensures.keeps;
      dated = c.in-Ok.ensures.dated;
      lent = c.in-Ok.ensures.lent;
      homes = λ k m home. c.in-Ok.ensures.homes k m (c.loop-pair.invariant.homes k m home);
    }

pub returns-clause-ran : goal.returns-clause-ran
returns-clause-ran g c =
    let pairs = c.args.pairs.now in
    let all : c.loop-pair.pair-index ≡ length (map pair_shown pairs) = omega (arith, c.loop-pair-test.false, c.loop-pair.auto.pair-index-end, length-map pairs pair_shown) in
    ran_whole (zadd_part c.args.key.now c.args.flags) c.args.call.now.site c.args.call.now.stamp (map pair_shown pairs) (g.B.Books.lent c.args.books.now) (g.B.Books.lent c.loop-pair.books) c.loop-pair.counted c.loop-pair.done ForMoves
    (subst (λ n. StandsAfter (zadd_part c.args.key.now c.args.flags) c.args.call.now.site c.args.call.now.stamp (map pair_shown pairs) n (g.B.Books.lent c.args.books.now) (g.B.Books.lent c.loop-pair.books) c.loop-pair.counted c.loop-pair.done) all c.loop-pair.invariant.stands)
    _ _ (ap reply_bytes c.of_reply.ensures ∙ c.count_reply.ensures.bytes)

pub returns-clause-lent : goal.returns-clause-lent
returns-clause-lent g c = c.loop-pair.invariant.lent

pub returns-clause-keeps : goal.returns-clause-keeps
returns-clause-keeps g c = c.loop-pair.invariant.keeps

pub returns-in-Err-clause-keeps : goal.returns-in-Err-clause-keeps
returns-in-Err-clause-keeps g c = g.met.B.Books.keeps_through _ _ _ c.loop-pair.invariant.keeps c.in-Err.ensures.keeps

pub put_one-requires-clause-dated : goal.put_one-requires-clause-dated
put_one-requires-clause-dated g c = c.loop-pair.invariant.dated

pub returns-clause-dated : goal.returns-clause-dated
returns-clause-dated g c = c.loop-pair.invariant.dated
