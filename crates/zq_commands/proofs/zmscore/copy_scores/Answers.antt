use Rattle.std.proofs.Common.{Option, [], ap, arith, map, subst, sym, take, ℤ, ◌++◌, ◌∙◌, ◌∷◌, ◌≡◌}
use Rattle.std.proofs.lemmas.List.{length-map, map-append, take_all}
use Rattle.std.proofs.lemmas.List.Elements.{All-get_or}
use Rattle.std.proofs.lemmas.Option.{get_or_from_slice_get}
use Rattle.zq_commands.proofs.InTurn.{take_next}
use Rattle.zq_commands.proofs.ScoreLists.{score_shown}
use Rattle.zq_commands.proofs.WordsAt.{word_at}
use Rattle.zq_commands.specs.Lending.{HasBook, queues_in}
use Rattle.zq_model.specs.Moves.{score_in}
use Rattle.zq_resp.specs.Reply.{reply_bytes}
use Rattle.zq_semantics.specs.Replies.{score_bytes}
use Rattle.zq_words.specs.Words.{Word, views}
use Rattle.zq_commands.proofs.zmscore.copy_scores.Goals as goal

pub score_of-requires-clause-home : goal.score_of-requires-clause-home
score_of-requires-clause-home g c =
    let words = c.args.members.now in
    let i = c.loop-member.member-index in
    let at = word_at words i c.member-item.result c.deref.result.now c.loop-member-test.true c.member-item.is c.deref.ensures.value in
    subst (λ member. HasBook c.args.key.now member (g.B.Books.lent c.args.books.now)) (get_or_from_slice_get (views words) i c.deref.result.now [] at)
    (All-get_or (λ member. HasBook c.args.key.now member (g.B.Books.lent c.args.books.now)) (views words) i [] (omega (arith, c.loop-member-test.true, length-map words (λ w. w.items))) c.requires.homes)

pub loop-member-preserved : goal.loop-member-preserved
loop-member-preserved g c =
    let words = c.args.members.now in
    let i = c.loop-member.member-index in
    let f : Word → Option ℤ = score_in (queues_in (g.B.Books.lent c.args.books.now) c.args.key.now) in
    let at = word_at words i c.member-item.result c.deref.result.now c.loop-member-test.true c.member-item.is c.deref.ensures.value in
    let one : reply_bytes c.score_reply.result ≡ score_bytes (f c.deref.result.now) =
    c.score_reply.ensures.bytes ∙ score_shown c.score_of.result ∙ ap score_bytes c.score_of.ensures.score in
    record {
      parts =
          c.in_ok-push_part.ensures.parts ∙ ap (λ w. map reply_bytes c.loop-member.parts.items ++ w ∷ []) one
          ∙ ap (λ ws. ws ++ score_bytes (f c.deref.result.now) ∷ []) c.loop-member.invariant.parts
          ∙ sym (ap (λ ws. map score_bytes (map f ws)) (take_next (views words) i c.deref.result.now at)
          ∙ ap (map score_bytes) (map-append f (take i (views words)) (c.deref.result.now ∷ []))
          ∙ map-append score_bytes (map f (take i (views words))) (f c.deref.result.now ∷ []));
      writable = c.in_ok-push_part.ensures.writable c.loop-member.invariant.writable;
    }

pub returns-clause-parts : goal.returns-clause-parts
returns-clause-parts g c =
    let words = c.args.members.now in
    let f : Word → Option ℤ = score_in (queues_in (g.B.Books.lent c.args.books.now) c.args.key.now) in
    c.loop-member.invariant.parts
    ∙ ap (λ ws. map score_bytes (map f ws)) (take_all c.loop-member.member-index (views words) (omega (arith, c.loop-member-test.false, length-map words (λ w. w.items))))
