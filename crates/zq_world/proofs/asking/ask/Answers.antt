use Rattle.std.proofs.Common.{List, [], ap, arith, lt-ltb, map, ◌++◌, ◌∙◌, ◌∷◌}
use Rattle.std.proofs.lemmas.List.{map-append}
use Rattle.zq_resp.specs.Reply.{reply_bytes}
use Rattle.zq_semantics.specs.Events.{Do, Replied}
use Rattle.zq_words.specs.Words.{Word}
use Rattle.zq_world.proofs.Standing.{held_next}
use Rattle.zq_world.specs.Play.{answer_in}
use Rattle.zq_world.specs.declared.answer.Answer.{Answer}
use Rattle.zq_world.specs.declared.answer.Answer.TheVariants as answers
use Rattle.zq_world.proofs.asking.ask.Goals as goal

pub returns-clause-held : goal.returns-clause-held
returns-clause-held c = λ played held.
    let old = c.args.player.now in
    let bytes = c.write_reply.new.out in
    let done = c.in_ok-reply.ensures.done played held in
    let written = c.in_ok-write_reply.ensures.written ∙ ap (λ (first : Word). first ++ reply_bytes c.in_ok-reply.reply) c.new-bytes.ensures.items in
    let items = c.push_reserved.ensures.items ∙ ap (λ (xs : List Answer). xs ++ answers.Replied bytes ∷ []) (c.reserve.ensures.items ∙ c.in_ok-reply.ensures.answers) in
    held_next played old _ (Do c.args.site c.args.request.now c.args.words.0 c.args.words.1) held c.words-words.ensures.limits (lt-ltb c.args.site played.sites (omega (arith, c.requires.inside, held.stands.number))) done.stands
    (ap (map answer_in) items ∙ map-append answer_in old.answers.items (answers.Replied bytes ∷ []) ∙ ap (λ (reply : Word). map answer_in old.answers.items ++ Replied reply ∷ []) (written ∙ done.says))
