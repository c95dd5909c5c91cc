use Rattle.std.proofs.Common.{[], ap, map, rules, ◌++◌, ◌∙◌, ◌∷◌, ◌≡◌}
use Rattle.std.proofs.lemmas.Int.{to_z-of_z}
use Rattle.std.specs.Int.{w128}
use Rattle.zq_commands.proofs.FirstPairs.{copied_first, none_copied}
use Rattle.zq_commands.proofs.PoppedParts.{copied_bytes, copied_writable, with_copied}
use Rattle.zq_commands.specs.Lending.{queues_in}
use mir.Val.{SFits}
use Rattle.zq_resp.specs.Reply.{bulk, reply_bytes}
use Rattle.zq_resp.specs.declared.reply.Reply.{Bulk, Number}
use Rattle.zq_commands.proofs.zpopmin.pop_one.Goals as goal

pub returns-in-None-clause-empty : goal.returns-in-None-clause-empty
returns-in-None-clause-empty g c = λ _. none_copied (queues_in (g.B.Books.lent c.args.books.now) c.args.key.now) c.in_ok-pair.field-0 c.in-None.is c.in_ok-pair.ensures.copied

pub returns-clause-popped : goal.returns-clause-popped
returns-clause-popped g c = λ _.
    let q = queues_in (g.B.Books.lent c.args.books.now) c.args.key.now in
    let drops = c.in-Ok.ensures.dropped in
    let fits : SFits w128 c.in-Some.pair.score = search rules in
    let items : c.push_reserved-2.new.self.items ≡ with_copied c.args.parts.now.items c.in-Some.pair
    = c.push_reserved-2.ensures.items ∙ ap (λ n. c.push_reserved.new.self.items ++ Number n ∷ []) (to_z-of_z w128 c.in-Some.pair.score fits) ∙ ap (λ ps. ps ++ Number c.in-Some.pair.score ∷ []) (c.push_reserved.ensures.items ∙ ap (λ ps. ps ++ Bulk c.in-Some.pair.member ∷ []) c.reserve.ensures.items) in
    record {
      drops = drops;
      parts =
          ap (map reply_bytes) items ∙ copied_bytes c.args.parts.now.items c.in-Some.pair
          ∙ ap (λ ws. map reply_bytes c.args.parts.now.items ++ map bulk ws) (copied_first q drops.rest drops.first c.in_ok-pair.field-0 c.in-Some.pair c.in-Some.is drops.was c.in_ok-pair.ensures.copied);
    }

pub returns-clause-writable : goal.returns-clause-writable
returns-clause-writable g c =
    let fits : SFits w128 c.in-Some.pair.score = search rules in
    copied_writable c.args.parts.now.items c.push_reserved-2.new.self.items c.in-Some.pair
    (c.push_reserved-2.ensures.items ∙ ap (λ n. c.push_reserved.new.self.items ++ Number n ∷ []) (to_z-of_z w128 c.in-Some.pair.score fits) ∙ ap (λ ps. ps ++ Number c.in-Some.pair.score ∷ []) (c.push_reserved.ensures.items ∙ ap (λ ps. ps ++ Bulk c.in-Some.pair.member ∷ []) c.reserve.ensures.items))
