use Rattle.std.proofs.Common.{Err, IfOk, IsTrue, List, Ok, Result, [], ap, codes, ◌∙◌, ◌≡◌}
use Rattle.std.specs.declared.alloc.AllocError.{AllocError}
use Rattle.zq_client.proofs.info.info.Goals as goal
use Rattle.zq_client.specs.Info.{clients, info_text, persistence, replication, server, stats, with_section}
use Rattle.zq_client.specs.Outcomes.{Answers}
use Rattle.zq_client.specs.declared.moment.Moment.{Moment}
use Rattle.zq_resp.specs.Reply.{bulk, is_writable, reply_bytes}
use Rattle.zq_resp.specs.declared.reply.Reply.{Reply}
use Rattle.zq_words.specs.Words.{Word, views}

-- a text that is this one is answered by its bulk string
answers_bulk : (bytes text : Word) (result : Result Reply AllocError) → IfOk result (λ reply. reply_bytes reply ≡ bulk text) → IfOk result (λ reply. IsTrue (is_writable reply)) → text ≡ bytes → Answers (bulk bytes) result
answers_bulk bytes text (Ok reply) is writable same = record { bytes_are = is ∙ ap bulk same; writable = writable }
answers_bulk bytes text (Err error) is writable same = tt

-- the sections stand one behind the other
sections : (words : List Word) (version said : Word) (now : Moment) (a b c d e f : Word) → said ≡ version → a ≡ [] → b ≡ with_section words (codes "server") (server said now) a
    → c ≡ with_section words (codes "clients") (clients now) b → d ≡ with_section words (codes "persistence") persistence c → e ≡ with_section words (codes "stats") (stats now) d
    → f ≡ with_section words (codes "replication") replication e → f ≡ info_text version now words
sections words version said now a b c d e f same empty of_server of_clients of_persistence of_stats of_replication =
    let first : b ≡ with_section words (codes "server") (server version now) [] =
    of_server ∙ ap (λ text. with_section words (codes "server") (server said now) text) empty ∙ ap (λ v. with_section words (codes "server") (server v now) []) same in
    let second = of_clients ∙ ap (λ text. with_section words (codes "clients") (clients now) text) first in
    let third = of_persistence ∙ ap (λ text. with_section words (codes "persistence") persistence text) second in
    let fourth = of_stats ∙ ap (λ text. with_section words (codes "stats") (stats now) text) third in
    of_replication ∙ ap (λ text. with_section words (codes "replication") replication text) fourth

pub returns : goal.returns
returns c =
    let words = views c.args.words.now in
    let whole = sections words c.args.profile.now.version.now c.as_bytes.result.now c.args.moment.now c.new-text.result.items c.add_server.new.text.items c.add_clients.new.text.items c.add_persistence.new.text.items c.add_stats.new.text.items
    c.add_replication.new.text.items c.as_bytes.ensures.value c.new-text.ensures.items c.in_ok-add_server.ensures c.in_ok-add_clients.ensures c.in_ok-add_persistence.ensures c.in_ok-add_stats.ensures c.in_ok-add_replication.ensures in
    answers_bulk (info_text c.args.profile.now.version.now c.args.moment.now words) c.deref.result.now c.bulk_reply.result c.bulk_reply.ensures.bytes c.bulk_reply.ensures.writable (c.deref.ensures.value ∙ whole)
