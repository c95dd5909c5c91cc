use Rattle.std.proofs.Common.{ap, sym, ◌∙◌, ◌≡◌}
use Rattle.std.specs.Prelude.{length, map, reverse, ◌-◌}
use Rattle.zq_queue.proofs.Listeds.{length-listed_entries}
use Rattle.zq_queue.proofs.Parts.{map_reversed, turned_part}
use Rattle.zq_queue.specs.Lent.{lent_pair}
use Rattle.zq_queue.specs.Listed.{listed, part}
use Rattle.zq_queue.proofs.queue.Queue.slice_turned.Goals as goal

pub returns : goal.returns
returns c =
    let its = c.self.inside.members in
    let queue = listed c.args.self.now.rule c.args.self.now.entries in
    let pairs = c.in_ok-pairs.pairs.items in
    let long : c.len-len.result ≡ length queue
    = c.len-len.ensures.number ∙ sym (length-listed_entries its.rule its.entries c.len-len.ensures.kept) ∙ ap (λ q. length (listed q.rule q.entries)) c.self.view_is in
    let low = c.saturating_sub.ensures ∙ ap (λ n. n - c.args.to) long in
    let high = c.saturating_sub-2.ensures ∙ ap (λ n. n - c.args.from) long in
    ap (map lent_pair) c.reverse.ensures.items ∙ map_reversed lent_pair pairs
    ∙ ap reverse (c.in_ok-pairs.ensures ∙ (λ k. part (low k) (high k) queue)) ∙ turned_part queue c.args.from c.args.to
