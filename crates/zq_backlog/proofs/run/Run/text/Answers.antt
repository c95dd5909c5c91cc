use Rattle.std.proofs.Common.{[], ap, arith, get_or, length, rules, slice_range, sym, ◌<◌, ◌∙◌, ◌≡◌, ◌≤◌}
use Rattle.std.proofs.lemmas.List.{get_or_read}
use Rattle.std.specs.Vec.{vec_len}
use Rattle.zq_backlog.proofs.Runs.{cut_at, ends_within, length-cut, starts_before}
use Rattle.zq_backlog.specs.Run.{start_at}
use Rattle.zq_backlog.proofs.run.Run.text.Goals as goal

pub start_at-start-requires : goal.start_at-start-requires
start_at-start-requires c =
    let r = c.self.inside in
    let long : length r.ends.items ≡ length c.args.self.now = sym (length-cut 0 r.ends.items r.bytes.items) ∙ ap length c.self.view_is in
    let same : length c.deref.result.now ≡ length r.ends.items = ap length c.deref.ensures.value in
    omega (arith, long, same, c.requires)

pub index-requires : goal.index-requires
index-requires c =
    let r = c.self.inside in
    let long : length r.ends.items ≡ length c.args.self.now = sym (length-cut 0 r.ends.items r.bytes.items) ∙ ap length c.self.view_is in
    let count : vec_len r.ends ≡ length r.ends.items = search rules in
    omega (arith, long, count, c.requires)

pub slice_bounds-result-count : goal.slice_bounds-result-count
slice_bounds-result-count c =
    let r = c.self.inside in
    let k = c.args.number in
    let long : length r.ends.items ≡ length c.args.self.now = sym (length-cut 0 r.ends.items r.bytes.items) ∙ ap length c.self.view_is in
    let in' : k < length r.ends.items = omega (arith, long, c.requires) in
    let start : c.start_at-start.result ≡ start_at 0 r.ends.items k = c.start_at-start.ensures ∙ ap (λ ends. start_at 0 ends k) c.deref.ensures.value in
    let end : c.index.result.now ≡ get_or r.ends.items k 0 = get_or_read r.ends.items k c.index.result.now in' c.index.ensures 0 in
    omega (arith, start, end, starts_before k 0 (length r.bytes.items) r.ends.items c.self.invariant.ends in')

pub slice_bounds-result-end : goal.slice_bounds-result-end
slice_bounds-result-end c =
    let r = c.self.inside in
    let k = c.args.number in
    let long : length r.ends.items ≡ length c.args.self.now = sym (length-cut 0 r.ends.items r.bytes.items) ∙ ap length c.self.view_is in
    let in' : k < length r.ends.items = omega (arith, long, c.requires) in
    let end : c.index.result.now ≡ get_or r.ends.items k 0 = get_or_read r.ends.items k c.index.result.now in' c.index.ensures 0 in
    let same : length c.deref-2.result.now ≡ length r.bytes.items = ap length c.deref-2.ensures.value in
    let within : get_or r.ends.items k 0 ≤ length r.bytes.items = ends_within k 0 (length r.bytes.items) r.ends.items c.self.invariant.ends in' in
    omega (arith, end, same, within)

pub slice_bounds-result-start : goal.slice_bounds-result-start
slice_bounds-result-start c =
    let below : c.start_at-start.result ≤ c.index.result.now = slice_bounds-result-count c in
    let within = slice_bounds-result-end c in
    omega (arith, below, within)

pub returns : goal.returns
returns c =
    let r = c.self.inside in
    let k = c.args.number in
    let long : length r.ends.items ≡ length c.args.self.now = sym (length-cut 0 r.ends.items r.bytes.items) ∙ ap length c.self.view_is in
    let in' : k < length r.ends.items = omega (arith, long, c.requires) in
    let start : c.start_at-start.result ≡ start_at 0 r.ends.items k = c.start_at-start.ensures ∙ ap (λ ends. start_at 0 ends k) c.deref.ensures.value in
    let end : c.index.result.now ≡ get_or r.ends.items k 0 = get_or_read r.ends.items k c.index.result.now in' c.index.ensures 0 in
    (λ i. slice_range (c.deref-2.ensures.value i) (start i) (end i))
    ∙ sym (cut_at k 0 r.ends.items r.bytes.items in')
    ∙ ap (λ texts. get_or texts k []) c.self.view_is
