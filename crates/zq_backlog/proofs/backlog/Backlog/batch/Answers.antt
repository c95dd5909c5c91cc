use Rattle.std.proofs.Common.{ap, arith, drop, length, max, min, subst, take, ◌+◌, ◌-◌, ◌∙◌, ◌≡◌, ◌≤◌}
use Rattle.std.proofs.lemmas.List.{length-drop, length-take}
use Rattle.zq_backlog.proofs.Chosen.{taken_is, window_is}
use Rattle.zq_backlog.proofs.Kept.{count_small}
use Rattle.zq_backlog.proofs.Looks.{are_few}
use Rattle.zq_backlog.specs.Batch.{IsLooked, MOST_LOOKED, start_of, window}
use Rattle.zq_backlog.specs.Frame.{IsFrameOf}
use Rattle.zq_backlog.specs.Log.{Log, raised}
use Rattle.zq_backlog.proofs.backlog.Backlog.batch.Goals as goal

pub copy-requires-clause-within : goal.copy-requires-clause-within
copy-requires-clause-within c =
    let ops = c.args.self.now.ops in
    let from = c.min-from.result in
    omega (arith, c.choose-choice.ensures.looked.within, c.min-from.ensures, c.len.ensures, length-take MOST_LOOKED (drop from ops), length-drop from ops)

pub copy-requires-clause-small : goal.copy-requires-clause-small
copy-requires-clause-small c =
    let ops = c.args.self.now.ops in
    let from = c.min-from.result in
    let count : length ops ≤ 18014398509481920 = omega (arith, count_small c.self.inside c.self.invariant, ap (λ (l : Log). length l.ops) c.self.view_is) in
    omega (arith, count, c.choose-choice.ensures.looked.within, c.min-from.ensures, c.len.ensures, length-take MOST_LOOKED (drop from ops), length-drop from ops)

pub copy-requires-clause-looked : goal.copy-requires-clause-looked
copy-requires-clause-looked c = omega (arith, c.choose-choice.ensures.looked.within, length-take MOST_LOOKED (drop c.min-from.result c.args.self.now.ops))

pub overflow_add-result : goal.overflow_add-result
overflow_add-result c =
    let ops = c.args.self.now.ops in
    let from = c.min-from.result in
    let all : c.self.inside.first + length ops ≤ 18014398509481920 = omega (arith, count_small c.self.inside c.self.invariant, ap (λ (l : Log). length l.ops) c.self.view_is) in
    omega (arith, all, c.max-start.ensures, c.choose-choice.ensures.looked.within, c.min-from.ensures, c.len.ensures, length-take MOST_LOOKED (drop from ops), length-drop from ops)

pub returns-clause-looked : goal.returns-clause-looked
returns-clause-looked c =
    let l = c.args.self.now in
    let first : c.self.inside.first ≡ l.first = ap (λ (x : Log). x.first) c.self.view_is in
    let k = c.choose-choice.result.looked in
    let from : c.min-from.result ≡ min (max c.args.place l.first - l.first) (length l.ops) = omega (arith, c.min-from.ensures, c.max-start.ensures, c.len.ensures, first) in
    let number : k ≡ c.max-start.result + k - start_of l c.args.place = omega (arith, c.max-start.ensures, first) in
    subst (IsLooked c.args.class.now c.args.sent.now c.args.allow (window l c.args.place)) number
    (subst (λ w. IsLooked c.args.class.now c.args.sent.now c.args.allow w k) (window_is l c.args.place c.min-from.result from) c.choose-choice.ensures.looked)

pub returns-clause-count : goal.returns-clause-count
returns-clause-count c =
    let l = c.args.self.now in
    let first : c.self.inside.first ≡ l.first = ap (λ (x : Log). x.first) c.self.view_is in
    let k = c.choose-choice.result.looked in
    let from : c.min-from.result ≡ min (max c.args.place l.first - l.first) (length l.ops) = omega (arith, c.min-from.ensures, c.max-start.ensures, c.len.ensures, first) in
    let next : c.max-start.result + k ≡ max c.args.place l.first + k = omega (arith, c.max-start.ensures, first) in
    c.choose-choice.ensures.count ∙ ap length (taken_is l c.args.place c.min-from.result k (c.max-start.result + k) c.args.class.now c.args.sent.now from next)

pub returns-clause-sent : goal.returns-clause-sent
returns-clause-sent c =
    let l = c.args.self.now in
    let first : c.self.inside.first ≡ l.first = ap (λ (x : Log). x.first) c.self.view_is in
    let k = c.choose-choice.result.looked in
    let from : c.min-from.result ≡ min (max c.args.place l.first - l.first) (length l.ops) = omega (arith, c.min-from.ensures, c.max-start.ensures, c.len.ensures, first) in
    let next : c.max-start.result + k ≡ max c.args.place l.first + k = omega (arith, c.max-start.ensures, first) in
    c.choose-choice.ensures.sent ∙ ap (raised c.args.sent.now) (taken_is l c.args.place c.min-from.result k (c.max-start.result + k) c.args.class.now c.args.sent.now from next)

pub returns-clause-frame : goal.returns-clause-frame
returns-clause-frame c =
    let l = c.args.self.now in
    let first : c.self.inside.first ≡ l.first = ap (λ (x : Log). x.first) c.self.view_is in
    let k = c.choose-choice.result.looked in
    let from : c.min-from.result ≡ min (max c.args.place l.first - l.first) (length l.ops) = omega (arith, c.min-from.ensures, c.max-start.ensures, c.len.ensures, first) in
    let next : c.max-start.result + k ≡ max c.args.place l.first + k = omega (arith, c.max-start.ensures, first) in
    subst (λ os. IsFrameOf os c.in_ok-frame.frame) (taken_is l c.args.place c.min-from.result k (c.max-start.result + k) c.args.class.now c.args.sent.now from next) c.in_ok-frame.ensures

pub returns-clause-few : goal.returns-clause-few
returns-clause-few c =
    let ops = c.args.self.now.ops in
    let k = c.choose-choice.result.looked in
    omega (arith, c.choose-choice.ensures.count, are_few c.args.class.now c.args.sent.now c.args.allow (take MOST_LOOKED (drop c.min-from.result ops)) k c.choose-choice.ensures.looked)
