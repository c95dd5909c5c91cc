use Rattle.std.proofs.Common.{ap, append-nil, drop, refl, sym, ◌+◌, ◌++◌, ◌∙◌}
use Rattle.std.specs.Int.{from_bool}
use Rattle.std.specs.Prelude.{Option, option_map}
use Rattle.zq_model.specs.Entry.{Addition, join_site}
use Rattle.zq_entry.specs.Lent.{lent}
use Rattle.zq_entry.specs.Sparse.{first_at, head_of, lower}
use Rattle.zq_entry.proofs.EntryWalks.{advanced, placed-none, placed-some, through, turn}
use Rattle.zq_entry.proofs.MergeLemmas.{merged-done}
use Rattle.zq_entry.proofs.merge.merged.Goals as goal

pub loop-site-preserved-in-Continue-branch-3 : goal.loop-site-preserved-in-Continue-branch-3
loop-site-preserved-in-Continue-branch-3 c =
    let u = c.args.mine.now in
    let v = c.args.theirs.now in
    let s = c.in-Some.site in
    let mine = c.args.my_additions.now in
    let theirs = c.args.their_additions.now in
    let head = ap (λ x. lower x (head_of (drop c.loop-site.their_place theirs))) (sym c.site_at.ensures) ∙ (ap (lower c.site_at.result) (sym c.site_at-in-loop-site.ensures) ∙ (sym c.lower_site.ensures ∙ c.in-Some.is)) in
    let first = through (λ a. (lent a).1) c.as_ref.result ∙ (ap (option_map (λ a. (lent a).1)) c.as_ref.ensures.value ∙ c.get-my_addition.ensures.first) in
    let second = through (λ a. (lent a).1) c.as_ref-in-Some.result ∙ (ap (option_map (λ a. (lent a).1)) c.as_ref-in-Some.ensures.value ∙ c.get-their_addition.ensures.first) in
    let x : Option Addition = option_map (λ a. (lent a.now).1) c.as_ref.result in
    let y : Option Addition = option_map (λ a. (lent a.now).1) c.as_ref-in-Some.result in
    let made = placed-some s (join_site u v s x y) c.in_ok-addition.field-0 c.in-Some-2.addition c.in_ok-addition.ensures c.in-Some-2.is in
    let t = turn u v s (join_site u v s x y) (drop c.loop-site.my_place mine) (drop c.loop-site.their_place theirs) (drop (c.loop-site.my_place + c.from-my_place.result) mine) (drop (c.loop-site.their_place + c.from-their_place.result) theirs) c.push.new.self c.loop-site.merged c.loop-site.invariant.mine c.loop-site.invariant.theirs head
    (ap (λ z. join_site u v s z y) first ∙ ap (join_site u v s (first_at s (drop c.loop-site.my_place mine))) second) (c.in_ok-push.ensures.pushed ∙ ap (λ zs. c.loop-site.merged ++ zs) (sym made))
    (advanced (λ a. (lent a).1) c.get-my_addition.result s c.loop-site.my_place c.from-my_place.result mine c.get-my_addition.ensures.first (c.from-my_place.ensures ∙ ap from_bool c.is_some.ensures))
    (advanced (λ a. (lent a).1) c.get-their_addition.result s c.loop-site.their_place c.from-their_place.result theirs c.get-their_addition.ensures.first (c.from-their_place.ensures ∙ ap from_bool c.is_some-in-Some.ensures)) in
    record { joined = t.joined ∙ c.loop-site.invariant.joined; mine = t.mine; theirs = t.theirs }

pub loop-site-preserved : goal.loop-site-preserved
loop-site-preserved c =
    let u = c.args.mine.now in
    let v = c.args.theirs.now in
    let s = c.in-Some.site in
    let mine = c.args.my_additions.now in
    let theirs = c.args.their_additions.now in
    let head = ap (λ x. lower x (head_of (drop c.loop-site.their_place theirs))) (sym c.site_at.ensures) ∙ (ap (lower c.site_at.result) (sym c.site_at-in-loop-site.ensures) ∙ (sym c.lower_site.ensures ∙ c.in-Some.is)) in
    let first = through (λ a. (lent a).1) c.as_ref.result ∙ (ap (option_map (λ a. (lent a).1)) c.as_ref.ensures.value ∙ c.get-my_addition.ensures.first) in
    let second = through (λ a. (lent a).1) c.as_ref-in-Some.result ∙ (ap (option_map (λ a. (lent a).1)) c.as_ref-in-Some.ensures.value ∙ c.get-their_addition.ensures.first) in
    let x : Option Addition = option_map (λ a. (lent a.now).1) c.as_ref.result in
    let y : Option Addition = option_map (λ a. (lent a.now).1) c.as_ref-in-Some.result in
    let made = placed-none s (join_site u v s x y) c.in_ok-addition.field-0 c.in_ok-addition.ensures c.in_default-2.is in
    let t = turn u v s (join_site u v s x y) (drop c.loop-site.my_place mine) (drop c.loop-site.their_place theirs) (drop (c.loop-site.my_place + c.from-my_place.result) mine) (drop (c.loop-site.their_place + c.from-their_place.result) theirs) c.loop-site.merged c.loop-site.merged c.loop-site.invariant.mine c.loop-site.invariant.theirs head
    (ap (λ z. join_site u v s z y) first ∙ ap (join_site u v s (first_at s (drop c.loop-site.my_place mine))) second) (sym (append-nil c.loop-site.merged) ∙ ap (λ zs. c.loop-site.merged ++ zs) (sym made))
    (advanced (λ a. (lent a).1) c.get-my_addition.result s c.loop-site.my_place c.from-my_place.result mine c.get-my_addition.ensures.first (c.from-my_place.ensures ∙ ap from_bool c.is_some.ensures))
    (advanced (λ a. (lent a).1) c.get-their_addition.result s c.loop-site.their_place c.from-their_place.result theirs c.get-their_addition.ensures.first (c.from-their_place.ensures ∙ ap from_bool c.is_some-in-Some.ensures)) in
    record { joined = t.joined ∙ c.loop-site.invariant.joined; mine = t.mine; theirs = t.theirs }

pub returns : goal.returns
returns c =
    let h = join_site c.args.mine.now c.args.theirs.now in
    let none = ap (λ x. lower x (head_of (drop c.loop-site.their_place c.args.their_additions.now))) (sym c.site_at.ensures) ∙ (ap (lower c.site_at.result) (sym c.site_at-in-loop-site.ensures) ∙ (sym c.lower_site.ensures ∙ c.in_default.is)) in
    sym (merged-done h c.loop-site.merged (drop c.loop-site.my_place c.args.my_additions.now) (drop c.loop-site.their_place c.args.their_additions.now) (λ s. refl) none) ∙ c.loop-site.invariant.joined
