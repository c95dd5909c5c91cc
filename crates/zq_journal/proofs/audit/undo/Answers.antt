use Rattle.std.proofs.Common.{List, ap, arith, drop, false, length, refl, subst, sym, ℕ, ◌+◌, ◌-◌, ◌<◌, ◌∙◌, ◌≡◌}
use Rattle.std.proofs.lemmas.List.{drop_all}
use Rattle.std.specs.Prelude.{IfSome}
use Rattle.zq_journal.proofs.Undone.{record_here, undone_here}
use Rattle.zq_journal.proofs.Wholes.{length_over}
use Rattle.zq_journal.specs.Records.{Record, records_in, undone_at}
use Rattle.zq_model.specs.Bounded.{IsBounded}
use Rattle.zq_model.specs.Image.{is_bare}
use Rattle.zq_shard.specs.Queues.{or_none}
use Rattle.zq_shard.specs.Shard.{HeapImage, with_entry}
use Rattle.zq_journal.proofs.audit.undo.Goals as goal

pub loop-newer-init : goal.loop-newer-init
loop-newer-init c =
    let s : HeapImage = c.args.shard.now in
    let all : List Record = records_in s c.args.base.now c.args.tail.now.items in
    record {
      heap = refl;
      heaps = refl;
      rule = refl;
      image = sym (ap (λ rs. undone_at rs s.image) (drop_all (length c.args.tail.now.items - 0) all (omega (arith, length_over s.heap s.heaps c.args.base.now c.args.tail.now.items))));
    }

pub put_back-requires-clause-full : goal.put_back-requires-clause-full
put_back-requires-clause-full c =
    let i : ℕ = c.len.result - 1 - c.loop-newer.newer in
    let below : i < length c.args.tail.now.items = omega (arith, c.loop-newer-test.true, c.len.ensures, c.args.tail.now.ok.0) in
    let own = record_here c.args.shard.now c.args.base.now c.args.tail.now.items i c.index-record.result.now below c.index-record.ensures c.requires.each in
    subst (λ b. IfSome b (λ entry. is_bare entry ≡ false)) (sym c.in_ok-before.ensures) own.full

-- what put_back is asked for is one record more undone
pub put_back-requires-clause-bounded : goal.put_back-requires-clause-bounded
put_back-requires-clause-bounded c =
    let s : HeapImage = c.args.shard.now in
    let all : List Record = records_in s c.args.base.now c.args.tail.now.items in
    let i : ℕ = c.len.result - 1 - c.loop-newer.newer in
    let below : i < length c.args.tail.now.items = omega (arith, c.loop-newer-test.true, c.len.ensures, c.args.tail.now.ok.0) in
    let next : length c.args.tail.now.items - c.loop-newer.newer ≡ i + 1 = omega (arith, c.loop-newer-test.true, c.len.ensures, c.args.tail.now.ok.0) in
    let same : with_entry (c.key.result.now, c.member.result.now) (or_none c.in_ok-before.before) c.loop-newer.shard.image ≡ undone_at (drop i all) s.image =
    undone_here s c.args.base.now c.args.tail.now.items i c.index-record.result.now below c.index-record.ensures c.loop-newer.shard (c.key.result.now, c.member.result.now) c.in_ok-before.before
    (λ h K v. rw (c.key.ensures h K v, c.member.ensures h K v) refl) c.in_ok-before.ensures (c.loop-newer.invariant.image ∙ ap (λ k. undone_at (drop k all) s.image) next) in
    subst (λ a. IsBounded c.loop-newer.shard.heaps c.loop-newer.shard.heap a) (sym same)
    (subst (λ h. IsBounded c.loop-newer.shard.heaps h (undone_at (drop i all) s.image)) (sym c.loop-newer.invariant.heap)
    (subst (λ k. IsBounded k s.heap (undone_at (drop i all) s.image)) (sym c.loop-newer.invariant.heaps) (c.requires.bounded i)))

pub loop-newer-preserved : goal.loop-newer-preserved
loop-newer-preserved c =
    let s : HeapImage = c.args.shard.now in
    let all : List Record = records_in s c.args.base.now c.args.tail.now.items in
    let i : ℕ = c.len.result - 1 - c.loop-newer.newer in
    let below : i < length c.args.tail.now.items = omega (arith, c.loop-newer-test.true, c.len.ensures, c.args.tail.now.ok.0) in
    let next : length c.args.tail.now.items - c.loop-newer.newer ≡ i + 1 = omega (arith, c.loop-newer-test.true, c.len.ensures, c.args.tail.now.ok.0) in
    let last : i ≡ length c.args.tail.now.items - (c.loop-newer.newer + 1) = omega (arith, c.len.ensures, c.args.tail.now.ok.0) in
    let same : with_entry (c.key.result.now, c.member.result.now) (or_none c.in_ok-before.before) c.loop-newer.shard.image ≡ undone_at (drop i all) s.image =
    undone_here s c.args.base.now c.args.tail.now.items i c.index-record.result.now below c.index-record.ensures c.loop-newer.shard (c.key.result.now, c.member.result.now) c.in_ok-before.before
    (λ h K v. rw (c.key.ensures h K v, c.member.ensures h K v) refl) c.in_ok-before.ensures (c.loop-newer.invariant.image ∙ ap (λ k. undone_at (drop k all) s.image) next) in
    record {
      heap = c.in_ok-put_back.ensures.heap ∙ c.loop-newer.invariant.heap;
      heaps = c.in_ok-put_back.ensures.heaps ∙ c.loop-newer.invariant.heaps;
      rule = c.in_ok-put_back.ensures.rule ∙ c.loop-newer.invariant.rule;
      image = c.in_ok-put_back.ensures.image ∙ same ∙ ap (λ k. undone_at (drop k all) s.image) last;
    }
