use Rattle.std.proofs.Common.{Global, Vec, ap, map, subst, ℕ, ◌∙◌}
use Rattle.std.specs.Prelude.{All}
use Rattle.zq_entries.specs.Together.{batch_of}
use Rattle.zq_keeper.proofs.Written.{are_batches}
use Rattle.zq_keeper.specs.Operations.{IsShort, chosen}
use Rattle.zq_keeper.proofs.rounds.share_of.Goals as goal

pub returns-clause-share : goal.returns-clause-share
returns-clause-share c =
    let n = c.args.next.now in
    let batches = c.args.batches.now in
    let some = chosen n.parts.items batches in
    record {
      entry = c.in_ok-entry.ensures.spelled some
          (ap (map (λ (b : Vec ℕ Global). b.items)) c.deref-2.ensures.value
          ∙ (c.in_ok-written.ensures.written
          ∙ ap (λ ps. map batch_of (chosen ps batches)) c.deref.ensures.value))
          (are_batches c.args.identity.now some n.heaps.items c.in_ok-after.after.heaps.items
          c.in_ok-after.ensures.noted
          (subst (λ ps. All IsShort (chosen ps batches)) c.deref.ensures.value
          c.in_ok-written.ensures.short));
      noted = c.in_ok-after.ensures.noted;
      parts = c.in_ok-after.ensures.parts;
    }
