use Rattle.std.proofs.Common.{Global, Vec, ap, map, ℕ, ◌∙◌}
use Rattle.zq_keeper.proofs.Written.{are_batches}
use Rattle.zq_keeper.proofs.rounds.round_of.Goals as goal

pub returns-clause-entry : goal.returns-clause-entry
returns-clause-entry c =
    c.in_ok-entry.ensures.spelled c.args.batches.now
    (ap (map (λ (b : Vec ℕ Global). b.items)) c.deref.ensures.value ∙ c.in_ok-written.ensures.written)
    (are_batches c.args.identity.now c.args.batches.now c.deref_mut.result.now
    c.note_batches.new.outlines c.in_ok-note_batches.ensures.noted c.in_ok-written.ensures.short)
