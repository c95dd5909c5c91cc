use Rattle.std.proofs.Common.{Global, Vec, sym, ℕ, ◌∙◌}
use Rattle.zq_keeper.proofs.Written.{none_short, none_written, one_short, one_written}
use Rattle.zq_keeper.proofs.rounds.write_more.Goals as goal

pub returns-then-is_chosen-clause-written : goal.returns-then-is_chosen-clause-written
returns-then-is_chosen-clause-written c =
    one_written (λ (b : Vec ℕ Global). b.items) c.args.parts.now c.args.batch.now
    c.args.written.now.items c.push.new.self.items c.in_ok-bytes.bytes c.in_ok-push.ensures.items
    c.in_ok-bytes.ensures.written (sym c.is_chosen.ensures ∙ c.if-is_chosen.true)

pub returns-then-is_chosen-clause-short : goal.returns-then-is_chosen-clause-short
returns-then-is_chosen-clause-short c =
    one_short c.args.parts.now c.args.batch.now (sym c.is_chosen.ensures ∙ c.if-is_chosen.true)
    c.in_ok-bytes.ensures.short

pub returns-clause-written : goal.returns-clause-written
returns-clause-written c =
    none_written (λ (b : Vec ℕ Global). b.items) c.args.parts.now c.args.batch.now
    c.args.written.now.items (sym c.is_chosen.ensures ∙ c.if-is_chosen.false)

pub returns-clause-short : goal.returns-clause-short
returns-clause-short c =
    none_short c.args.parts.now c.args.batch.now (sym c.is_chosen.ensures ∙ c.if-is_chosen.false)
