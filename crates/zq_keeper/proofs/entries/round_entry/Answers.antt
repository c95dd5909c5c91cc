use Rattle.std.proofs.Common.{Global, Vec, ap, ℕ, ◌∙◌}
use Rattle.zq_entries.specs.Entry.{OfRound}
use Rattle.zq_entries.specs.Reading.{entry_at}
use Rattle.zq_keeper.proofs.Written.{is_round}
use Rattle.zq_keeper.proofs.entries.round_entry.Goals as goal

pub returns-clause-spelled : goal.returns-clause-spelled
returns-clause-spelled c = λ round same each.
    (let spelled = c.in_ok-entry.ensures.entry round same in
    record {
      spelled = spelled;
      read = ap entry_at spelled ∙ c.entry_has_one_spelling.ensures.again (OfRound round)
          (is_round (λ (b : Vec ℕ Global). b.items) c.args.written.now round same
          c.in_ok-entry.ensures.some c.in_ok-entry.ensures.few each);
    })
