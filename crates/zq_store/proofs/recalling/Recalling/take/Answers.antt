use Rattle.std.proofs.Common.{ap, sym, ◌∙◌}
use Rattle.zq_entries.specs.Reading.{entry_at}
use Rattle.zq_keeper.proofs.Taking.{taken}
use Rattle.zq_store.proofs.recalling.Recalling.take.Goals as goal

pub returns-in-Ok-clause-taken : goal.returns-in-Ok-clause-taken
returns-in-Ok-clause-taken g c =
    taken c.take.result c.args.self.now.reader (record { recovery = c.take.new.self })
    c.args.payload.now c.in-Ok.entry (ap entry_at (sym c.body.ensures) ∙ c.in-Ok.ensures.exact)
    c.take.ensures.opens c.take.ensures.does c.take.ensures.identity
