use Rattle.std.proofs.Common.{ap, inl, inr, refl}
use Rattle.std.specs.Prelude.{Err, []}
use Rattle.zq_session.proofs.transacting.CallingTransacts.watch.Goals as goal
use Rattle.zq_spread.specs.declared.faults.ReadFault.{ReadFault}

pub returns-in-Err-Worn-clause-watched : goal.returns-in-Err-Worn-clause-watched
returns-in-Err-Worn-clause-watched g c =
    let worn = c.in-Err-Worn.ensures.worn (ap (λ (fault : ReadFault). Err fault) c.in-Err-Worn.field-0-is) in
    (refl, record { site = c.watch.ensures.site; watched = (worn.0, worn.1, worn.2, inl worn.3.0); draws = c.watch.ensures.draws })

pub returns-in-Err-NoMemory-clause-watched : goal.returns-in-Err-NoMemory-clause-watched
returns-in-Err-NoMemory-clause-watched g c = (
  refl,
  record {
    site = c.watch.ensures.site;
    watched = ([], c.watch.new.self.own.now.pass, c.in-Err-NoMemory.ensures.short (ap (λ (fault : ReadFault). Err fault) c.in-Err-NoMemory.field-0-is), inr refl);
    draws = c.watch.ensures.draws;
  },
)
